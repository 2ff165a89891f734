-- What is known of a network that stands where the rounds of its run lead.
use Rattle.std.proofs.Common.{◌≡◌, ◌<◌, ◌≤◌, ℕ, zero, suc, Bool, List, [], ◌∷◌, Some, ap, false, is_some, length, map, refl, subst, sym, true, ◌∙◌}
use Rattle.std.specs.Prelude.{slice_get}
use Rattle.std.specs.Option.{option_and_then}
use Rattle.std.proofs.lemmas.List.{length-map}
use Rattle.std.proofs.lemmas.List.FromFn.{length-map-range_with_len}
use Rattle.axi_link.specs.LinkView.{LinkView}
use Rattle.axi_link.specs.LinkWords.{head_of, link_of}
use Rattle.axi_link.specs.Moves.{takes_from}
use Rattle.axi_link.specs.declared.out.Out.{Out}
use Rattle.axi_history.specs.declared.port.PortKind.{PortKind}
use Rattle.elaborate.specs.Plan.{plan_link_at, plan_links, plan_nodes}
use Rattle.link_ports.specs.PortView.{channel_seen, port_of, seen_address, seen_itself, seen_read_beat, seen_response}
use Rattle.net_build.proofs.BusLemmas.{link-within}
use Rattle.net_build.proofs.KeptLemmas.{nodes-are, turns}
use Rattle.net_build.specs.NetRun.{NetRun, network_of_run}
use Rattle.net_build.specs.Noted.{byte_by, byte_noted}
use Rattle.net_build.specs.Shown.{is_shown}
use Rattle.net_build.specs.Stands.{StandsAt}
use Rattle.net_kinds.specs.NodeKind.{NodeState, node_kind, node_view}
use Rattle.net_kinds.specs.declared.node.Node.{Node}
use Rattle.net_model.specs.Network.{Network, after_decide, lower_node, moves_at, net_link, node_next, upper_node}
use Rattle.net_model.specs.declared.net_link.NetLink.{NetLink}
use Rattle.net_opening.specs.Opening.{opening, state_at}
use Rattle.net_opening.specs.PlanLinks.{net_link_of, queue_of}
use Rattle.net_plan.proofs.LinkLists.{at-some, made-into, some-at}
use Rattle.net_runs.proofs.RoundLemmas.{links-stay, nodes-after, queues-long}
use Rattle.net_runs.specs.Ports.{port_at, port_kind}
use Rattle.net_runs.specs.Run.{nodes_after, queues_after}
use Rattle.net_steps.specs.NetView.{NetView}
use Rattle.net_steps.specs.Offers.{offers_beat}
use Rattle.node_core.specs.Acted.{Acted, opened}
use Rattle.node_graph.specs.Graph.{numbers}
use Rattle.plan_traffic.specs.Traffic.{TrafficItem}
use Rattle.topology.specs.Document.{DocumentNode, no_link}
use Rattle.topology.specs.Refused.{IsAccepted}
use Rattle.topology_text.specs.Formed.{AreFormed}

-- ---- the nodes and links of a run

links-stand : (run : NetRun) → (network_of_run run).links ≡ map net_link_of (plan_links run.nodes)
unfolding after_decide
links-stand run = by run.decided
  where
    by : (decided : Bool) → (network_of_run (record run { decided = decided })).links ≡ map net_link_of (plan_links run.nodes)
    by true = links-stay node_kind (opening run.nodes run.items) run.rounds
    by false = links-stay node_kind (opening run.nodes run.items) run.rounds

queues-stand : (run : NetRun) → (network_of_run run).queues ≡ queues_after node_kind (opening run.nodes run.items) run.rounds
unfolding after_decide
queues-stand run = by run.decided
  where
    by : (decided : Bool) → (network_of_run (record run { decided = decided })).queues ≡ queues_after node_kind (opening run.nodes run.items) run.rounds
    by true = refl
    by false = refl

nodes-long : (net : Network NodeState) (n : ℕ) → length (nodes_after node_kind net n) ≡ length net.nodes
nodes-long net zero = refl
nodes-long net (suc n) = ap length (nodes-after node_kind net n) ∙ length-map (nodes_after node_kind net n) (node_next node_kind (suc n) (queues_after node_kind net n)) ∙ nodes-long net n

-- ---- what a port shows

seen-some : {X Y : Type 0} (seen_as : X → Y) (takes : Bool) (queue : List X) → is_some (channel_seen seen_as takes queue) ≡ is_some (head_of queue)
seen-some seen_as takes [] = refl
seen-some seen_as takes (x ∷ queue) = refl

shown-is : (round number : ℕ) (kind : PortKind) (link : LinkView) (upper lower : Out) → is_shown (port_of round number kind link upper lower) ≡ offers_beat link
shown-is round number kind link upper lower =
    rw (
      seen-some seen_address (takes_from number lower.aw_take) link.aw,
      seen-some seen_itself (takes_from number lower.w_take) link.w,
      seen-some seen_response (takes_from number upper.b_take) link.b,
      seen-some seen_address (takes_from number lower.ar_take) link.ar,
      seen-some seen_read_beat (takes_from number upper.r_take) link.r,
    ) refl

-- a port shows a beat where its link offers one
pub offers-shown : (net : Network NodeState) (number round : ℕ) → offers_beat (link_of net.queues number) ≡ is_shown (port_at round net number)
offers-shown net number round =
    sym
    (shown-is round number (port_kind (net_link net.links number)) (link_of net.queues number) (moves_at net.nodes (upper_node net.links number)) (moves_at net.nodes (lower_node net.links number)))

module _ (nodes : List DocumentNode) (items : List TrafficItem) (net : NetView) (at : StandsAt nodes items net) where
  abbrev run : NetRun
  run = record { nodes = nodes; items = items; rounds = net.rounds; decided = net.decided }

  pub links-are : net.links ≡ map net_link_of (plan_links nodes)
  links-are = ap (λ (n : Network NodeState). n.links) at.stands ∙ links-stand run

  pub links-count : length net.links ≡ length (plan_links nodes)
  links-count = ap length links-are ∙ length-map (plan_links nodes) net_link_of

  pub queues-count : length net.queues ≡ length (plan_links nodes)
  queues-count =
      ap (λ (n : Network NodeState). length n.queues) at.stands ∙ ap length (queues-stand run) ∙ queues-long node_kind (opening nodes items) net.rounds
      ∙ length-map (plan_links nodes) queue_of

  pub nodes-count : length net.nodes ≡ length (plan_nodes nodes)
  unfolding numbers
  nodes-count =
      sym (length-map net.nodes node_view) ∙ ap (λ (n : Network NodeState). length n.nodes) at.stands ∙ ap length (nodes-are run) ∙ nodes-long (opening nodes items) (turns run)
      ∙ length-map-range_with_len (λ (n : ℕ). opened (state_at nodes items n)) 0 (length (plan_nodes nodes))

  -- a node, as its run has it
  pub node-stands : (number : ℕ) (node : Node) → slice_get net.nodes number ≡ Some node → slice_get (network_of_run run).nodes number ≡ Some (node_view node)
  node-stands number node there = ap (λ (n : Network NodeState). slice_get n.nodes number) (sym at.stands) ∙ made-into node_view net.nodes number node there

  pub byte-is : (number address : ℕ) (node : Node) → slice_get net.nodes number ≡ Some node → byte_by (node_view node).state.kind (node_view node).state.state address ≡ byte_noted run number address
  byte-is number address node there =
      sym (ap (option_and_then (λ (a : Acted NodeState). byte_by a.state.kind a.state.state address)) (node-stands number node there))

  -- no port is wider than 128 bytes
  pub bus-within : IsAccepted nodes → AreFormed nodes → (number round : ℕ) → number < length (plan_links nodes) → (port_at round (network_of_run run) number).kind.bus ≤ 128
  bus-within accepted formed number round less =
      let there : net_link (network_of_run run).links number ≡ net_link_of (plan_link_at nodes number) =
      ap (λ (links : List NetLink). net_link links number) (links-stand run)
      ∙ at-some (map net_link_of (plan_links nodes)) number (net_link_of (plan_link_at nodes number)) (record { upper = 0; lower = 0; lite = false; bus = 0; id_width = 0; depth = 0 })
      (made-into net_link_of (plan_links nodes) number (plan_link_at nodes number) (some-at (plan_links nodes) number (record { upper = 0; lower = 0; link = no_link; depth = 0 }) less)) in
      subst (λ (link : NetLink). link.bus ≤ 128) (sym there) (link-within nodes accepted formed number less)
