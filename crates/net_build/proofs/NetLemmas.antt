-- A network stands where the rounds of its run lead.
use Rattle.std.proofs.Common.{◌≡◌, ◌<◌, ◌+◌, ◌-◌, ◌^◌, ℕ, suc, Bool, List, false, true, ap, ap₂, arith, map, subst, sym, ◌∙◌}
use Rattle.std.proofs.lemmas.Bool.{false≢true}
use Rattle.std.proofs.lemmas.Simd.{map-map}
use Rattle.axi_link.specs.LinkView.{LinkView, empty_link}
use Rattle.elaborate.specs.Plan.{plan_links}
use Rattle.net_build.specs.Stands.{StandsAt}
use Rattle.net_build.specs.NetRun.{network_of_run}
use Rattle.net_kinds.specs.NodeKind.{NodeState, node_kind, node_view}
use Rattle.net_kinds.specs.declared.node.Node.{Node}
use Rattle.net_model.specs.Network.{Network, after_commit, after_decide, after_rounds}
use Rattle.net_model.specs.declared.net_link.NetLink.{NetLink}
use Rattle.net_opening.specs.Opening.{opening}
use Rattle.net_opening.specs.PlanLinks.{form_of_link, net_link_of}
use Rattle.net_steps.proofs.RunLemmas.{sound-nets_commit, sound-nets_decide}
use Rattle.net_steps.specs.NetView.{CanCommit, CanDecide, NetView, decided_in, network_of, opened_net}
use Rattle.net_ways.specs.Sound.{IsSound}
use Rattle.node_core.specs.Acted.{Acted}
use Rattle.plan_traffic.specs.Traffic.{TrafficItem}
use Rattle.topology.specs.Document.{DocumentNode}

module _ (nodes : List DocumentNode) (items : List TrafficItem) where
  abbrev start : Network NodeState
  start = opening nodes items

  -- ---- before the first round

  pub stands-new : (made : List Node) (links : List NetLink) → map node_view made ≡ start.nodes → links ≡ map net_link_of (plan_links nodes) →
      StandsAt nodes items (opened_net made links)
  stands-new made links are same = record {
    stands =
        ap₂ (λ (all : List (Acted NodeState)) (joined : List NetLink). network all joined (map (λ (link : NetLink). empty_link link.depth) joined)) are same
        ∙ ap (network start.nodes start.links) (map-map (λ (link : NetLink). empty_link link.depth) net_link_of (plan_links nodes));
    ready = λ e. absurd (false≢true e);
  }
    where
      network : List (Acted NodeState) → List NetLink → List LinkView → Network NodeState
      network all joined queues = record { nodes = all; links = joined; queues = queues }

  -- ---- between rounds, and where the nodes have decided

  between : (net : NetView) → StandsAt nodes items net → net.decided ≡ false → network_of net ≡ after_rounds node_kind net.rounds start
  between net at undecided =
      subst (λ (decided : Bool). network_of net ≡ network_of_run (record { nodes = nodes; items = items; rounds = net.rounds; decided = decided })) undecided at.stands

  amid : (net : NetView) → StandsAt nodes items net → net.decided ≡ true → network_of net ≡ after_decide node_kind (net.rounds + 1) (after_rounds node_kind net.rounds start)
  amid net at decided =
      subst (λ (decided : Bool). network_of net ≡ network_of_run (record { nodes = nodes; items = items; rounds = net.rounds; decided = decided })) decided at.stands

  pub can-decide : (net : NetView) → IsSound node_kind start (form_of_link nodes) → StandsAt nodes items net → net.decided ≡ false → net.rounds < 2 ^ 63 - 1 → CanDecide net
  can-decide net sound at undecided room = sound-nets_decide start (form_of_link nodes) sound net undecided room (between net at undecided)

  pub stands-decided : (net next : NetView) → IsSound node_kind start (form_of_link nodes) → StandsAt nodes items net → net.decided ≡ false → next ≡ decided_in net →
      network_of next ≡ after_decide node_kind (net.rounds + 1) (network_of net) → StandsAt nodes items next
  stands-decided net next sound at undecided is network = record {
    stands =
        subst (λ (v : NetView). network_of next ≡ network_of_run (record { nodes = nodes; items = items; rounds = v.rounds; decided = v.decided })) (sym is)
        (network ∙ ap (after_decide node_kind (net.rounds + 1)) (between net at undecided));
    ready = λ e. subst CanCommit (sym is) (sound-nets_commit start (form_of_link nodes) sound net (between net at undecided));
  }

  pub stands-committed : (net next : NetView) → StandsAt nodes items net → net.decided ≡ true → network_of next ≡ after_commit (network_of net) → next.rounds ≡ net.rounds + 1 →
      next.decided ≡ false → StandsAt nodes items next
  stands-committed net next at decided network rounds undecided = record {
    stands =
        subst (λ (d : Bool). network_of next ≡ network_of_run (record { nodes = nodes; items = items; rounds = next.rounds; decided = d })) (sym undecided)
        (subst (λ (n : ℕ). network_of next ≡ after_rounds node_kind n start) number
        (network ∙ ap after_commit (amid net at decided)
        ∙ ap (λ (n : ℕ). after_commit (after_decide node_kind n (after_rounds node_kind net.rounds start))) (omega arith)));
    ready = λ e. absurd (false≢true (sym undecided ∙ e));
  }
    where
      number : suc net.rounds ≡ next.rounds
      number = omega (arith, rounds)
