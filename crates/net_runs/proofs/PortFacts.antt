-- Every port of a network is legal.
use Rattle.std.proofs.Common.{◌≡◌, ◌∷◌, [], ◌++◌, ℕ, zero, suc, List, refl, ap, ap₂, ◌∙◌}
use Rattle.axi_history.specs.declared.port.PortRound.{PortRound}
use Rattle.axi_link.specs.LinkWords.{link_of}
use Rattle.link_ports.proofs.WordFacts.{links_keep_their_rules}
use Rattle.link_ports.specs.PortView.{port_history, port_of, port_round}
use Rattle.lite_rules.specs.PortFaults.{history_fault}
use Rattle.net_model.specs.Network.{Network, after_decide, after_rounds, lower_node, net_link, upper_node}
use Rattle.net_model.specs.declared.net_link.NetLink.{NetLink}
use Rattle.net_runs.proofs.ContractFacts.{runs-keep}
use Rattle.net_runs.proofs.RoundLemmas.{links-run, links-stay}
use Rattle.net_runs.specs.Ports.{PortsAreLegal, history_of, port_at, port_kind}
use Rattle.net_runs.specs.Run.{chosen, queues_after}
use Rattle.node_shape.specs.Kind.{Kind}
use Rattle.node_shape.specs.KindHolds.{KindHolds}

module _ {S E : Type 0} (kind : Kind S E) (net : Network S) (link : ℕ) where
  abbrev port_by : List NetLink → ℕ → PortRound
  port_by links n =
      port_of (suc n) link (port_kind (net_link links link)) (link_of (queues_after kind net n) link) (chosen kind net (upper_node links link) n) (chosen kind net (lower_node links link) n)

  port-is : (n : ℕ) → port_at (suc n) (after_decide kind (suc n) (after_rounds kind n net)) link ≡ port_by (after_rounds kind n net).links n
  unfolding after_decide
  port-is n = refl

  round-is :
      (n : ℕ) → port_at (suc n) (after_decide kind (suc n) (after_rounds kind n net)) link
      ≡ port_round link (port_kind (net_link net.links link)) (queues_after kind net) (chosen kind net (upper_node net.links link)) (chosen kind net (lower_node net.links link)) n
  round-is n = port-is n ∙ ap (λ (links : List NetLink). port_by links n) (links-stay kind net n)

  history-is :
      (n : ℕ) → history_of kind n net link
      ≡ port_history link (port_kind (net_link net.links link)) (queues_after kind net) (chosen kind net (upper_node net.links link)) (chosen kind net (lower_node net.links link)) n
  history-is zero = refl
  history-is (suc n) = ap₂ (λ (before : List PortRound) (now : PortRound). before ++ now ∷ []) (history-is n) (round-is n)

pub ports-are_legal : {S E : Type 0} (kind : Kind S E) → KindHolds kind → PortsAreLegal kind
ports-are_legal kind holds net schedules now wired scheduled link known legal words rounds =
    ap (history_fault (port_kind (net_link net.links link))) (history-is kind net link rounds)
    ∙ links_keep_their_rules (schedules link) now link (port_kind (net_link net.links link)) (queues_after kind net) (chosen kind net (upper_node net.links link))
    (chosen kind net (lower_node net.links link)) (links-run kind net wired link known) legal words
    (λ n. (runs-keep kind holds net schedules now wired scheduled n).asked link known) (λ n. (runs-keep kind holds net schedules now wired scheduled n).answered link known) rounds
