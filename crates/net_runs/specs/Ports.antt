-- The ports of a network: every link is one, of which a round is seen between its two phases.
use Rattle.std.specs.Prelude.{◌≡◌, ◌<◌, ◌++◌, ◌∷◌, [], ℕ, zero, suc, List, None, true, length}
use Rattle.axi_history.specs.declared.port.PortKind.{PortKind}
use Rattle.axi_history.specs.declared.port.PortRound.{PortRound}
use Rattle.axi_link.specs.LinkWords.{link_of}
use Rattle.axi_trail.specs.Schedule.{Progress, Schedule}
use Rattle.link_ports.specs.PortView.{port_of}
use Rattle.link_ports.specs.WordSchedule.{IsWordSchedule}
use Rattle.lite_rules.specs.PortFaults.{history_fault}
use Rattle.net_model.specs.Network.{Network, after_decide, after_rounds, lower_node, moves_at, net_link, upper_node}
use Rattle.net_model.specs.Wired.{IsWired}
use Rattle.net_model.specs.declared.net_link.NetLink.{NetLink}
use Rattle.net_runs.specs.RunKeeps.{IsScheduled}
use Rattle.node_shape.specs.Kind.{Kind}
use Rattle.node_shape.specs.LegalSchedule.{IsLegalSchedule}

abbrev pub port_kind : NetLink → PortKind
port_kind link = record { lite = link.lite; bus = link.bus }

-- the port of a link in a round in which the nodes have decided
abbrev pub port_at : {S : Type 0} → ℕ → Network S → ℕ → PortRound
port_at round net number =
    port_of round number (port_kind (net_link net.links number)) (link_of net.queues number) (moves_at net.nodes (upper_node net.links number))
    (moves_at net.nodes (lower_node net.links number))

module _ {S E : Type 0} (kind : Kind S E) where
  -- the history of a link's port in the first rounds of a run
  abbrev pub history_of : ℕ → Network S → ℕ → List PortRound
  history_of zero net number = []
  history_of (suc n) net number = history_of n net number ++ port_at (suc n) (after_decide kind (suc n) (after_rounds kind n net)) number ∷ []

  -- every port whose link has legal bursts to carry, on AXI4-Lite words alone, breaks none of the rules of its kind, after
  -- any number of rounds
  abbrev pub PortsAreLegal : Type 0
  PortsAreLegal =
      (net : Network S) (schedules : ℕ → Schedule) (now : ℕ → Progress) → IsWired kind net → IsScheduled kind net schedules now →
      (link : ℕ) → link < length net.links → IsLegalSchedule (net_link net.links link).bus (schedules link) →
      ((net_link net.links link).lite ≡ true → IsWordSchedule (net_link net.links link).bus (schedules link)) →
      (rounds : ℕ) → history_fault (port_kind (net_link net.links link)) (history_of rounds net link) ≡ None
