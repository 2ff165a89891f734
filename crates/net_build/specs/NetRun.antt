-- The network of a plan with its traffic, as contracts see it while it runs.
use Rattle.std.specs.Prelude.{◌+◌, ℕ, Bool, List, false, if◌then◌else◌}
use Rattle.net_kinds.specs.NodeKind.{NodeState, node_kind}
use Rattle.net_model.specs.Network.{Network, after_decide, after_rounds}
use Rattle.net_opening.specs.Opening.{opening}
use Rattle.plan_traffic.specs.Traffic.{TrafficItem}
use Rattle.topology.specs.Document.{DocumentNode}

-- the nodes of its document, its transactions, the rounds that were made, and whether the nodes have decided in the next one
pub record NetRun : Type 0 where
  pub nodes : List DocumentNode
  pub items : List TrafficItem
  pub rounds : ℕ
  pub decided : Bool

-- the network after these rounds
abbrev pub network_between : NetRun → Network NodeState
network_between run = after_rounds node_kind run.rounds (opening run.nodes run.items)

-- and after phase one of the next round, where the nodes have decided
abbrev pub network_of_run : NetRun → Network NodeState
network_of_run run = if run.decided then after_decide node_kind (run.rounds + 1) (network_between run) else network_between run

-- before the first round
abbrev pub new_run : List DocumentNode → List TrafficItem → NetRun
new_run nodes items = record { nodes = nodes; items = items; rounds = 0; decided = false }
