-- A network stands where the rounds of a run lead.
use Rattle.std.specs.Prelude.{◌≡◌, List, false, true}
use Rattle.net_build.specs.NetRun.{network_of_run}
use Rattle.net_steps.specs.NetView.{CanCommit, NetView, network_of}
use Rattle.plan_traffic.specs.Traffic.{TrafficItem}
use Rattle.topology.specs.Document.{DocumentNode}

-- a network stands where the rounds of a run lead, and its links can move where the nodes have decided
pub record StandsAt (nodes : List DocumentNode) (items : List TrafficItem) (net : NetView) : Type 0 where
  pub stands : network_of net ≡ network_of_run (record { nodes = nodes; items = items; rounds = net.rounds; decided = net.decided })
  pub ready : net.decided ≡ true → CanCommit net

-- and no round was made
pub record IsOpened (nodes : List DocumentNode) (items : List TrafficItem) (net : NetView) : Type 0 where
  pub stands_at : StandsAt nodes items net
  pub rounds : net.rounds ≡ 0
  pub decided : net.decided ≡ false
