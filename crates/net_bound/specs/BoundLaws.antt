-- By when the run of a plan is finished.
use Rattle.std.specs.Prelude.{◌≡◌, ◌<◌, ◌≤◌, ℕ, List, false, true}
use Rattle.net_kinds.specs.NodeKind.{node_kind}
use Rattle.net_model.specs.Network.{after_rounds, is_finished}
use Rattle.net_opening.specs.Opening.{opening}
use Rattle.net_plan.specs.PlanLaws.{CanRun}
use Rattle.plan_traffic.specs.Accepted.{IsTraffic}
use Rattle.plan_traffic.specs.Bound.{round_bound}
use Rattle.plan_traffic.specs.Traffic.{TrafficItem}
use Rattle.topology.specs.Document.{DocumentNode}

-- with traffic that suits it, the network of a document that can run has answered all after as many rounds as its bound, or earlier
abbrev pub RunsEndInTime : Type 0
RunsEndInTime =
    (nodes : List DocumentNode) (items : List TrafficItem) → CanRun nodes → IsTraffic nodes items →
    (n : ℕ) × (n ≤ round_bound nodes items) × (is_finished node_kind (after_rounds node_kind n (opening nodes items)) ≡ true)

-- so where it was finished neither before nor after so many rounds, they are fewer than the bound
abbrev pub UnfinishedBeforeBound : Type 0
UnfinishedBeforeBound =
    (nodes : List DocumentNode) (items : List TrafficItem) → CanRun nodes → IsTraffic nodes items →
    (rounds : ℕ) → ((n : ℕ) → n ≤ rounds → is_finished node_kind (after_rounds node_kind n (opening nodes items)) ≡ false) →
    rounds < round_bound nodes items
