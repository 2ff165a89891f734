-- What is due of the transactions of a plan's network, said of the document and its traffic alone, and that its runs are right.
use Rattle.std.specs.Prelude.{◌≡◌, ℕ, List, true, All}
use Rattle.axi_history.specs.Answered.{Answered, transactions_by}
use Rattle.axi_history.specs.Delivered.{Delivered, HasAnswer}
use Rattle.axi_history.specs.Records.{Transaction}
use Rattle.net_history.specs.Due.{transactions_of}
use Rattle.net_history.specs.History.{answers_after, events_after, issues_after}
use Rattle.net_history.specs.Right.{IsNotedAnswer, IsNotedIssue}
use Rattle.net_kinds.specs.NodeKind.{node_kind}
use Rattle.net_model.specs.Network.{after_rounds, is_finished}
use Rattle.net_opening.specs.Opening.{opening}
use Rattle.net_opening.specs.PlanLinks.{form_of_link}
use Rattle.net_plan.specs.PlanLaws.{CanRun}
use Rattle.plan_traffic.specs.Accepted.{IsTraffic}
use Rattle.plan_traffic.specs.Due.{transactions_due}
use Rattle.plan_traffic.specs.Traffic.{TrafficItem}
use Rattle.topology.specs.Document.{DocumentNode}

-- The transactions of each manager of a plan's network, in order of its script, are those that are due by the plan, in order
-- of the traffic: of the same targets, bytes and responses.
abbrev pub TransactionsAreDue : Type 0
TransactionsAreDue =
    (nodes : List DocumentNode) (items : List TrafficItem) → CanRun nodes → IsTraffic nodes items → (manager : ℕ) →
    transactions_by manager (transactions_of (opening nodes items) (form_of_link nodes)) ≡ transactions_by manager (transactions_due nodes items)

-- Of a document's network and its traffic, the run so far, after so many rounds, is right by the plan: what is due was
-- delivered and answered.
pub record IsRightByPlan (nodes : List DocumentNode) (items : List TrafficItem) (rounds : ℕ) : Type 0 where
  pub delivered : Delivered (transactions_due nodes items) (events_after rounds (opening nodes items)) (answers_after rounds (opening nodes items))
  pub answered :
      Answered (transactions_due nodes items) (issues_after rounds (opening nodes items)) (events_after rounds (opening nodes items))
      (answers_after rounds (opening nodes items))
  -- issues and answers name the rounds in which they are noted
  pub issues_noted : All (IsNotedIssue (opening nodes items) rounds) (issues_after rounds (opening nodes items))
  pub answers_noted : All (IsNotedAnswer (opening nodes items) rounds) (answers_after rounds (opening nodes items))
  -- once the network is finished, every transaction is answered
  pub whole :
      is_finished node_kind (after_rounds node_kind rounds (opening nodes items)) ≡ true →
      All (λ (t : Transaction). HasAnswer t (answers_after rounds (opening nodes items))) (transactions_due nodes items)

-- every run of a document that can run is right so far
abbrev pub PlanRunsAreRight : Type 0
PlanRunsAreRight =
    (nodes : List DocumentNode) (items : List TrafficItem) → CanRun nodes → IsTraffic nodes items → (rounds : ℕ) → IsRightByPlan nodes items rounds
