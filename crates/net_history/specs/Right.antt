-- A run is right so far: what was done of what was asked was done once and in order, and answered with the right bytes
-- (Arm IHI 0022, ordering model).
use Rattle.std.specs.Prelude.{◌≡◌, ◌≤◌, ℕ, true, All, Any}
use Rattle.axi_history.specs.Answered.{Answered}
use Rattle.axi_history.specs.Delivered.{Delivered, HasAnswer}
use Rattle.axi_history.specs.Records.{Answer, Issue, Transaction}
use Rattle.net_history.specs.Due.{transactions_of}
use Rattle.net_history.specs.History.{answers_after, events_after, issues_after}
use Rattle.net_kinds.specs.NodeKind.{NodeState, node_kind}
use Rattle.net_model.specs.Network.{Network, after_rounds, is_finished}
use Rattle.node_shape.specs.LinkForm.{LinkForm}

-- An issue is noted in the round that it names: that round has been, and the issue is there after it. It wasn't there
-- after fewer rounds, where the same holds: its round was still to come.
abbrev pub IsNotedIssue : Network NodeState → ℕ → Issue → Type 0
IsNotedIssue net rounds i =
    (i.round ≤ rounds) × Any (λ (j : Issue). (j.number ≡ i.number) × (j.round ≡ i.round)) (issues_after i.round net)

-- and so is an answer
abbrev pub IsNotedAnswer : Network NodeState → ℕ → Answer → Type 0
IsNotedAnswer net rounds a =
    (a.round ≤ rounds) × Any (λ (b : Answer). (b.number ≡ a.number) × (b.round ≡ a.round)) (answers_after a.round net)

-- once a network is finished, every transaction is answered
abbrev pub AllAreAnswered : Network NodeState → (ℕ → LinkForm) → ℕ → Type 0
AllAreAnswered net forms rounds =
    is_finished node_kind (after_rounds node_kind rounds net) ≡ true →
    All (λ (t : Transaction). HasAnswer t (answers_after rounds net)) (transactions_of net forms)

-- the run of a network, whose links have these forms, is right so far, after so many rounds
pub record IsRight (net : Network NodeState) (forms : ℕ → LinkForm) (rounds : ℕ) : Type 0 where
  pub delivered : Delivered (transactions_of net forms) (events_after rounds net) (answers_after rounds net)
  pub answered : Answered (transactions_of net forms) (issues_after rounds net) (events_after rounds net) (answers_after rounds net)
  -- issues and answers name the rounds in which they are noted
  pub issues_noted : All (IsNotedIssue net rounds) (issues_after rounds net)
  pub answers_noted : All (IsNotedAnswer net rounds) (answers_after rounds net)
  -- once the network is finished, every transaction is answered
  pub whole : AllAreAnswered net forms rounds
