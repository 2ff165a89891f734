-- The rounds that a manager notes: each issue and each answer in its place, whatever the link brings.
-- (Arm IHI 0022, transaction ordering.)
use Rattle.std.specs.Prelude.{◌≡◌, ◌<◌, ◌≤◌, ◌⊎◌, ℕ, Bool, List, Some, filter, map, not, slice_get, slice_index_or, take}
use Rattle.axi_link.specs.LinkView.{LinkView}
use Rattle.manager_node.specs.Answer.{AnswerView, unanswered}
use Rattle.manager_node.specs.ManagerState.{ManagerState, IsManager, entries_of, entry_of, is_answered, issued_of, of_direction}
use Rattle.manager_node.specs.ManagerTable.{manager_next}
use Rattle.manager_node.specs.Script.{ScriptItem}

-- what is noted of the transaction at a place of the script
abbrev pub note_at : ManagerState → ℕ → AnswerView
note_at s place = slice_index_or s.answers place (unanswered 0)

-- this transaction stands at this place of the script
abbrev pub IsAt : ManagerState → ℕ → ScriptItem → Type 0
IsAt s place item = slice_get s.script place ≡ Some item

-- two transactions of one direction, the earlier one first
pub record AreOfDirection (s : ManagerState) (earlier later : ℕ) : Type 0 where
  pub first : ScriptItem
  pub second : ScriptItem
  pub at_earlier : IsAt s earlier first
  pub at_later : IsAt s later second
  pub order : earlier < later
  pub direction : first.txn.write ≡ second.txn.write

-- and of one ID
pub record AreOfId (s : ManagerState) (earlier later : ℕ) : Type 0 where
  pub of_direction : AreOfDirection s earlier later
  pub id : of_direction.first.txn.request.id ≡ of_direction.second.txn.request.id

-- What the noted rounds keep after so many rounds; round 0 says 'not yet'.
pub record AreInOrder (rounds : ℕ) (s : ManagerState) : Type 0 where
  -- no round is noted that is still to come
  pub issues_past : (place : ℕ) → (note_at s place).issued ≤ rounds
  pub answers_past : (place : ℕ) → (note_at s place).answered ≤ rounds
  -- a transaction is answered in a later round than that of its issue
  pub issue_first :
      (place : ℕ) → 0 < (note_at s place).answered →
      (0 < (note_at s place).issued) × ((note_at s place).issued < (note_at s place).answered)
  -- the transactions of a direction are issued in their order, in one round each
  pub issues :
      (earlier later : ℕ) → AreOfDirection s earlier later → 0 < (note_at s later).issued →
      (0 < (note_at s earlier).issued) × ((note_at s earlier).issued < (note_at s later).issued)
  -- those of one ID are answered in their order
  pub answers :
      (earlier later : ℕ) → AreOfId s earlier later → 0 < (note_at s later).answered →
      (0 < (note_at s earlier).answered) × ((note_at s earlier).answered < (note_at s later).answered)
  -- those wait for their answers that are issued and not answered, in their order
  pub waiting :
      (write : Bool) →
      entries_of write s ≡ map entry_of (filter (λ p. not (is_answered (note_at s p.0))) (take (issued_of write s) (of_direction write s.script)))
  -- a transaction is issued after the first ones of the script were answered that it waits for
  pub waits :
      (before place : ℕ) (item : ScriptItem) → IsAt s place item → before < item.txn.after → 0 < (note_at s place).issued →
      (0 < (note_at s before).answered) × ((note_at s before).answered < (note_at s place).issued)

-- What is noted stays, and what is new is of this round.
pub record Notes (round : ℕ) (before after : AnswerView) : Type 0 where
  pub issued : (after.issued ≡ before.issued) ⊎ ((before.issued ≡ 0) × (after.issued ≡ round))
  pub answered : (after.answered ≡ before.answered) ⊎ ((before.answered ≡ 0) × (after.answered ≡ round))
  -- an answer that has come is not changed
  pub stays : 0 < before.answered → after ≡ before

-- in a round the notes of all transactions stay, and get what is new
abbrev pub NotesStay : Type 0
NotesStay =
    (round : ℕ) (links : List LinkView) (s : ManagerState) → 0 < round → IsManager s → (place : ℕ) →
    Notes round (note_at s place) (note_at (manager_next round links s) place)
