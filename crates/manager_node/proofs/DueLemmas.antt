-- Transactions of which answers are due.
use Rattle.std.proofs.Common.{◌≡◌, ◌≢◌, ℕ, ◌+◌, ◌-◌, ◌<◌, ◌≤◌, suc, Bool, true, false, cond, List, [], ◌∷◌, ◌++◌, Option, Some, length, sym, ◌∙◌, ap, subst, inl, inr, arith, eq-eqb, length-append, length-take}
use Rattle.std.specs.Prelude.{All, drop, nat_lt, slice_get}
use Rattle.std.proofs.lemmas.Bool.{cases_order, eqb-false, lt-ltb}
use Rattle.std.proofs.lemmas.Option.{same_Some}
use Rattle.axi_beats.specs.Bus.{IsBusWidth}
use Rattle.axi_beats.specs.declared.beat.RBeat.{RBeat}
use Rattle.axi_beats.specs.declared.response.Resp.{Resp}
use Rattle.burst_address.specs.Bytes.{bytes_before}
use Rattle.burst_address.specs.Legal.{IsLegal}
use Rattle.manager_node.specs.Answer.{AnswerView, answered_in, is_last}
use Rattle.manager_node.specs.Beats.{bytes_on_valid_lanes}
use Rattle.manager_node.specs.ManagerState.{IsDue, bytes_by, is_answered}
use Rattle.manager_node.specs.ManagerTable.{read_in}
use Rattle.manager_node.specs.Script.{ScriptItem}
use Rattle.manager_node.proofs.BurstLemmas.{bytes-next, lane-count, lane-order}
use Rattle.plain_lists.proofs.PlaceLemmas.{at-all}
use Rattle.burst_address.specs.Lanes.{last_lane, first_lane}

-- transactions of two directions stand at two places
pub due-apart : (script : List ScriptItem) (n m : Bool) (p q : ℕ) (a b : AnswerView) → n ≢ m → IsDue script n p a → IsDue script m q b → p ≢ q
due-apart script n m p q a b apart one other same =
    let item : one.item ≡ other.item = same_Some one.item other.item (sym one.at ∙ ap (slice_get script) same ∙ other.at)
    in apart (sym one.direction ∙ ap (λ (i : ScriptItem). i.txn.write) item ∙ other.direction)

-- the one response to a write is its last one
pub write-last : (script : List ScriptItem) (place : ℕ) (a : AnswerView) → IsDue script true place a → is_last a ≡ true
write-last script place a due =
    let one : a.due_resps ≡ 1 = due.due_resps ∙ ap (λ (b : Bool). cond b 1 (due.item.txn.request.len + 1)) due.direction
    in eq-eqb (length a.resps + 1) a.due_resps (omega (arith, due.more))

-- an answer with which a transaction is answered
pub last-answers : (round : ℕ) (resp : Resp) (bytes : List ℕ) (a : AnswerView) → is_last a ≡ true → (answered_in round resp bytes a).answered ≡ round
last-answers round resp bytes a last = ap (λ (b : Bool). cond b round a.answered) last

-- and one with which it isn't
pub more-answers : (round : ℕ) (resp : Resp) (bytes : List ℕ) (a : AnswerView) → is_last a ≡ false → (answered_in round resp bytes a).answered ≡ a.answered
more-answers round resp bytes a more = ap (λ (b : Bool). cond b round a.answered) more

pub answered-now : (a : AnswerView) (round : ℕ) → 0 < round → a.answered ≡ round → is_answered a ≡ true
answered-now a round counts is = ap (λ (k : ℕ). nat_lt 0 k) is ∙ lt-ltb 0 round counts

-- what is noted of a beat of a read
pub read-is : (script : List ScriptItem) (place round bus : ℕ) (beat : RBeat) (a : AnswerView) (item : ScriptItem) → slice_get script place ≡ Some item →
    read_in round bus (slice_get script place) beat a ≡ answered_in round beat.resp (bytes_on_valid_lanes bus item.txn.request (length a.resps) beat.lanes) a
read-is script place round bus beat a item at = ap (λ (i : Option ScriptItem). read_in round bus i beat a) at

-- after a beat that isn't the last one, more are due
pub read-more : (script : List ScriptItem) (place round bus : ℕ) (beat : RBeat) (a : AnswerView) → IsBusWidth bus → All (λ (item : ScriptItem). IsLegal item.txn.request bus) script → is_last a ≡ false →
    IsDue script false place a → IsDue script false place (read_in round bus (slice_get script place) beat a)
read-more script place round bus beat a wide all more due =
    let legal = at-all (λ (item : ScriptItem). IsLegal item.txn.request bus) script place due.item all due.at
    in let count = lane-count due.item.txn.request bus (length a.resps) wide legal
    in let order = lane-order due.item.txn.request bus (length a.resps) wide legal
    in let least = length-take (last_lane due.item.txn.request (length a.resps) bus + 1 - first_lane due.item.txn.request (length a.resps) bus) (drop (first_lane due.item.txn.request (length a.resps) bus) beat.lanes)
    in let next = bytes-next due.item.txn.request (length a.resps)
    in let longer : length (a.resps ++ beat.resp ∷ []) ≡ suc (length a.resps) = omega (arith, length-append a.resps (beat.resp ∷ []))
    in let was : length a.bytes ≤ length (bytes_before due.item.txn.request (length a.resps)) = subst (λ (w : Bool). length a.bytes ≤ cond w 0 (length (bytes_before due.item.txn.request (length a.resps)))) due.direction due.bytes
    in let apart : (length a.resps + 1) ≢ a.due_resps = eqb-false (length a.resps + 1) a.due_resps more
    in let bytes : length (a.bytes ++ bytes_on_valid_lanes bus due.item.txn.request (length a.resps) beat.lanes) ≤ bytes_by due.item.txn (length (a.resps ++ beat.resp ∷ [])) =
    subst (λ (w : Bool). length (a.bytes ++ bytes_on_valid_lanes bus due.item.txn.request (length a.resps) beat.lanes) ≤ cond w 0 (length (bytes_before due.item.txn.request (length (a.resps ++ beat.resp ∷ []))))) (sym due.direction)
    (subst (λ (k : ℕ). length (a.bytes ++ bytes_on_valid_lanes bus due.item.txn.request (length a.resps) beat.lanes) ≤ length (bytes_before due.item.txn.request k)) (sym longer)
    (omega (arith, length-append a.bytes (bytes_on_valid_lanes bus due.item.txn.request (length a.resps) beat.lanes), least, next, was, count, order)))
    in subst (IsDue script false place) (sym (read-is script place round bus beat a due.item due.at)) (record {
      item = due.item;
      at = due.at;
      direction = due.direction;
      answered = more-answers round beat.resp (bytes_on_valid_lanes bus due.item.txn.request (length a.resps) beat.lanes) a more ∙ due.answered;
      more = more-left (length a.resps) a.due_resps due.more apart longer;
      bytes = bytes;
      due_resps = due.due_resps;
      due_bytes = due.due_bytes;
    })
  where
    more-left : {n : ℕ} (k due : ℕ) → k < due → (k + 1) ≢ due → n ≡ suc k → n < due
    more-left k due less apart is = elim (cases_order (suc k) due) [
      | inl same ↦ absurd (apart (omega arith))
      | inr other ↦ elim other [ inl below ↦ omega arith | inr above ↦ absurd (omega arith) ]
    ]
