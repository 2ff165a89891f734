-- No more comes for a transaction than a response for each beat of its burst and the burst's bytes.
use Rattle.std.proofs.Common.{◌≡◌, ◌≤◌, ◌+◌, ◌-◌, ◌++◌, ℕ, Bool, true, false, cond, List, [], ◌∷◌, Some, length, ap, arith, subst, sym, ◌∙◌, length-append, length-take}
use Rattle.std.specs.Prelude.{drop, slice_get}
use Rattle.std.proofs.lemmas.Option.{same_Some}
use Rattle.axi_beats.specs.Bus.{IsBusWidth}
use Rattle.axi_beats.specs.declared.beat.RBeat.{RBeat}
use Rattle.axi_beats.specs.declared.response.Resp.{Resp}
use Rattle.axi_link.specs.LinkView.{LinkView}
use Rattle.burst_address.specs.Bytes.{burst_bytes, bytes_before}
use Rattle.burst_address.specs.Lanes.{first_lane, last_lane}
use Rattle.burst_address.specs.Legal.{IsLegal}
use Rattle.manager_node.proofs.BurstLemmas.{beat-within, lane-count, lane-order}
use Rattle.manager_node.proofs.IssueLemmas.{new-note}
use Rattle.manager_node.proofs.NoteLemmas.{Change, Issued, Kept, Read, Wrote, b-taken, change-of, r-taken, taken-waits}
use Rattle.manager_node.specs.Answer.{AnswerView, answered_in}
use Rattle.manager_node.specs.Beats.{bytes_on_valid_lanes}
use Rattle.manager_node.specs.ManagerOrder.{note_at}
use Rattle.manager_node.specs.ManagerState.{IsDue, IsManager, ManagerState, new_manager}
use Rattle.manager_node.specs.ManagerTable.{manager_next}
use Rattle.manager_node.specs.Script.{ScriptItem}
use Rattle.node_core.specs.declared.paces.Paces.{Paces}
use Rattle.plain_lists.proofs.PlaceLemmas.{at-all}

-- what came for the transaction at a place of a script
pub record IsShort (script : List ScriptItem) (place : ℕ) (a : AnswerView) : Type 0 where
  pub beats : (item : ScriptItem) → slice_get script place ≡ Some item → length a.resps ≤ item.txn.request.len + 1
  pub bytes : (item : ScriptItem) → slice_get script place ≡ Some item → length a.bytes ≤ length (burst_bytes item.txn.request)

-- so it is before the first round
pub short-new : (script : List ScriptItem) (lower bus : ℕ) (paces : Paces) (place : ℕ) → IsShort script place (note_at (new_manager script lower bus paces) place)
short-new script lower bus paces place = new-note (IsShort script place) script place (λ resps bytes. record { beats = λ item at. omega arith; bytes = λ item at. omega arith })

-- one response to a write
wrote : (script : List ScriptItem) (round place : ℕ) (resp : Resp) (a : AnswerView) → IsDue script true place a → IsShort script place a → IsShort script place (answered_in round resp [] a)
wrote script round place resp a due short =
    let one : a.due_resps ≡ 1 = due.due_resps ∙ ap (λ (b : Bool). cond b 1 (due.item.txn.request.len + 1)) due.direction in
    record {
      beats = λ item at. omega (arith, length-append a.resps (resp ∷ []), one, due.more);
      bytes = λ item at. omega (arith, length-append a.bytes [], short.bytes item at);
    }

-- one more beat of a read
came : (script : List ScriptItem) (round place bus : ℕ) (beat : RBeat) (a : AnswerView) (item : ScriptItem) → slice_get script place ≡ Some item → IsDue script false place a → IsBusWidth bus →
    IsLegal item.txn.request bus → IsShort script place (answered_in round beat.resp (bytes_on_valid_lanes bus item.txn.request (length a.resps) beat.lanes) a)
came script round place bus beat a item there due wide legal =
    let same : due.item ≡ item = same_Some due.item item (sym due.at ∙ there) in
    let whole : a.due_resps ≡ item.txn.request.len + 1 =
    due.due_resps ∙ ap (λ (b : Bool). cond b 1 (due.item.txn.request.len + 1)) due.direction ∙ ap (λ (i : ScriptItem). i.txn.request.len + 1) same in
    let was : length a.bytes ≤ length (bytes_before item.txn.request (length a.resps)) =
    subst (λ (i : ScriptItem). length a.bytes ≤ length (bytes_before i.txn.request (length a.resps))) same
    (subst (λ (w : Bool). length a.bytes ≤ cond w 0 (length (bytes_before due.item.txn.request (length a.resps)))) due.direction due.bytes) in
    let count = lane-count item.txn.request bus (length a.resps) wide legal in
    let order = lane-order item.txn.request bus (length a.resps) wide legal in
    let least =
    length-take (last_lane item.txn.request (length a.resps) bus + 1 - first_lane item.txn.request (length a.resps) bus) (drop (first_lane item.txn.request (length a.resps) bus) beat.lanes) in
    let within = beat-within item.txn.request (length a.resps) (omega (arith, due.more, whole)) in
    let beats : length (a.resps ++ beat.resp ∷ []) ≤ item.txn.request.len + 1 = omega (arith, length-append a.resps (beat.resp ∷ []), due.more, whole) in
    let bytes : length (a.bytes ++ bytes_on_valid_lanes bus item.txn.request (length a.resps) beat.lanes) ≤ length (burst_bytes item.txn.request) =
    omega (arith, length-append a.bytes (bytes_on_valid_lanes bus item.txn.request (length a.resps) beat.lanes), least, was, count, order, within) in
    record {
      beats = λ other at. subst (λ (i : ScriptItem). length (a.resps ++ beat.resp ∷ []) ≤ i.txn.request.len + 1) (same_Some item other (sym there ∙ at)) beats;
      bytes = λ other at.
          subst (λ (i : ScriptItem). length (a.bytes ++ bytes_on_valid_lanes bus item.txn.request (length a.resps) beat.lanes) ≤ length (burst_bytes i.txn.request))
          (same_Some item other (sym there ∙ at)) bytes;
    }

module _ (links : List LinkView) (s : ManagerState) (round place : ℕ) (is : IsManager s) (short : IsShort s.script place (note_at s place)) where
  short-by : Change links s round place → IsShort s.script place (note_at (manager_next round links s) place)
  short-by (Kept e) = subst (IsShort s.script place) (sym e) short
  short-by (Wrote x at here e) =
      subst (IsShort s.script place) (sym e)
      (wrote s.script round place x.1.resp (note_at s place) (subst (λ (q : ℕ). IsDue s.script true q (note_at s q)) (sym here) (taken-waits links s is true x.0 (b-taken links s is x at))) short)
  short-by (Read x at here item there e) =
      subst (IsShort s.script place) (sym e)
      (came s.script round place s.bus x.1 (note_at s place) item there
      (subst (λ (q : ℕ). IsDue s.script false q (note_at s q)) (sym here) (taken-waits links s is false x.0 (r-taken links s is x at))) is.bus_width
      (at-all (λ (i : ScriptItem). IsLegal i.txn.request s.bus) s.script place item is.legal there))
  short-by (Issued write p at here e) = subst (IsShort s.script place) (sym e) (record { beats = short.beats; bytes = short.bytes })

  pub short-next : IsShort s.script place (note_at (manager_next round links s) place)
  short-next = short-by (change-of links s round place is)
