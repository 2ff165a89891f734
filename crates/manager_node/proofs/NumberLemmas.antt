-- The numbers of a script's transactions, which rise, and those that are seen on the link.
use Rattle.std.proofs.Common.{◌≡◌, ◌↔◌, ℕ, ◌<◌, Bool, List, Some, Contains, map, take, get_or, sym, ◌∙◌, ap, subst, inl, inr, arith}
use Rattle.std.specs.Prelude.{AllPairs, slice_get}
use Rattle.std.proofs.lemmas.Bool.{cases_order}
use Rattle.std.proofs.lemmas.Option.{get_or_from_slice_get, slice_get_within}
use Rattle.std.proofs.lemmas.Simd.{map-map}
use Rattle.axi_beats.specs.declared.beat.Addr.{Addr}
use Rattle.axi_trail.specs.Words.{number_of_address}
use Rattle.manager_node.specs.Beats.{item_request}
use Rattle.manager_node.specs.ManagerOrder.{IsAt, note_at}
use Rattle.manager_node.specs.ManagerState.{ManagerState, NotesIssues, issued_of, of_direction}
use Rattle.manager_node.specs.Script.{ScriptItem}
use Rattle.manager_node.proofs.PlaceLemmas.{direction-at, direction-of}
use Rattle.plain_lists.proofs.PlaceLemmas.{map-from, map-has, take-from, take-has, contains-at, at-contains}

abbrev pub number_of_item : ℕ × ScriptItem → ℕ
number_of_item p = p.1.txn.number

module _ (script : List ScriptItem) (numbered : AllPairs (λ (a b : ScriptItem). a.txn.number < b.txn.number) script) where
  pub number-rises : (i j : ℕ) (a b : ScriptItem) → slice_get script i ≡ Some a → slice_get script j ≡ Some b → i < j → a.txn.number < b.txn.number
  number-rises i j a b at_a at_b less =
      let rises = numbered i j a less (slice_get_within script j b at_b)
      in let one : get_or script i a ≡ a = get_or_from_slice_get script i a a at_a
      in let other : get_or script j a ≡ b = get_or_from_slice_get script j b a at_b
      in subst (λ (x : ScriptItem). x.txn.number < b.txn.number) one (subst (λ (y : ScriptItem). (get_or script i a).txn.number < y.txn.number) other rises)

  -- a number has one place
  pub number-once : (i j : ℕ) (a b : ScriptItem) → slice_get script i ≡ Some a → slice_get script j ≡ Some b → a.txn.number ≡ b.txn.number → i ≡ j
  number-once i j a b at_a at_b same = elim (cases_order i j) [
    | inl one ↦ one
    | inr apart ↦ elim apart [
      | inl less ↦ let rises = number-rises i j a b at_a at_b less in absurd (omega arith)
      | inr more ↦ let rises = number-rises j i b a at_b at_a more in absurd (omega arith)
    ]
  ]

  -- an earlier number has an earlier place
  pub number-before : (i j : ℕ) (a b : ScriptItem) → slice_get script i ≡ Some a → slice_get script j ≡ Some b → a.txn.number < b.txn.number → i < j
  number-before i j a b at_a at_b less = elim (cases_order i j) [
    | inl one ↦ let item = get_or_from_slice_get script i a a at_a in let other : get_or script i a ≡ b = get_or_from_slice_get script i b a (ap (slice_get script) one ∙ at_b) in let same : a.txn.number ≡ b.txn.number = ap (λ (x : ScriptItem). x.txn.number) (sym item ∙ other) in absurd (omega arith)
    | inr apart ↦ elim apart [ inl before ↦ before | inr more ↦ let rises = number-rises j i b a at_b at_a more in absurd (omega arith) ]
  ]

-- a transaction is noted as issued exactly where its number has been seen on the link
pub issued-shown : (write : Bool) (s : ManagerState) (addresses : List Addr) → AllPairs (λ (a b : ScriptItem). a.txn.number < b.txn.number) s.script → NotesIssues s →
    addresses ≡ map (λ (p : ℕ × ScriptItem). item_request p.1) (take (issued_of write s) (of_direction write s.script)) →
    (place : ℕ) (item : ScriptItem) → IsAt s place item → item.txn.write ≡ write → (0 < (note_at s place).issued) ↔ Contains (map number_of_address addresses) item.txn.number
issued-shown write s addresses numbered issues put place item at directed =
    let of_way : (n : ℕ) × (slice_get (of_direction write s.script) n ≡ Some (place, item)) = direction-of write s.script place item at directed
    in let seen : map number_of_address addresses ≡ map number_of_item (take (issued_of write s) (of_direction write s.script)) =
    ap (map number_of_address) put ∙ map-map number_of_address (λ (p : ℕ × ScriptItem). item_request p.1) (take (issued_of write s) (of_direction write s.script))
    in let there : 0 < (note_at s place).issued → Contains (map number_of_item (take (issued_of write s) (of_direction write s.script))) item.txn.number =
    λ some.
    let less = (issues write of_way.0 (place, item) of_way.1).0 some
    in contains-at (map number_of_item (take (issued_of write s) (of_direction write s.script))) of_way.0 item.txn.number
    (map-has number_of_item (take (issued_of write s) (of_direction write s.script)) of_way.0 (place, item) (take-has (issued_of write s) (of_direction write s.script) of_way.0 (place, item) less of_way.1))
    in let back : Contains (map number_of_item (take (issued_of write s) (of_direction write s.script))) item.txn.number → 0 < (note_at s place).issued =
    λ has.
    let here = at-contains (map number_of_item (take (issued_of write s) (of_direction write s.script))) item.txn.number has
    in let from : (p : ℕ × ScriptItem) × (slice_get (take (issued_of write s) (of_direction write s.script)) here.0 ≡ Some p) × (number_of_item p ≡ item.txn.number) = map-from number_of_item (take (issued_of write s) (of_direction write s.script)) here.0 item.txn.number here.1
    in let first = take-from (issued_of write s) (of_direction write s.script) here.0 from.0 from.1
    in let same : from.0.0 ≡ place = number-once s.script numbered from.0.0 place from.0.1 item (direction-at write s.script here.0 from.0 first.1).0 at from.2
    in subst (λ (q : ℕ). 0 < (note_at s q).issued) same ((issues write here.0 from.0 first.1).1 first.0)
    in (λ some. subst (λ (numbers : List ℕ). Contains numbers item.txn.number) (sym seen) (there some), λ has. back (subst (λ (numbers : List ℕ). Contains numbers item.txn.number) seen has))
