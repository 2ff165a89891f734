-- The transactions of one direction, by their places in the script.
use Rattle.std.proofs.Common.{◌≡◌, ℕ, ◌+◌, ◌<◌, Bool, true, false, List, Option, Some, None, refl, sym, ◌∙◌, ap, inl, inr, arith}
use Rattle.std.specs.List.{enumerate_from}
use Rattle.std.specs.Option.{option_map}
use Rattle.std.specs.Prelude.{not, slice_get}
use Rattle.std.proofs.lemmas.Bool.{cases_order, not-true}
use Rattle.manager_node.specs.ManagerState.{is_directed, of_direction}
use Rattle.manager_node.specs.Script.{ScriptItem}
use Rattle.manager_node.specs.declared.script.Txn.{Txn}
use Rattle.plain_lists.proofs.PlaceLemmas.{filter-from, filter-has, numbers-rise, slice_get-enumerate}

directed-is : (write : Bool) (txn : Txn) → is_directed write txn ≡ true → txn.write ≡ write
directed-is true txn is = is
directed-is false txn is = not-true txn.write is

is-directed : (write : Bool) (txn : Txn) → txn.write ≡ write → is_directed write txn ≡ true
is-directed true txn is = is
is-directed false txn is = ap not is

module _ (write : Bool) (script : List ScriptItem) where
  -- a transaction of the direction stands at its place in the script
  pub direction-at : (n : ℕ) (p : ℕ × ScriptItem) → slice_get (of_direction write script) n ≡ Some p → (slice_get script p.0 ≡ Some p.1) × (p.1.txn.write ≡ write)
  direction-at n p at =
      let found : (is_directed write p.1.txn ≡ true) × (k : ℕ) × (slice_get (enumerate_from 0 script) k ≡ Some p) = filter-from (λ (p : ℕ × ScriptItem). is_directed write p.1.txn) (enumerate_from 0 script) n p at
      in let numbered : option_map (λ (item : ScriptItem). (0 + found.1, item)) (slice_get script found.1) ≡ Some p = sym (slice_get-enumerate 0 script found.1) ∙ found.2
      in let go : (o : Option ScriptItem) → slice_get script found.1 ≡ o → option_map (λ (item : ScriptItem). (0 + found.1, item)) o ≡ Some p → slice_get script p.0 ≡ Some p.1 =
      elim [
        | None ↦ λ is none. absurd (cc)
        | Some item ↦ λ is some.
            let same : (0 + found.1, item) ≡ p = cc
            in let place : found.1 ≡ p.0 = let number : 0 + found.1 ≡ p.0 = ap (λ (q : ℕ × ScriptItem). q.0) same in omega arith
            in ap (slice_get script) (sym place) ∙ is ∙ ap (λ (q : ℕ × ScriptItem). Some q.1) same
      ]
      in (go (slice_get script found.1) refl numbered, directed-is write p.1.txn found.0)

  -- a transaction of the script is one of its direction
  pub direction-of : (place : ℕ) (item : ScriptItem) → slice_get script place ≡ Some item → item.txn.write ≡ write → (n : ℕ) × (slice_get (of_direction write script) n ≡ Some (place, item))
  direction-of place item at directed =
      filter-has (λ (p : ℕ × ScriptItem). is_directed write p.1.txn) (enumerate_from 0 script) place (place, item)
      (slice_get-enumerate 0 script place ∙ ap (option_map (λ (x : ScriptItem). (0 + place, x))) at ∙ ap (λ (n : ℕ). Some (n, item)) (omega arith))
      (is-directed write item.txn directed)

  -- the places rise
  pub direction-rises : (j k : ℕ) (p q : ℕ × ScriptItem) → slice_get (of_direction write script) j ≡ Some p → slice_get (of_direction write script) k ≡ Some q → j < k → p.0 < q.0
  direction-rises j k p q at_p at_q lt = numbers-rise (λ (p : ℕ × ScriptItem). is_directed write p.1.txn) 0 script j k p q at_p at_q lt

  -- what stands earlier in the script is an earlier one of the direction
  pub direction-before : (j k : ℕ) (p q : ℕ × ScriptItem) → slice_get (of_direction write script) j ≡ Some p → slice_get (of_direction write script) k ≡ Some q → p.0 < q.0 → j < k
  direction-before j k p q at_p at_q lt = elim (cases_order j k) [
    | inl same ↦ let one : p ≡ q = cc in let place : p.0 ≡ q.0 = ap (λ (r : ℕ × ScriptItem). r.0) one in absurd (omega arith)
    | inr apart ↦ elim apart [ inl less ↦ less | inr more ↦ let other = direction-rises k j q p at_q at_p more in absurd (omega arith) ]
  ]

  -- a place has one transaction
  pub direction-once : (j k : ℕ) (p q : ℕ × ScriptItem) → slice_get (of_direction write script) j ≡ Some p → slice_get (of_direction write script) k ≡ Some q → p.0 ≡ q.0 → j ≡ k
  direction-once j k p q at_p at_q same = elim (cases_order j k) [
    | inl one ↦ one
    | inr apart ↦ elim apart [
      | inl less ↦ let other = direction-rises j k p q at_p at_q less in absurd (omega arith)
      | inr more ↦ let other = direction-rises k j q p at_q at_p more in absurd (omega arith)
    ]
  ]
