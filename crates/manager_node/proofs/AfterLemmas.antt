-- The answers that the transactions of a script wait for.
use Rattle.std.proofs.Common.{◌≡◌, ◌⊎◌, ℕ, ◌+◌, ◌-◌, ◌<◌, ◌≤◌, ◌==◌, zero, suc, List, Option, Some, None, length, take, refl, sym, ◌∙◌, ap, inl, inr, arith, length-take}
use Rattle.std.specs.Prelude.{slice_get}
use Rattle.std.proofs.lemmas.Bool.{eqb-true, or_cases}
use Rattle.std.proofs.lemmas.Option.{same_Some, slice_get_within}
use Rattle.manager_node.specs.Script.{ScriptItem, IsScript, awaited}
use Rattle.manager_node.proofs.ScriptLemmas.{script-item}
use Rattle.plain_lists.proofs.PlaceLemmas.{item-there, take-from, take-has}

module _ (script : List ScriptItem) (is : IsScript script) where
  front-length : (n : ℕ) (item : ScriptItem) → slice_get script n ≡ Some item → length (take n script) ≡ n
  front-length n item at = let within = slice_get_within script n item at in omega (arith, length-take n script)

  -- a transaction waits for all before it, or for as many as the one before it
  after-step : (n : ℕ) (item : ScriptItem) → slice_get script n ≡ Some item → (item.txn.after ≡ n) ⊎ ((m : ℕ) × (prev : ScriptItem) × (n ≡ suc m) × (slice_get script m ≡ Some prev) × (item.txn.after ≡ prev.txn.after))
  after-step zero item at =
      let can = script-item script 0 item is at
      in elim (or_cases (item.txn.after == length (take 0 script)) (item.txn.after == awaited (slice_get (take 0 script) (length (take 0 script) - 1))) can.after) [
        | inl all ↦ inl (eqb-true item.txn.after 0 all)
        | inr none ↦ inl (eqb-true item.txn.after 0 none)
      ]
  after-step (suc m) item at =
      let can = script-item script (suc m) item is at
      in let front = front-length (suc m) item at
      in let less : length (take (suc m) script) - 1 ≡ m = omega arith
      in elim (or_cases (item.txn.after == length (take (suc m) script)) (item.txn.after == awaited (slice_get (take (suc m) script) (length (take (suc m) script) - 1))) can.after) [
        | inl all ↦ inl (eqb-true item.txn.after (length (take (suc m) script)) all ∙ front)
        | inr same ↦
            let waits : item.txn.after ≡ awaited (slice_get (take (suc m) script) m) = eqb-true item.txn.after (awaited (slice_get (take (suc m) script) (length (take (suc m) script) - 1))) same ∙ ap (λ (k : ℕ). awaited (slice_get (take (suc m) script) k)) less
            in let go : (o : Option ScriptItem) → slice_get (take (suc m) script) m ≡ o → (item.txn.after ≡ suc m) ⊎ ((k : ℕ) × (prev : ScriptItem) × (suc m ≡ suc k) × (slice_get script k ≡ Some prev) × (item.txn.after ≡ prev.txn.after)) =
            elim [
              | None ↦ λ none. absurd (missing (suc m) m (omega arith) (slice_get_within script (suc m) item at) none)
              | Some prev ↦ λ some. inr (m, prev, refl, (take-from (suc m) script m prev some).1, waits ∙ ap awaited some)
            ]
            in go (slice_get (take (suc m) script) m) refl
      ]
    where
      missing : (n k : ℕ) → k < n → n < length script → slice_get (take n script) k ≡ None → ⊥
      missing n k less within none =
          let at = item-there script k (omega arith)
          in let both : Some at.0 ≡ None = sym (take-has n script k at.0 less at.1) ∙ none
          in cc

  pub after-most : (n : ℕ) (item : ScriptItem) → slice_get script n ≡ Some item → item.txn.after ≤ n
  after-most zero item at = elim (after-step 0 item at) [ inl all ↦ omega arith | inr same ↦ absurd (omega (arith, same.2)) ]
  after-most (suc n) item at = elim (after-step (suc n) item at) [
    | inl all ↦ omega arith
    | inr same ↦
        let number : n ≡ same.0 = omega (arith, same.2)
        in let most = after-most n same.1 (ap (slice_get script) number ∙ same.3)
        in omega (arith, same.4)
  ]

  -- the numbers of answers that are waited for rise
  after-rises : (d n : ℕ) (item other : ScriptItem) → slice_get script n ≡ Some item → slice_get script (n + d) ≡ Some other → item.txn.after ≤ other.txn.after
  after-rises zero n item other at at_other =
      let same : n + 0 ≡ n = omega arith
      in let one : item ≡ other = same_Some item other (sym at ∙ ap (slice_get script) (sym same) ∙ at_other)
      in let afters : item.txn.after ≡ other.txn.after = ap (λ (i : ScriptItem). i.txn.after) one
      in omega arith
  after-rises (suc d) n item other at at_other = elim (after-step (n + suc d) other at_other) [
    | inl all ↦ let most = after-most n item at in omega arith
    | inr same ↦
        let number : n + d ≡ same.0 = omega (arith, same.2)
        in let before = after-rises d n item same.1 at (ap (slice_get script) number ∙ same.3)
        in omega (arith, same.4)
  ]

  -- what comes behind the answers that a transaction waits for waits for them, too
  pub after-holds : (n : ℕ) (item : ScriptItem) (q : ℕ) (other : ScriptItem) → slice_get script n ≡ Some item → slice_get script q ≡ Some other → item.txn.after ≤ q → item.txn.after ≤ other.txn.after
  after-holds zero item q other at at_other le = let most = after-most 0 item at in omega arith
  after-holds (suc n) item q other at at_other le = elim (after-step (suc n) item at) [
    | inl all ↦
        let sum : suc n + (q - suc n) ≡ q = omega arith
        in after-rises (q - suc n) (suc n) item other at (ap (slice_get script) sum ∙ at_other)
    | inr same ↦
        let number : n ≡ same.0 = omega (arith, same.2)
        in let before = after-holds n same.1 q other (ap (slice_get script) number ∙ same.3) at_other (omega (arith, same.4))
        in omega (arith, same.4)
  ]
