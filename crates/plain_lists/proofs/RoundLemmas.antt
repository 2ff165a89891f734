-- What rounds add, one round after the other.
use Rattle.std.proofs.Common.{◌≡◌, ℕ, ◌≤◌, suc, zero, List, [], ◌++◌, sym, ◌∙◌, ap, subst, inl, inr, arith}
use Rattle.std.proofs.lemmas.Bool.{cases_lt}
use Rattle.plain_lists.specs.Prefixes.{IsPrefix}
use Rattle.plain_lists.specs.Rounds.{over}
use Rattle.plain_lists.proofs.PrefixLemmas.{prefix_append, prefix_itself, prefix_trans}

-- what goes through a list beat by beat, done to all rounds together, gives what it gives of each round, in order
pub over-through : {X Y : Type 0} (f : List X → List Y) → f [] ≡ [] → ((xs ys : List X) → f (xs ++ ys) ≡ f xs ++ f ys) → (added : ℕ → List X) (given : ℕ → List Y) → ((n : ℕ) → f (added n) ≡ given n) → (n : ℕ) → f (over added n) ≡ over given n
over-through f none both added given each zero = none
over-through f none both added given each (suc n) =
    both (over added n) (added n) ∙ ap (λ t. t ++ f (added n)) (over-through f none both added given each n) ∙ ap (λ t. over given n ++ t) (each n)

-- what all rounds add is the beginning of what more rounds add
pub over-grows : {X : Type 0} (added : ℕ → List X) (m k : ℕ) → m ≤ k → IsPrefix (over added m) (over added k)
over-grows added m zero le =
    let none : m ≡ 0 = omega arith in
    subst (λ (n : ℕ). IsPrefix (over added n) []) (sym none) (prefix_itself [])
over-grows added m (suc k) le =
    elim (cases_lt m (suc k)) [
      | inl before ↦ prefix_trans (over-grows added m k (omega arith)) (prefix_append (over added k) (added k))
      | inr last ↦
          let same : m ≡ suc k = omega arith in
          subst (λ (n : ℕ). IsPrefix (over added n) (over added (suc k))) (sym same) (prefix_itself (over added (suc k)))
    ]
