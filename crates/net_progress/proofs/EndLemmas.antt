-- What never falls, rises before long while it isn't finished, and never passes a bound: it is finished in time.
use Rattle.std.proofs.Common.{◌≡◌, ◌<◌, ◌≤◌, ◌+◌, ◌-◌, ◌*◌, ◌∙◌, ap, sym, subst, ℕ, zero, suc, Bool, true, false, ◌⊎◌, inl, inr, refl, arith}

pub record RisesSlowly (count : ℕ → ℕ) (finished : ℕ → Bool) (patience bound : ℕ) : Type 0 where
  pub stays : (n : ℕ) → count n ≤ count (suc n)
  pub rises : (n : ℕ) → finished n ≡ false → (i : ℕ) × (i < patience) × (count (n + i) < count (suc (n + i)))
  pub bounded : (n : ℕ) → count n ≤ bound

module _ (count : ℕ → ℕ) (finished : ℕ → Bool) (patience bound : ℕ) (counts : RisesSlowly count finished patience bound) where
  later : (d n : ℕ) → count n ≤ count (n + d)
  later zero n = let same : n + 0 ≡ n = omega arith in subst (λ (k : ℕ). count n ≤ count k) (sym same) (omega arith)
  later (suc d) n =
      let same : n + suc d ≡ suc (n + d) = omega arith in
      subst (λ (k : ℕ). count n ≤ count k) (sym same) (omega (arith, later d n, counts.stays (n + d)))

  -- in so many rounds it counts one more
  one-more : (n : ℕ) → finished n ≡ false → count n < count (n + patience)
  one-more n is =
      let up = counts.rises n is in
      let rest : suc (n + up.0) + (patience - suc up.0) ≡ n + patience = omega (arith, up.1) in
      let after : count (suc (n + up.0)) ≤ count (n + patience) = subst (λ (k : ℕ). count (suc (n + up.0)) ≤ count k) rest (later (patience - suc up.0) (suc (n + up.0))) in
      omega (arith, later up.0 n, up.2, after)

  abbrev times : ℕ → ℕ
  times zero = 0
  times (suc m) = times m + patience

  times-is : (m : ℕ) → times m ≡ patience * m
  times-is zero = omega arith
  times-is (suc m) = ap (λ (k : ℕ). k + patience) (times-is m) ∙ omega arith

  times-rise : (m d : ℕ) → times m ≤ times (m + d)
  times-rise m zero = let same : m + 0 ≡ m = omega arith in subst (λ (k : ℕ). times m ≤ times k) (sym same) (omega arith)
  times-rise m (suc d) = let same : m + suc d ≡ suc (m + d) = omega arith in subst (λ (k : ℕ). times m ≤ times k) (sym same) (omega (arith, times-rise m d))

  slowly : (m : ℕ) → ((j : ℕ) × (j < m) × (finished (times j) ≡ true)) ⊎ (m ≤ count (times m))
  slowly zero = inr (omega arith)
  slowly (suc m) =
      let Goal : Type 0 = ((j : ℕ) × (j < suc m) × (finished (times j) ≡ true)) ⊎ (suc m ≤ count (times (suc m))) in
      let one : (b : Bool) → finished (times m) ≡ b → ((j : ℕ) × (j < m) × (finished (times j) ≡ true)) ⊎ (m ≤ count (times m)) → Goal =
      λ b. elim b as (λ b. finished (times m) ≡ b → ((j : ℕ) × (j < m) × (finished (times j) ≡ true)) ⊎ (m ≤ count (times m)) → Goal) [
        | true ↦ λ is before. inl (m, omega arith, is)
        | false ↦ λ is before. elim before [
          | inl ended ↦ inl (ended.0, omega (arith, ended.1), ended.2)
          | inr many ↦ inr (omega (arith, many, one-more (times m) is))
        ]
      ] in one (finished (times m)) refl (slowly m)

  pub ends-slowly : (n : ℕ) × (n ≤ patience * bound) × (finished n ≡ true)
  ends-slowly = elim (slowly (suc bound)) [
    | inl ended ↦
        let rest : ended.0 + (bound - ended.0) ≡ bound = omega (arith, ended.1) in
        let most : times ended.0 ≤ times bound = subst (λ (k : ℕ). times ended.0 ≤ times k) rest (times-rise ended.0 (bound - ended.0)) in
        (times ended.0, omega (arith, most, times-is bound), ended.2)
    | inr many ↦ absurd (omega (arith, many, counts.bounded (times (suc bound))))
  ]
