-- A pace lets a row be done whose condition holds for long enough.
use Rattle.std.proofs.Common.{◌≡◌, ◌<◌, ◌+◌, ℕ, zero, suc, Bool, true, false, cond, refl, sym, ◌∙◌, ap, arith}
use Rattle.std.specs.Prelude.{nat_lt, not}
use Rattle.std.proofs.lemmas.Bool.{ltb-true}
use Rattle.node_core.specs.Pace.{PaceState, PacesLet, asked_for, current_delay, is_over, next_place, pace_onwards}

not-over : (b : Bool) → not b ≡ false → b ≡ true
not-over true is = refl
not-over false is = absurd (cc)

-- so many rounds more are waited
abbrev waited_more : PaceState → ℕ → PaceState
waited_more p i = record { delays = p.delays; place = p.place; waited = p.waited + i }

-- where the delay isn't over, one round more is waited
one-more : (p : PaceState) → is_over p ≡ false → pace_onwards p ≡ record { delays = p.delays; place = p.place; waited = suc p.waited }
one-more p is =
    ap (λ (b : Bool). cond b (record { delays = p.delays; place = next_place p; waited = 0 }) (record { delays = p.delays; place = p.place; waited = suc p.waited })) is

module _ (p : PaceState) where
  waited-for : (i : ℕ) → ((j : ℕ) → j < i → is_over (asked_for j p) ≡ false) → asked_for i p ≡ waited_more p i
  waited-for zero none = let same : p.waited ≡ p.waited + 0 = omega arith in ap (λ (n : ℕ). record { delays = p.delays; place = p.place; waited = n }) same
  waited-for (suc i) none =
      let before = waited-for i (λ j less. none j (omega (arith, less))) in
      let same : suc (p.waited + i) ≡ p.waited + suc i = omega arith in
      one-more (asked_for i p) (none i (omega arith))
      ∙ ap (λ (q : PaceState). record { delays = q.delays; place = q.place; waited = suc q.waited }) before
      ∙ ap (λ (n : ℕ). record { delays = p.delays; place = p.place; waited = n }) same

pub paces-let : PacesLet
paces-let p most few none =
    let last = waited-for p most (λ j less. none j (omega (arith, less))) in
    let here : is_over (waited_more p most) ≡ false = ap is_over (sym last) ∙ none most (omega arith) in
    let waits : nat_lt (p.waited + most) (current_delay p) ≡ true = not-over (nat_lt (p.waited + most) (current_delay p)) here in
    absurd (omega (arith, few, ltb-true (p.waited + most) (current_delay p) waits))
