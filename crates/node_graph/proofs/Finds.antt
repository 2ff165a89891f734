-- The first number that passes a test, found one by one.
use Rattle.std.proofs.Common.{◌≡◌, ◌<◌, ◌≤◌, ◌+◌, ◌-◌, ℕ, suc, Bool, true, false, cond, Some, None, List, ◌∙◌, ap, arith}
use Rattle.std.specs.Prelude.{find}
use Rattle.std.specs.List.{range_with_len}

-- the numbers from one up to a count
abbrev pub from_to : ℕ → ℕ → List ℕ
from_to i n = range_with_len i (n - i)

pub find-here : (p : ℕ → Bool) (n i : ℕ) → i < n → p i ≡ true → find p (from_to i n) ≡ Some i
find-here p n i less e =
    let one : n - i ≡ suc (n - (i + 1)) = omega (arith, less) in
    ap (λ (k : ℕ). find p (range_with_len i k)) one ∙ ap (λ (b : Bool). cond b (Some i) (find p (from_to (i + 1) n))) e

pub find-next : (p : ℕ → Bool) (n i : ℕ) → i < n → p i ≡ false → find p (from_to i n) ≡ find p (from_to (i + 1) n)
find-next p n i less e =
    let one : n - i ≡ suc (n - (i + 1)) = omega (arith, less) in
    ap (λ (k : ℕ). find p (range_with_len i k)) one ∙ ap (λ (b : Bool). cond b (Some i) (find p (from_to (i + 1) n))) e

pub find-over : (p : ℕ → Bool) (n i : ℕ) → n ≤ i → find p (from_to i n) ≡ None
find-over p n i past =
    let none : n - i ≡ 0 = omega (arith, past) in
    ap (λ (k : ℕ). find p (range_with_len i k)) none
