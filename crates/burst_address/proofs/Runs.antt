-- Runs of neighbouring addresses.
use Rattle.std.proofs.Common.{◌≡◌, ◌≤◌, ℕ, ◌+◌, ◌*◌, ◌<◌, suc, zero, ◌∷◌, ◌++◌, length, sym, ◌∙◌, ap, subst, arith}
use Rattle.std.specs.Prelude.{All}
use Rattle.std.specs.List.{range_with_len}
use Rattle.std.proofs.lemmas.List.FromFn.{length-range_with_len, get_or-range_with_len}
use Rattle.burst_address.specs.Formulas.{aligned}
use Rattle.burst_address.specs.Bytes.{valid_bytes}
use Rattle.burst_address.proofs.Numbers.{aligned-multiple}

-- a run that ends where another begins
pub run-append : (a m b n : ℕ) → a + m ≡ b → range_with_len a m ++ range_with_len b n ≡ range_with_len a (m + n)
run-append a zero b n e = ap (λ t. range_with_len t n) (omega arith) ∙ ap (λ t. range_with_len a t) (omega arith)
run-append a (suc m) b n e =
    let more : suc m + n ≡ suc (m + n) = omega arith in
    ap (λ t. a ∷ t) (run-append (a + 1) m b n (omega arith)) ∙ sym (ap (λ t. range_with_len a t) more)

pub All-run : (P : ℕ → Type 0) (a n : ℕ) → ((x : ℕ) → a ≤ x → x < a + n → P x) → All P (range_with_len a n)
All-run P a n each = λ k d lt.
    let long : length (range_with_len a n) ≡ n = length-range_with_len a n in
    subst P (sym (get_or-range_with_len a n k d (omega arith))) (each (a + k) (omega arith) (omega arith))

-- a beat at a multiple of its size has all its bytes valid
pub valid_bytes-whole : (size m y : ℕ) → 0 < size → y ≡ m * size → valid_bytes size y ≡ range_with_len y size
valid_bytes-whole size m y some e =
    let same : aligned size y ≡ y = aligned-multiple size m y some e in
    ap (λ t. range_with_len y t) (omega arith)
