-- Shifted strobes, as divisions.
use Rattle.std.proofs.Common.{add-one, ◌≡◌, ℕ, ◌+◌, ◌*◌, ◌/◌, ◌%◌, ◌^◌, ◌==◌, ◌&&◌, ap, arith, leb, ltb, ◌∙◌}
use Rattle.std.proofs.Math.Nat.{div-lt_iff_lt-mul, two-pow-succ}
use Rattle.std.proofs.lemmas.Nat.{pow_pos, div-add-mod'}
use Rattle.std.proofs.lemmas.Bool.Decides.{nat_tests}
use Rattle.axi_history.specs.PortRules.{strobes_within}

-- the shifts bring a number back exactly where the low bits are 0
pub low_bits : (d s : ℕ) → (s / d * d == s) ≡ (s % d == 0)
low_bits d s = let whole = div-add-mod' s d in grind (arith, nat_tests)

-- at most one bit is left from a lane on exactly where there is none above that lane
pub high_bits : (s upper : ℕ) → leb (s / 2 ^ upper) 1 ≡ ltb s (2 ^ (upper + 1))
high_bits s upper =
    let iff = div-lt_iff_lt-mul {k = 2 ^ upper} {x = s} {y = 2} (pow_pos upper) in
    let twice : 2 ^ (upper + 1) ≡ 2 ^ upper + 2 ^ upper = ap (λ (n : ℕ). 2 ^ n) (add-one upper) ∙ two-pow-succ upper in
    grind (arith, nat_tests)

pub within : (lower upper s : ℕ) → (s / 2 ^ lower * 2 ^ lower == s && leb (s / 2 ^ upper) 1) ≡ strobes_within lower upper s
within lower upper s = rw (low_bits (2 ^ lower) s, high_bits s upper)
