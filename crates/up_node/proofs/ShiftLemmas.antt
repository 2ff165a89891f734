-- The shift of a beat, and its strobes.
use Rattle.std.proofs.Common.{◌≡◌, ◌+◌, ◌-◌, ◌*◌, ◌/◌, ◌%◌, ◌^◌, ◌<◌, ◌≤◌, ℕ, sym, ◌∙◌, ap, subst, arith, inl, inr}
use Rattle.std.proofs.Math.Nat.{div-div-eq-div-mul, div-lt_iff_lt-mul, mod-eq_of_lt, mul-lt-mul_of_pos_right, mod-mod_of_dvd, mul-mod_right}
use Rattle.std.specs.Prelude.{bit_and}
use Rattle.std.proofs.lemmas.Bool.{cases_lt}
use Rattle.std.proofs.lemmas.Nat.{and_mask, div-add-mod', mod_below, pow-add, pow_below, pow_pos}
use Rattle.std.proofs.lemmas.Nat.Gcd.{dvd_of_mod-eq-zero}
use Rattle.axi_beats.specs.Bus.{IsBusWidth}
use Rattle.burst_address.proofs.Numbers.{bus_power, exponents}
use Rattle.burst_address.proofs.Widths.{width-bounds}
use Rattle.burst_address.specs.Lanes.{lane_shift}

module _ (narrow wide : ℕ) (is_narrow : IsBusWidth narrow) (is_wide : IsBusWidth wide) (wider : narrow < wide) where
  -- the wider bus is so many times as wide
  times : (k : ℕ) × (wide ≡ k * narrow)
  times =
      let low : (w : ℕ) × (narrow ≡ 2 ^ w) × (w ≤ 7) = bus_power narrow is_narrow in
      let high : (w : ℕ) × (wide ≡ 2 ^ w) × (w ≤ 7) = bus_power wide is_wide in
      let order : low.0 ≤ high.0 = exponents low.0 high.0 (omega (arith, wider, low.1, high.1)) in
      let sum : (high.0 - low.0) + low.0 ≡ high.0 = omega (arith, order) in
      (2 ^ (high.0 - low.0), high.1 ∙ ap (λ w. 2 ^ w) (sym sum) ∙ pow-add 2 (high.0 - low.0) low.0 ∙ ap (λ p. 2 ^ (high.0 - low.0) * p) (sym low.1))

  -- the word of the narrow bus is one of those of the wide one
  pub shift-within : (x : ℕ) → lane_shift narrow wide x + narrow ≤ wide
  shift-within x =
      let some = (width-bounds narrow is_narrow).0 in
      let below : x % wide < times.0 * narrow = subst (λ (n : ℕ). x % wide < n) times.1 (mod_below x wide (omega (arith, wider))) in
      let word : x % wide / narrow < times.0 = (div-lt_iff_lt-mul {k = narrow} {x = x % wide} {y = times.0} some).1 below in
      let rest : ℕ = times.0 - (x % wide / narrow + 1) in
      let sum : times.0 ≡ x % wide / narrow + 1 + rest = omega (arith, word) in
      let scaled : times.0 * narrow ≡ (x % wide / narrow + 1 + rest) * narrow = ap (λ t. t * narrow) sum in
      omega (arith, scaled, times.1)

  -- a byte's lane on the wide bus
  pub lane-wider : (x : ℕ) → x % wide ≡ x % narrow + lane_shift narrow wide x
  lane-wider x =
      let whole : wide % narrow ≡ 0 = ap (λ p. p % narrow) (let p : wide ≡ narrow * times.0 = omega (arith, times.1) in p) ∙ mul-mod_right narrow times.0 in
      let same : x % wide % narrow ≡ x % narrow = mod-mod_of_dvd narrow x (dvd_of_mod-eq-zero narrow whole) in
      let split : lane_shift narrow wide x + x % wide % narrow ≡ x % wide = div-add-mod' (x % wide) narrow in
      omega (arith, same, split)

  -- bytes of one narrow word have one shift
  pub one-shift : (x y : ℕ) → x / narrow ≡ y / narrow → lane_shift narrow wide x ≡ lane_shift narrow wide y
  one-shift x y same =
      let over : (z : ℕ) → z / wide ≡ z / narrow / times.0 = λ z. ap (λ p. z / p) (let p : wide ≡ narrow * times.0 = omega (arith, times.1) in p) ∙ sym (div-div-eq-div-mul z narrow times.0) in
      let quotient : x / wide ≡ y / wide = over x ∙ ap (λ q. q / times.0) same ∙ sym (over y) in
      let words : x / narrow * narrow ≡ y / narrow * narrow = ap (λ q. q * narrow) same in
      let wide_words : x / wide * wide ≡ y / wide * wide = ap (λ q. q * wide) quotient in
      omega (
        arith,
        lane-wider x,
        lane-wider y,
        words,
        wide_words,
        div-add-mod' x narrow,
        div-add-mod' y narrow,
        div-add-mod' x wide,
        div-add-mod' y wide,
      )

-- powers of two ascend
pub pow-most : (i j : ℕ) → i ≤ j → 2 ^ i ≤ 2 ^ j
pow-most i j le = elim (cases_lt i j) [
  | inl lt ↦ let less = pow_below i j lt in omega (arith, less)
  | inr ge ↦ let same : i ≡ j = omega (arith, le, ge) in let powers : 2 ^ i ≡ 2 ^ j = ap (λ k. 2 ^ k) same in omega (arith, powers)
]

-- strobes by a mask and a shift
pub strobe-moved : (strobe n k : ℕ) → n < 128 → k + n ≤ 128 → bit_and strobe (1 * 2 ^ n % 2 ^ 128 - 1) * 2 ^ k % 2 ^ 128 ≡ strobe % 2 ^ n * 2 ^ k
strobe-moved strobe n k low within =
    let top : 1 * 2 ^ n < 2 ^ 128 = let less = pow_below n 128 low in omega (arith, less) in
    let one : 1 * 2 ^ n ≡ 2 ^ n = omega arith in
    let mask : 1 * 2 ^ n % 2 ^ 128 - 1 ≡ 2 ^ n - 1 = ap (λ m. m - 1) (mod-eq_of_lt top ∙ one) in
    let kept : bit_and strobe (1 * 2 ^ n % 2 ^ 128 - 1) ≡ strobe % 2 ^ n = ap (bit_and strobe) mask ∙ and_mask strobe n in
    let below : strobe % 2 ^ n * 2 ^ k < 2 ^ n * 2 ^ k = mul-lt-mul_of_pos_right (mod_below strobe (2 ^ n) (pow_pos n)) (pow_pos k) in
    let small : strobe % 2 ^ n * 2 ^ k < 2 ^ 128 = let most = pow-most (n + k) 128 (omega (arith, within)) in omega (arith, below, most, pow-add 2 n k) in
    ap (λ m. m * 2 ^ k % 2 ^ 128) kept ∙ mod-eq_of_lt small
