-- Facts on aligned numbers, blocks and powers of two, over plain numbers.
use Rattle.std.proofs.Common.{◌≡◌, ◌≢◌, ◌≤◌, ℕ, ◌+◌, ◌-◌, ◌*◌, ◌/◌, ◌%◌, ◌^◌, ◌<◌, ◌==◌, ◌||◌, inl, inr, sym, ◌∙◌, ap, arith}
use Rattle.std.proofs.Math.Nat.{pow-le-pow_right, div-mul-le_self, lt-div-mul-add}
use Rattle.std.proofs.lemmas.Nat.{pow_pos, pow_below, shr-shr, div-mul-add, div-add-mod', mod_below}
use Rattle.std.proofs.lemmas.Nat.Bits.{same_from_bits, bit_at-zero}
use Rattle.std.proofs.lemmas.Bool.{cases_lt, or_cases, eqb-true, le-leb, lt-leb, ne_eqb, eq-eqb}
use Rattle.std.proofs.Math.Dec.{leb}
use Rattle.std.specs.Int.{bit_at}
use Rattle.axi_beats.specs.Bus.{IsBusWidth}
use Rattle.burst_address.specs.Formulas.{aligned}

-- ---- powers of two

-- a power of two that is at most 128 has an exponent below 8
pub exponent_below : (s : ℕ) → 2 ^ s ≤ 128 → s < 8
exponent_below s le =
    elim (cases_lt s 8) [
      | inl lt ↦ lt
      | inr ge ↦ let more : 2 ^ 8 ≤ 2 ^ s = pow-le-pow_right {n = 2} (omega arith) ge in absurd (omega arith)
    ]

-- and one with a greater exponent is above 128
pub power_above : (s : ℕ) → 7 < s → 128 < 2 ^ s
power_above s lt = let more : 2 ^ 8 ≤ 2 ^ s = pow-le-pow_right {n = 2} (omega arith) lt in omega arith

-- powers of two are in the order of their exponents
pub exponents : (s w : ℕ) → 2 ^ s ≤ 2 ^ w → s ≤ w
exponents s w le =
    elim (cases_lt w s) [
      | inl lt ↦ let more : 2 ^ w < 2 ^ s = pow_below w s lt in absurd (omega arith)
      | inr ge ↦ ge
    ]

-- a bus's width is a power of two, at most the 7th
pub bus_power : (bus : ℕ) → IsBusWidth bus → (w : ℕ) × (bus ≡ 2 ^ w) × (w ≤ 7)
bus_power bus is =
    elim (or_cases (bus == 4 || bus == 8 || bus == 16 || bus == 32 || bus == 64) (bus == 128) is) [
      | inl a ↦ elim (or_cases (bus == 4 || bus == 8 || bus == 16 || bus == 32) (bus == 64) a) [
        | inl b ↦ elim (or_cases (bus == 4 || bus == 8 || bus == 16) (bus == 32) b) [
          | inl c ↦ elim (or_cases (bus == 4 || bus == 8) (bus == 16) c) [
            | inl d ↦ elim (or_cases (bus == 4) (bus == 8) d) [
              | inl e ↦ (2, eqb-true bus 4 e, omega arith)
              | inr e ↦ (3, eqb-true bus 8 e, omega arith)
            ]
            | inr d ↦ (4, eqb-true bus 16 d, omega arith)
          ]
          | inr c ↦ (5, eqb-true bus 32 c, omega arith)
        ]
        | inr b ↦ (6, eqb-true bus 64 b, omega arith)
      ]
      | inr a ↦ (7, eqb-true bus 128 a, omega arith)
    ]

-- ---- blocks of one size

-- a number lies at or above its block's start, and before its end
pub aligned-le : (size x : ℕ) → aligned size x ≤ x
aligned-le size x = div-mul-le_self x size

pub aligned-near : (size x : ℕ) → 0 < size → x < aligned size x + size
aligned-near size x some = lt-div-mul-add {a = x} {b = size} some

-- a number from a block's start on, before its end, lies in that block
pub same_block : (size x y : ℕ) → 0 < size → aligned size x ≤ y → y < aligned size x + size → y / size ≡ x / size
same_block size x y some from to =
    let rest : y ≡ x / size * size + (y - x / size * size) = omega arith in
    ap (λ n. n / size) rest ∙ div-mul-add (x / size) size (y - x / size * size) (omega arith)

pub aligned-multiple : (size m y : ℕ) → 0 < size → y ≡ m * size → aligned size y ≡ y
aligned-multiple size m y some e =
    let sum : y ≡ m * size + 0 = omega arith in
    ap (λ q. q * size) (ap (λ t. t / size) sum ∙ div-mul-add m size 0 some) ∙ sym e

-- numbers of one block lie in one block of a greater power of two
pub coarser : (k m x y : ℕ) → k ≤ m → y / 2 ^ k ≡ x / 2 ^ k → y / 2 ^ m ≡ x / 2 ^ m
coarser k m x y le same =
    let all : k + (m - k) ≡ m = omega arith in
    let split : (n : ℕ) → n / 2 ^ m ≡ n / 2 ^ k / 2 ^ (m - k) =
    λ n. ap (λ e. n / 2 ^ e) (sym all) ∙ sym (shr-shr n k (m - k))
    in split y ∙ ap (λ q. q / 2 ^ (m - k)) same ∙ sym (split x)

-- the remainder grows with a number that stays in its block
pub mod-add : (bus x k : ℕ) → (x + k) / bus ≡ x / bus → (x + k) % bus ≡ x % bus + k
mod-add bus x k same =
    let lower : x / bus * bus + x % bus ≡ x = div-add-mod' x bus in
    let upper : (x + k) / bus * bus + (x + k) % bus ≡ x + k = div-add-mod' (x + k) bus in
    let both : (x + k) / bus * bus ≡ x / bus * bus = ap (λ q. q * bus) same in
    omega arith

-- ---- bits

no_bits : (n : ℕ) → ((i : ℕ) → bit_at n i ≡ 0) → n ≡ 0
no_bits n none = same_from_bits n 0 (λ i. none i ∙ sym (bit_at-zero i))

-- a number whose bits all stand below k is below 2 ^ k
pub below_from_bits : (n k : ℕ) → ((i : ℕ) → k ≤ i → bit_at n i ≡ 0) → n < 2 ^ k
below_from_bits n k none =
    let high : n / 2 ^ k ≡ 0 =
    no_bits (n / 2 ^ k) (λ i. ap (λ q. q % 2) (shr-shr n k i) ∙ none (k + i) (omega arith)) in
    let whole : n / 2 ^ k * 2 ^ k + n % 2 ^ k ≡ n = div-add-mod' n (2 ^ k) in
    let small : n % 2 ^ k < 2 ^ k = mod_below n (2 ^ k) (pow_pos k) in
    let gone : n / 2 ^ k * 2 ^ k ≡ 0 * 2 ^ k = ap (λ q. q * 2 ^ k) high in
    omega arith

-- ---- pages

pages : (al start total : ℕ) → al / 4096 ≡ start / 4096 → 0 < total → leb (al % 4096 + total) 4096 ≡ (start / 4096 == (al + total - 1) / 4096)
pages al start total page some =
    elim (cases_lt 4096 (al % 4096 + total)) [
      | inl over ↦
          let apart : start / 4096 ≢ (al + total - 1) / 4096 = λ e. omega arith in
          lt-leb (al % 4096 + total) 4096 over ∙ sym (ne_eqb (start / 4096) ((al + total - 1) / 4096) apart)
      | inr within ↦
          let same : start / 4096 ≡ (al + total - 1) / 4096 = omega arith in
          le-leb (al % 4096 + total) 4096 within ∙ sym (eq-eqb (start / 4096) ((al + total - 1) / 4096) same)
    ]

-- whether all of an INCR burst lies in one page, by what is left of the page
pub one_page : (s start total : ℕ) → s ≤ 7 → 2 ^ s ≤ total → leb (aligned (2 ^ s) start % 4096 + total) 4096 ≡ (start / 4096 == (aligned (2 ^ s) start + total - 1) / 4096)
one_page s start total small some =
    let pos : 0 < 2 ^ s = pow_pos s in
    let near : aligned (2 ^ s) start ≤ start = aligned-le (2 ^ s) start in
    let block : aligned (2 ^ s) start / 2 ^ s ≡ start / 2 ^ s = same_block (2 ^ s) start (aligned (2 ^ s) start) pos (omega arith) (omega arith) in
    let page : aligned (2 ^ s) start / 2 ^ 12 ≡ start / 2 ^ 12 = coarser s 12 start (aligned (2 ^ s) start) (omega arith) block in
    pages (aligned (2 ^ s) start) start total page (omega arith)
