-- How a number is read from its first digit on.
use Rattle.std.proofs.Common.{◌≡◌, ℕ, ◌+◌, ◌*◌, ◌<◌, drop, get_or, ◌≤◌, ◌&&◌, nat_lt, List, [], ◌∷◌, Option, Some, None, length, if◌then◌else◌, subst, ◌∙◌, arith}
use Rattle.std.specs.Char.{digit_value, is_digit}
use Rattle.std.specs.List.{list_all}
use Rattle.std.specs.Str.Parse.{digits_value_after}
use Rattle.std.proofs.Math.Nat.{mul-le-mul_left}
use Rattle.std.proofs.lemmas.Bool.{lt-ltb, le-ltb, and_right}
use Rattle.std.proofs.lemmas.List.{drop_more}
use Rattle.plain_text.specs.Numbers.{number_in}

-- the number that the digits spell when they follow those of `value`
abbrev pub number_after : ℕ → ℕ → ℕ → List ℕ → Option ℕ
number_after value base limit digits =
    if list_all (λ digit. is_digit digit base) digits && nat_lt (digits_value_after base value digits) limit
    then Some (digits_value_after base value digits)
    else None

pub number_in_empty : (digits : List ℕ) (base limit : ℕ) → length digits ≡ 0 → number_in digits base limit ≡ None
unfolding number_in
number_in_empty digits base limit h = rw h

pub number_in_from_zero : (digits : List ℕ) (base limit : ℕ) → 0 < length digits → number_in digits base limit ≡ number_after 0 base limit digits
unfolding number_in
number_in_from_zero digits base limit h = rw (lt-ltb 0 (length digits) h)

-- a digit
pub number_after_digit : (value base limit digit : ℕ) (rest : List ℕ) → digit_value digit < base → number_after value base limit (digit ∷ rest) ≡ number_after (value * base + digit_value digit) base limit rest
number_after_digit value base limit digit rest h = rw (lt-ltb (digit_value digit) base h)

-- further digits make no number less
pub digits_value_after-le : (base value : ℕ) (digits : List ℕ) → 1 ≤ base → value ≤ digits_value_after base value digits
digits_value_after-le base value [] h = omega arith
digits_value_after-le base value (digit ∷ rest) h =
    let further = digits_value_after-le base (value * base + digit_value digit) rest h in
    let grown : value * 1 ≤ value * base = mul-le-mul_left value h in
    omega (arith, further, grown)

-- a number that has reached the limit
pub number_after_over : (value base limit : ℕ) (digits : List ℕ) → 1 ≤ base → limit ≤ value → number_after value base limit digits ≡ None
number_after_over value base limit digits h over =
    let reached : limit ≤ digits_value_after base value digits = omega (arith, digits_value_after-le base value digits h) in
    rw (and_right (list_all (λ digit. is_digit digit base) digits) (nat_lt (digits_value_after base value digits) limit) (le-ltb (digits_value_after base value digits) limit reached))

-- a digit that takes the number to the limit
pub number_after_exceeds : (digits : List ℕ) (i value base limit digit : ℕ) → i < length digits → digit_value (get_or digits i 0) < base → digit ≡ digit_value (get_or digits i 0) → limit ≤ value * base + digit → number_after value base limit (drop i digits) ≡ None
number_after_exceeds digits i value base limit digit inside fits is over =
    let rest = drop (i + 1) digits in
    let next = value * base + digit_value (get_or digits i 0) in
    let reached : limit ≤ next = subst (λ (d : ℕ). limit ≤ value * base + d) is over in
    rw (drop_more digits i 0 inside)
    (number_after_digit value base limit (get_or digits i 0) rest fits ∙ number_after_over next base limit rest (omega arith) reached)
