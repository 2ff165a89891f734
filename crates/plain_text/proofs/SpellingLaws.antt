-- Numbers are read as they are written, and written as they are read.
use Rattle.std.proofs.Common.{◌≡◌, ℕ, ◌+◌, ◌*◌, ◌^◌, ◌<◌, ◌≤◌, ◌&&◌, Bool, true, false, cond, ltb, List, [], ◌∷◌, Option, Some, None, length, get_or, refl, ap, sym, subst, ◌∙◌, arith, lit<, inl, inr}
use Rattle.std.specs.Prelude.{nat_lt}
use Rattle.std.specs.Char.{digit_value, is_digit}
use Rattle.std.specs.Fmt.{decimal}
use Rattle.std.specs.List.{list_all}
use Rattle.std.specs.Str.Parse.{AllDigits, digits_value}
use Rattle.std.proofs.lemmas.Bool.{ltb-true, ltb-false, lt-ltb, le-ltb, ne_eqb, cases_lt}
use Rattle.std.proofs.lemmas.Fmt.{decimal-digits_value, decimal_is_IsNumeral, decimal_digit, first_decimal}
use Rattle.std.proofs.lemmas.Str.Parse.{IsNumeralModel, numerals_by_value, tells_digits}
use Rattle.plain_text.specs.Exact.{IsExact}
use Rattle.plain_text.specs.Numbers.{is_numeral, is_plain, number_in, read_byte_pair, read_plain_decimal}
use Rattle.plain_text.proofs.FieldLaws.{Avoids}

-- ---- tests of digits

pub both_true : (a b : Bool) → a && b ≡ true → (a ≡ true) × (b ≡ true)
both_true true b e = (refl, e)
both_true false b e = absurd cc

pub AllDigits-from_test : (base : ℕ) (ds : List ℕ) → list_all (λ digit. is_digit digit base) ds ≡ true → AllDigits base ds
AllDigits-from_test base [] e = tt
AllDigits-from_test base (d ∷ ds) e =
    let b = both_true (ltb (digit_value d) base) (list_all (λ digit. is_digit digit base) ds) e in
    (ltb-true (digit_value d) base b.0, AllDigits-from_test base ds b.1)

pub test-AllDigits : (base : ℕ) (ds : List ℕ) → AllDigits base ds → list_all (λ digit. is_digit digit base) ds ≡ true
test-AllDigits base [] h = refl
test-AllDigits base (d ∷ ds) h = rw (lt-ltb (digit_value d) base h.0, test-AllDigits base ds h.1) refl

-- digits are no byte that is no digit
pub Avoids-digits : (end base : ℕ) (ds : List ℕ) → base ≤ digit_value end → AllDigits base ds → Avoids end ds
Avoids-digits end base [] h all = tt
Avoids-digits end base (d ∷ ds) h all =
    (ne_eqb d end (λ e. let same : digit_value d ≡ digit_value end = ap digit_value e in omega (arith, all.0)), Avoids-digits end base ds h all.1)

-- what a numeral and a limit say of a reading
pub number_in_parts : (ds : List ℕ) (base limit n : ℕ) → number_in ds base limit ≡ Some n → (0 < length ds) × AllDigits base ds × (digits_value base ds < limit) × (digits_value base ds ≡ n)
unfolding number_in
number_in_parts ds base limit n e =
    let c = chosen (is_numeral ds base && nat_lt (digits_value base ds) limit) (digits_value base ds) n e in
    let b = both_true (is_numeral ds base) (nat_lt (digits_value base ds) limit) c.0 in
    let m = both_true (nat_lt 0 (length ds)) (list_all (λ digit. is_digit digit base) ds) b.0 in
    (ltb-true 0 (length ds) m.0, AllDigits-from_test base ds m.1, ltb-true (digits_value base ds) limit b.1, c.1)
  where
    chosen : (b : Bool) (x y : ℕ) → cond b (Some x) None ≡ Some y → (b ≡ true) × (x ≡ y)
    chosen true x y e = (refl, cc)
    chosen false x y e = absurd cc

pub number_in-numeral : (ds : List ℕ) (base limit n : ℕ) → 0 < length ds → AllDigits base ds → digits_value base ds ≡ n → n < limit → number_in ds base limit ≡ Some n
unfolding number_in
number_in-numeral ds base limit n some all is small =
    rw (lt-ltb 0 (length ds) some, test-AllDigits base ds all, is, lt-ltb n limit small) refl

-- no needless zero at the front
pub is_plain_parts : (ds : List ℕ) → is_plain ds ≡ true → get_or ds 0 0 ≡ 48 → length ds < 2
is_plain_parts ds e zero_first = by (ltb (length ds) 2) refl
  where
    by : (b : Bool) → ltb (length ds) 2 ≡ b → length ds < 2
    by true h = ltb-true (length ds) 2 h
    by false h = absurd (let f : false ≡ true = sym (rw (h, zero_first) refl) ∙ e in cc)

-- ---- pairs of hexadecimal digits

pub pair_is : (high low : ℕ) → digit_value high < 16 → digit_value low < 16 → number_in (high ∷ low ∷ []) 16 256 ≡ Some (16 * digit_value high + digit_value low)
pair_is high low h l =
    let value : digits_value 16 (high ∷ low ∷ []) ≡ 16 * digit_value high + digit_value low = omega arith in
    number_in-numeral (high ∷ low ∷ []) 16 256 (16 * digit_value high + digit_value low) (omega arith) (h, (l, tt)) value (omega arith)

pub pair_without_high : (high low : ℕ) → (digit_value high < 16 → ⊥) → number_in (high ∷ low ∷ []) 16 256 ≡ None
unfolding number_in
pair_without_high high low none = rw (le-ltb (digit_value high) 16 (omega (arith, none))) refl

pub pair_without_low : (high low : ℕ) → digit_value high < 16 → (digit_value low < 16 → ⊥) → number_in (high ∷ low ∷ []) 16 256 ≡ None
unfolding number_in
pair_without_low high low h none = rw (lt-ltb (digit_value high) 16 h, le-ltb (digit_value low) 16 (omega (arith, none))) refl

-- a word of two digits, and one of another length
pub pair_word : (word : List ℕ) → length word ≡ 2 → read_byte_pair word ≡ number_in (get_or word 0 0 ∷ get_or word 1 0 ∷ []) 16 256
unfolding read_byte_pair
pair_word (high ∷ low ∷ []) is = refl
pair_word [] is = absurd (omega arith)
pair_word (high ∷ []) is = absurd (omega arith)
pair_word (high ∷ low ∷ more ∷ rest) is = absurd (omega arith)

pub no_pair : (word : List ℕ) → (length word ≡ 2 → ⊥) → read_byte_pair word ≡ None
unfolding read_byte_pair
no_pair word other = rw (ne_eqb (length word) 2 other) refl

-- ---- decimals

decimal_model : IsNumeralModel (AllDigits 10) (digits_value 10)
decimal_model = numerals_by_value (AllDigits 10) tells_digits

read_plain_decimal_parts : (word : List ℕ) (limit n : ℕ) → read_plain_decimal word limit ≡ Some n → (is_plain word ≡ true) × (number_in word 10 limit ≡ Some n)
unfolding read_plain_decimal
read_plain_decimal_parts word limit n e = by (is_plain word) (number_in word 10 limit) e
  where
    by : (b : Bool) (o : Option ℕ) → cond b o None ≡ Some n → (b ≡ true) × (o ≡ Some n)
    by true o e = (refl, e)
    by false o e = absurd cc

decimal_is_plain : (n : ℕ) → n < 2 ^ 64 → is_plain (decimal n) ≡ true
decimal_is_plain n h = by (ltb (length (decimal n)) 2) refl
  where
    by : (b : Bool) → ltb (length (decimal n)) 2 ≡ b → is_plain (decimal n) ≡ true
    by true e = rw e refl
    by false e =
        let long : 2 ≤ length (decimal n) = ltb-false (length (decimal n)) 2 e in
        let large : 0 < n = elim (cases_lt 0 n) [
          | inl some ↦ some
          | inr none ↦ (let nothing : n ≡ 0 = omega (arith, none) in let one : length (decimal n) ≡ 1 = rw (nothing, decimal_digit 0 (lit< tt)) refl in absurd (omega arith))
        ] in
        let first : 48 < get_or (decimal n) 0 0 = first_decimal n large h in
        rw (e, ne_eqb (get_or (decimal n) 0 0) 48 (λ is. omega arith)) refl

decimal_again : (limit n : ℕ) → limit ≤ 2 ^ 64 → n < limit → read_plain_decimal (decimal n) limit ≡ Some n
unfolding read_plain_decimal
decimal_again limit n bound small =
    let fits : n < 2 ^ 64 = omega arith in
    let numeral = decimal_is_IsNumeral n fits in
    rw (decimal_is_plain n fits) (number_in-numeral (decimal n) 10 limit n numeral.0.0 numeral.0.1 numeral.1 small)

pub decimal_is_exact : (limit : ℕ) → limit ≤ 2 ^ 64 → IsExact (λ word. read_plain_decimal word limit) decimal (λ n. n < limit)
decimal_is_exact limit bound = record {
  sound = λ word n e.
      let p = read_plain_decimal_parts word limit n e in
      let m = number_in_parts word 10 limit n p.1 in
      let small : n < limit = subst (λ (k : ℕ). k < limit) m.3 m.2 in
      let below : digits_value 10 word < 2 ^ 64 = omega (arith, m.2) in
      let same : decimal (digits_value 10 word) ≡ word = decimal-digits_value decimal_model word m.1 m.0 (λ zero_first. let short = is_plain_parts word p.0 zero_first in let some = m.0 in omega arith) below in
      (small, sym same ∙ ap decimal m.3);
  complete = λ n small. decimal_again limit n bound small;
}

pub Avoids-decimal : (end n : ℕ) → 10 ≤ digit_value end → n < 2 ^ 64 → Avoids end (decimal n)
Avoids-decimal end n h small = Avoids-digits end 10 (decimal n) h (decimal_is_IsNumeral n small).0.1
