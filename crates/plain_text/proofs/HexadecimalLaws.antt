-- The digits of a number in base 16 are the one text in lower case that spells it so.
use Rattle.std.proofs.Common.{◌≡◌, ℕ, zero, suc, ◌+◌, ◌-◌, ◌*◌, ◌/◌, ◌%◌, ◌^◌, ◌<◌, ◌≤◌, ◌&&◌, ◌||◌, Bool, true, false, cond, eqb, ltb, not, List, [], ◌∷◌, ◌++◌, Option, Some, None, length, take, get_or, refl, ap, sym, subst, ◌∙◌, arith, lit<, lit≤, inl, inr, append_assoc}
use Rattle.std.specs.Char.{digit_value}
use Rattle.std.specs.Fmt.{digits, digits_onto, digit_glyph}
use Rattle.std.specs.List.{list_all}
use Rattle.std.specs.Str.Parse.{AllDigits, digits_value}
use Rattle.std.proofs.lemmas.Bool.{ltb-true, lt-ltb, ne_eqb, cases_lt}
use Rattle.std.proofs.lemmas.Bool.Decides.{nat_tests}
use Rattle.std.proofs.lemmas.Fmt.{digits_is_IsNumeral}
use Rattle.std.proofs.lemmas.Int.Digits.{digits_value_more}
use Rattle.std.proofs.lemmas.Str.Parse.{digits_value-take-le}
use Rattle.std.proofs.lemmas.List.{take_more, take_all, append-nil}
use Rattle.std.proofs.Math.Nat.{pow-suc, one-le-pow}
use Rattle.plain_text.specs.Exact.{IsExact, ◌>>=◌}
use Rattle.plain_text.specs.ExactLaws.{AreBytes}
use Rattle.plain_text.specs.Numbers.{is_plain, number_in}
use Rattle.plain_text.specs.Printing.{hexadecimal, pair_of, pairs}
use Rattle.plain_text.specs.Spelling.{is_lower, read_glyph, read_pair, read_pairs, read_plain_hexadecimal}
use Rattle.plain_text.proofs.FieldLaws.{Avoids, bind_some, some_is}
use Rattle.plain_text.proofs.SpellingLaws.{both_true, number_in_parts, number_in-numeral, is_plain_parts, Avoids-digits}

-- ---- one digit

-- a digit in lower case is the one that is written of its value
glyph-digit_value : (c : ℕ) → is_lower c ≡ true → digit_value c < 16 → digit_glyph false (digit_value c) ≡ c
glyph-digit_value c lower small = grind (arith, nat_tests)

digit_value-glyph : (d : ℕ) → d < 16 → digit_value (digit_glyph false d) ≡ d
digit_value-glyph d small = grind (arith, nat_tests)

glyph_is_lower : (d : ℕ) → d < 16 → is_lower (digit_glyph false d) ≡ true
glyph_is_lower d small = grind (arith, nat_tests)

-- ---- one more digit

onto_last : (k n : ℕ) (acc : List ℕ) → n < 16 → digits_onto (suc k) 16 false n acc ≡ digit_glyph false n ∷ acc
onto_last k n acc small =
    let over : n / 16 ≡ 0 = omega arith in
    let rest : n % 16 ≡ n = omega arith in
    rw (over, rest) refl

onto_more : (k high d : ℕ) (acc : List ℕ) → 0 < high → d < 16 → digits_onto (suc k) 16 false (high * 16 + d) acc ≡ digits_onto k 16 false high (digit_glyph false d ∷ acc)
onto_more k high d acc some small =
    let over : (high * 16 + d) / 16 ≡ high = omega arith in
    let rest : (high * 16 + d) % 16 ≡ d = omega arith in
    rw (over, rest, ne_eqb high 0 (λ none. omega arith)) refl

-- ---- what is read

-- the byte is the digit that is written of its value
record IsGlyph (c : ℕ) : Type 0 where
  small : digit_value c < 16
  same : digit_glyph false (digit_value c) ≡ c

IsGlyph-at : (ds : List ℕ) → AllDigits 16 ds → list_all is_lower ds ≡ true → (i : ℕ) → i < length ds → IsGlyph (get_or ds i 0)
IsGlyph-at [] all lower i h = absurd (omega arith)
IsGlyph-at (d ∷ ds) all lower zero h = let b = both_true (is_lower d) (list_all is_lower ds) lower in record { small = all.0; same = glyph-digit_value d b.0 all.0 }
IsGlyph-at (d ∷ ds) all lower (suc i) h = let b = both_true (is_lower d) (list_all is_lower ds) lower in IsGlyph-at ds all.1 b.1 i (omega arith)

-- digits whose first isn't 0 spell a number of that many places
value_is_large : (ds : List ℕ) → 0 < digit_value (get_or ds 0 0) → (k : ℕ) → k < length ds → 16 ^ k ≤ digits_value 16 (take (k + 1) ds)
value_is_large ds first zero h = let is = digits_value_more 16 ds 0 h in omega arith
value_is_large ds first (suc k) h =
    let before = value_is_large ds first k (omega arith) in
    let at : k + 1 < length ds = omega arith in
    let is = digits_value_more 16 ds (k + 1) at in
    let next : suc k + 1 ≡ k + 1 + 1 = omega arith in
    let power : 16 ^ (suc k) ≡ 16 ^ k * 16 = pow-suc 16 k in
    rw next (omega (arith, before, is, power))

-- the digits of what the first digits spell are those digits
onto_again : (ds : List ℕ) → ((i : ℕ) → i < length ds → IsGlyph (get_or ds i 0)) → (1 < length ds → 0 < digit_value (get_or ds 0 0)) → (k : ℕ) → k < length ds → (fuel : ℕ) (acc : List ℕ) → k < fuel → digits_onto fuel 16 false (digits_value 16 (take (k + 1) ds)) acc ≡ take (k + 1) ds ++ acc
onto_again ds glyphs first k h zero acc more = absurd (omega arith)
onto_again ds glyphs first zero h (suc fuel) acc more =
    let c = get_or ds 0 0 in
    let g = glyphs 0 h in
    let is : digits_value 16 (take (0 + 1) ds) ≡ digit_value c = omega (arith, digits_value_more 16 ds 0 h) in
    let front : take (0 + 1) ds ≡ c ∷ [] = take_more ds 0 0 h in
    rw is (onto_last fuel (digit_value c) acc g.small ∙ ap (λ (x : ℕ). x ∷ acc) g.same ∙ ap (λ (xs : List ℕ). xs ++ acc) (sym front))
onto_again ds glyphs first (suc k) h (suc fuel) acc more =
    let at : k + 1 < length ds = omega arith in
    let c = get_or ds (k + 1) 0 in
    let g = glyphs (k + 1) at in
    let high = digits_value 16 (take (k + 1) ds) in
    let is : digits_value 16 (take (k + 1 + 1) ds) ≡ high * 16 + digit_value c = digits_value_more 16 ds (k + 1) at in
    let large = value_is_large ds (first (omega arith)) k (omega arith) in
    let power : 1 ≤ 16 ^ k = one-le-pow k 16 (lit< tt) in
    let some : 0 < high = omega arith in
    let front : take (k + 1 + 1) ds ≡ take (k + 1) ds ++ c ∷ [] = take_more ds (k + 1) 0 at in
    let next : suc k + 1 ≡ k + 1 + 1 = omega arith in
    let before = onto_again ds glyphs first k (omega arith) fuel (c ∷ acc) (omega arith) in
    rw next (ap (λ (n : ℕ). digits_onto (suc fuel) 16 false n acc) is ∙ onto_more fuel high (digit_value c) acc some g.small ∙ ap (λ (x : ℕ). digits_onto fuel 16 false high (x ∷ acc)) g.same ∙ before ∙ sym (append_assoc (take (k + 1) ds) (c ∷ []) acc) ∙ ap (λ (xs : List ℕ). xs ++ acc) (sym front))

hexadecimal-digits_value : (ds : List ℕ) → AllDigits 16 ds → list_all is_lower ds ≡ true → 0 < length ds → (1 < length ds → 0 < digit_value (get_or ds 0 0)) → digits_value 16 ds < 2 ^ 128 → hexadecimal (digits_value 16 ds) ≡ ds
unfolding digits
hexadecimal-digits_value ds all lower some first small =
    let last : ℕ = length ds - 1 in
    let whole : take (last + 1) ds ≡ ds = take_all (last + 1) ds (omega arith) in
    let short : length ds ≤ 32 = elim (cases_lt 32 (length ds)) [
      | inl long ↦ absurd (let large = value_is_large ds (first (omega arith)) 32 long in let within = digits_value-take-le 16 ds (32 + 1) (lit≤ tt) in omega arith)
      | inr short ↦ short
    ] in
    let again = onto_again ds (IsGlyph-at ds all lower) first last (omega arith) 64 [] (omega arith) in
    subst (λ (xs : List ℕ). digits_onto 64 16 false (digits_value 16 xs) [] ≡ xs) whole (again ∙ append-nil (take (last + 1) ds))

-- ---- what is written

onto_is_lower : (k n : ℕ) (acc : List ℕ) → list_all is_lower acc ≡ true → list_all is_lower (digits_onto k 16 false n acc) ≡ true
onto_is_lower zero n acc h = h
onto_is_lower (suc k) n acc h =
    let small : n % 16 < 16 = omega arith in
    let more : list_all is_lower (digit_glyph false (n % 16) ∷ acc) ≡ true = rw (glyph_is_lower (n % 16) small, h) refl in
    either (eqb (n / 16) 0) (digit_glyph false (n % 16) ∷ acc) (digits_onto k 16 false (n / 16) (digit_glyph false (n % 16) ∷ acc)) more (onto_is_lower k (n / 16) (digit_glyph false (n % 16) ∷ acc) more)
  where
    either : (b : Bool) (xs ys : List ℕ) → list_all is_lower xs ≡ true → list_all is_lower ys ≡ true → list_all is_lower (cond b xs ys) ≡ true
    either true xs ys p q = p
    either false xs ys p q = q

glyph_some : (d : ℕ) → 0 < d → d < 16 → digit_glyph false d ≡ 48 → ⊥
glyph_some d some small = grind (arith, nat_tests)

onto_first : (k n : ℕ) (acc : List ℕ) → 0 < n → n < 16 ^ k → get_or (digits_onto k 16 false n acc) 0 0 ≡ 48 → ⊥
onto_first zero n acc some small = absurd (omega arith)
onto_first (suc k) n acc some small =
    elim (cases_lt n 16) [
      | inl below ↦ λ e. glyph_some n some below (sym (ap (λ (xs : List ℕ). get_or xs 0 0) (onto_last k n acc below)) ∙ e)
      | inr above ↦ λ e.
          let parts : n ≡ n / 16 * 16 + n % 16 = omega arith in
          let high : 0 < n / 16 = omega arith in
          let low : n % 16 < 16 = omega arith in
          let power : 16 ^ (suc k) ≡ 16 ^ k * 16 = pow-suc 16 k in
          let less : n / 16 < 16 ^ k = omega arith in
          let is : digits_onto (suc k) 16 false n acc ≡ digits_onto k 16 false (n / 16) (digit_glyph false (n % 16) ∷ acc) = ap (λ (m : ℕ). digits_onto (suc k) 16 false m acc) parts ∙ onto_more k (n / 16) (n % 16) acc high low in
          onto_first k (n / 16) (digit_glyph false (n % 16) ∷ acc) high less (sym (ap (λ (xs : List ℕ). get_or xs 0 0) is) ∙ e)
    ]

hexadecimal_is_lower : (n : ℕ) → list_all is_lower (hexadecimal n) ≡ true
unfolding digits
hexadecimal_is_lower n = onto_is_lower 64 n [] refl

hexadecimal_first : (n : ℕ) → 0 < n → n < 16 ^ 64 → get_or (hexadecimal n) 0 0 ≡ 48 → ⊥
unfolding digits
hexadecimal_first n some small = onto_first 64 n [] some small

hexadecimal_zero : hexadecimal 0 ≡ 48 ∷ []
unfolding digits
hexadecimal_zero = refl

hexadecimal_is_plain : (n : ℕ) → n < 2 ^ 128 → is_plain (hexadecimal n) ≡ true
hexadecimal_is_plain n h =
    elim (cases_lt 0 n) [
      | inl some ↦ (let other = ne_eqb (get_or (hexadecimal n) 0 0) 48 (hexadecimal_first n some (omega arith)) in by (ltb (length (hexadecimal n)) 2) (eqb (get_or (hexadecimal n) 0 0) 48) other)
      | inr none ↦ (let nothing : n ≡ 0 = omega arith in rw (nothing, hexadecimal_zero) refl)
    ]
  where
    by : (a b : Bool) → b ≡ false → a || not b ≡ true
    by true b e = refl
    by false b e = rw e refl

-- ---- both ways

read_plain_hexadecimal_parts : (word : List ℕ) (limit n : ℕ) → read_plain_hexadecimal word limit ≡ Some n → (is_plain word ≡ true) × (list_all is_lower word ≡ true) × (number_in word 16 limit ≡ Some n)
unfolding read_plain_hexadecimal
read_plain_hexadecimal_parts word limit n e = by (is_plain word) (list_all is_lower word) (number_in word 16 limit) e
  where
    by : (a b : Bool) (o : Option ℕ) → cond (a && b) o None ≡ Some n → (a ≡ true) × (b ≡ true) × (o ≡ Some n)
    by true true o e = (refl, refl, e)
    by true false o e = absurd cc
    by false b o e = absurd cc

hexadecimal_again : (limit n : ℕ) → limit ≤ 2 ^ 128 → n < limit → read_plain_hexadecimal (hexadecimal n) limit ≡ Some n
unfolding read_plain_hexadecimal
hexadecimal_again limit n bound small =
    let fits : n < 2 ^ 128 = omega arith in
    let numeral = digits_is_IsNumeral 16 false (omega arith) (omega arith) n (omega arith) in
    rw (hexadecimal_is_plain n fits, hexadecimal_is_lower n) (number_in-numeral (hexadecimal n) 16 limit n numeral.0.0 numeral.0.1 numeral.1 small)

-- the first of digits that aren't needless
first_digit : (ds : List ℕ) → is_plain ds ≡ true → AllDigits 16 ds → list_all is_lower ds ≡ true → 1 < length ds → 0 < digit_value (get_or ds 0 0)
first_digit ds plain all lower long =
    let g = IsGlyph-at ds all lower 0 (omega arith) in
    elim (cases_lt 0 (digit_value (get_or ds 0 0))) [
      | inl some ↦ some
      | inr none ↦ (let nothing : digit_value (get_or ds 0 0) ≡ 0 = omega arith in let zero_first : get_or ds 0 0 ≡ 48 = sym g.same ∙ ap (digit_glyph false) nothing in absurd (let short = is_plain_parts ds plain zero_first in omega arith))
    ]

pub hexadecimal_is_exact : (limit : ℕ) → limit ≤ 2 ^ 128 → IsExact (λ word. read_plain_hexadecimal word limit) hexadecimal (λ n. n < limit)
hexadecimal_is_exact limit bound = record {
  sound = λ word n e.
      let p = read_plain_hexadecimal_parts word limit n e in
      let m = number_in_parts word 16 limit n p.2 in
      let small : n < limit = subst (λ (k : ℕ). k < limit) m.3 m.2 in
      let below : digits_value 16 word < 2 ^ 128 = omega (arith, m.2) in
      let same : hexadecimal (digits_value 16 word) ≡ word = hexadecimal-digits_value word m.1 p.1 m.0 (first_digit word p.0 m.1 p.1) below in
      (small, sym same ∙ ap hexadecimal m.3);
  complete = λ n small. hexadecimal_again limit n bound small;
}

pub Avoids-hexadecimal : (end n : ℕ) → 16 ≤ digit_value end → n < 2 ^ 128 → Avoids end (hexadecimal n)
Avoids-hexadecimal end n h small = Avoids-digits end 16 (hexadecimal n) h (digits_is_IsNumeral 16 false (omega arith) (omega arith) n (omega arith)).0.1

-- ---- pairs

glyph_again : (d : ℕ) → d < 16 → read_glyph (digit_glyph false d) ≡ Some d
unfolding read_glyph
glyph_again d small = rw (glyph_is_lower d small, digit_value-glyph d small, lt-ltb d 16 small) refl

read_glyph_parts : (c d : ℕ) → read_glyph c ≡ Some d → (d < 16) × (digit_glyph false d ≡ c)
unfolding read_glyph
read_glyph_parts c d e =
    let b = chosen (is_lower c && ltb (digit_value c) 16) (digit_value c) d e in
    let t = both_true (is_lower c) (ltb (digit_value c) 16) b.0 in
    let small : digit_value c < 16 = ltb-true (digit_value c) 16 t.1 in
    subst (λ (x : ℕ). (x < 16) × (digit_glyph false x ≡ c)) b.1 (small, glyph-digit_value c t.0 small)
  where
    chosen : (b : Bool) (x y : ℕ) → cond b (Some x) None ≡ Some y → (b ≡ true) × (x ≡ y)
    chosen true x y e = (refl, cc)
    chosen false x y e = absurd cc

pair_again : (byte : ℕ) → byte < 256 → read_pair (digit_glyph false (byte / 16)) (digit_glyph false (byte % 16)) ≡ Some byte
unfolding read_pair
pair_again byte small =
    let high : byte / 16 < 16 = omega arith in
    let low : byte % 16 < 16 = omega arith in
    let whole : 16 * (byte / 16) + byte % 16 ≡ byte = omega arith in
    rw (glyph_again (byte / 16) high, glyph_again (byte % 16) low, whole) refl

read_pair_parts : (high low byte : ℕ) → read_pair high low ≡ Some byte → (byte < 256) × (high ∷ low ∷ [] ≡ pair_of byte)
unfolding read_pair
read_pair_parts high low byte e =
    let h = bind_some (read_glyph high) (λ h. read_glyph low >>= λ l. Some (16 * h + l)) byte e in
    let l = bind_some (read_glyph low) (λ l. Some (16 * h.0 + l)) byte h.2 in
    let a = read_glyph_parts high h.0 h.1 in
    let b = read_glyph_parts low l.0 l.1 in
    let is : 16 * h.0 + l.0 ≡ byte = some_is (16 * h.0 + l.0) byte l.2 in
    let small : byte < 256 = omega (arith, a.0, b.0) in
    let upper : byte / 16 ≡ h.0 = omega (arith, a.0, b.0) in
    let lower : byte % 16 ≡ l.0 = omega (arith, a.0, b.0) in
    let upper_is : digit_glyph false (byte / 16) ≡ high = ap (digit_glyph false) upper ∙ a.1 in
    let lower_is : digit_glyph false (byte % 16) ≡ low = ap (digit_glyph false) lower ∙ b.1 in
    (small, sym (ap (λ (x : ℕ). x ∷ digit_glyph false (byte % 16) ∷ []) upper_is ∙ ap (λ (x : ℕ). high ∷ x ∷ []) lower_is))

pairs_again : (bytes : List ℕ) → AreBytes bytes → read_pairs (pairs bytes) ≡ Some bytes
unfolding read_pairs pairs
pairs_again [] h = refl
pairs_again (byte ∷ bytes) h = rw (pair_again byte h.0, pairs_again bytes h.1) refl

read_pairs_parts : (text bytes : List ℕ) → read_pairs text ≡ Some bytes → AreBytes bytes × (text ≡ pairs bytes)
unfolding read_pairs pairs
read_pairs_parts [] bytes e = subst (λ (bs : List ℕ). AreBytes bs × ([] ≡ pairs bs)) (some_is [] bytes e) (tt, refl)
read_pairs_parts (high ∷ []) bytes e = absurd cc
read_pairs_parts (high ∷ low ∷ rest) bytes e =
    let b = bind_some (read_pair high low) (λ byte. read_pairs rest >>= λ bytes. Some (byte ∷ bytes)) bytes e in
    let r = bind_some (read_pairs rest) (λ bytes. Some (b.0 ∷ bytes)) bytes b.2 in
    let p = read_pair_parts high low b.0 b.1 in
    let q = read_pairs_parts rest r.0 r.1 in
    subst (λ (bs : List ℕ). AreBytes bs × (high ∷ low ∷ rest ≡ pairs bs)) (some_is (b.0 ∷ r.0) bytes r.2) ((p.0, q.0), ap (λ (xs : List ℕ). xs ++ rest) p.1 ∙ ap (λ (xs : List ℕ). pair_of b.0 ++ xs) q.1)

pub pairs_is_exact : IsExact read_pairs pairs AreBytes
pairs_is_exact = record { sound = read_pairs_parts; complete = pairs_again }

pub Avoids-pairs : (end : ℕ) (bytes : List ℕ) → 16 ≤ digit_value end → AreBytes bytes → Avoids end (pairs bytes)
unfolding pairs
Avoids-pairs end [] h fits = tt
Avoids-pairs end (byte ∷ bytes) h fits =
    let high : byte / 16 < 16 = omega (arith, fits.0) in
    let low : byte % 16 < 16 = omega arith in
    (other (byte / 16) high, (other (byte % 16) low, Avoids-pairs end bytes h fits.1))
  where
    other : (d : ℕ) → d < 16 → eqb (digit_glyph false d) end ≡ false
    other d small = ne_eqb (digit_glyph false d) end (λ e. let same : d ≡ digit_value end = sym (digit_value-glyph d small) ∙ ap digit_value e in omega arith)
