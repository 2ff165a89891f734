-- The digits of a number in base 16, written from the last one on.
use Rattle.std.proofs.Common.{◌≡◌, ℕ, suc, ◌+◌, ◌-◌, ◌*◌, ◌/◌, ◌%◌, ◌^◌, ◌<◌, ◌≤◌, false, cond, eqb, List, [], ◌∷◌, length, drop, set, refl, ap, subst, ◌∙◌, sym, arith, lit<, inl, inr}
use Rattle.std.specs.Fmt.{digits, digits_onto, digit_glyph}
use Rattle.std.proofs.Math.Nat.{div-lt_iff_lt-mul}
use Rattle.std.proofs.lemmas.Bool.{ne_eqb, cases_lt}
use Rattle.std.proofs.lemmas.List.{drop-set, drop_all, length-set}
use Rattle.std.proofs.lemmas.Nat.{pow-add}
use Rattle.plain_text.specs.Printing.{hexadecimal}

-- the digits of the rest in front of the digits that were written, where `start` places are left
pub digits_before : ℕ → ℕ → List ℕ → List ℕ
digits_before start rest written = digits_onto (32 + start) 16 false rest written

digits_before_none : (number : ℕ) → digits_before 32 number [] ≡ hexadecimal number
unfolding digits_before digits
digits_before_none number = refl

digits_before_more : (start rest : ℕ) (written : List ℕ) → digits_before (start + 1) rest written ≡ cond (eqb (rest / 16) 0) (digit_glyph false (rest % 16) ∷ written) (digits_before start (rest / 16) (digit_glyph false (rest % 16) ∷ written))
unfolding digits_before
digits_before_more start rest written =
    let next : suc (32 + start) ≡ 32 + (start + 1) = omega arith in
    subst (λ (k : ℕ). digits_onto k 16 false rest written ≡ cond (eqb (rest / 16) 0) (digit_glyph false (rest % 16) ∷ written) (digits_onto (32 + start) 16 false (rest / 16) (digit_glyph false (rest % 16) ∷ written))) next refl

-- the rest is still to be written, in front of the digits from `start` on
pub record IsWriting (number rest start : ℕ) (digits : List ℕ) : Type 0 where
  pub places : length digits ≡ 32
  pub some : 0 < start
  pub within : start ≤ 32
  pub small : rest < 16 ^ start
  pub text : digits_before start rest (drop start digits) ≡ hexadecimal number

pub writing_none : (number : ℕ) (digits : List ℕ) → length digits ≡ 32 → number < 2 ^ 128 → IsWriting number number 32 digits
writing_none number digits places fits = record {
  places = places;
  some = lit< tt;
  within = omega arith;
  small = fits;
  text = ap (digits_before 32 number) (drop_all 32 digits (omega arith)) ∙ digits_before_none number;
}

-- one more digit is written
written_more : (number rest m : ℕ) (digits : List ℕ) (digit : ℕ) → IsWriting number rest (m + 1) digits → digit ≡ digit_glyph false (rest % 16) → cond (eqb (rest / 16) 0) (drop m (set digits m digit)) (digits_before m (rest / 16) (drop m (set digits m digit))) ≡ hexadecimal number
written_more number rest m digits digit h is =
    let inside : m < length digits = omega (arith, h.within, h.places) in
    let written : drop m (set digits m digit) ≡ digit_glyph false (rest % 16) ∷ drop (m + 1) digits = drop-set digits m digit inside ∙ ap (λ (d : ℕ). d ∷ drop (m + 1) digits) is in
    rw written (sym (digits_before_more m rest (drop (m + 1) digits)) ∙ h.text)

pub writing_more : (number rest start : ℕ) (digits : List ℕ) (digit : ℕ) → IsWriting number rest start digits → digit ≡ digit_glyph false (rest % 16) → (rest / 16 ≡ 0 → ⊥) → IsWriting number (rest / 16) (start - 1) (set digits (start - 1) digit)
writing_more number rest start digits digit h is further =
    let m : ℕ = start - 1 in
    let back : start ≡ m + 1 = omega (arith, h.some) in
    let at : IsWriting number rest (m + 1) digits = subst (λ (k : ℕ). IsWriting number rest k digits) back h in
    let power : 16 ^ (m + 1) ≡ 16 ^ m * 16 = pow-add 16 m 1 in
    let below : rest < 16 ^ m * 16 = subst (λ (k : ℕ). rest < k) power at.small in
    let small : rest / 16 < 16 ^ m = (div-lt_iff_lt-mul (lit< tt)).1 below in
    let some : 0 < m = elim (cases_lt 0 m) [
      | inl some ↦ some
      | inr none ↦ (let empty : m ≡ 0 = omega (arith, none) in let one : rest / 16 < 16 ^ 0 = subst (λ (k : ℕ). rest / 16 < 16 ^ k) empty small in absurd (further (omega (arith, one))))
    ] in
    record {
      places = rw length-set h.places;
      some = some;
      within = omega (arith, h.within);
      small = small;
      text = (let t = written_more number rest m digits digit at is in rw (ne_eqb (rest / 16) 0 further) at t);
    }

pub writing_last : (number rest start : ℕ) (digits : List ℕ) (digit : ℕ) → IsWriting number rest start digits → digit ≡ digit_glyph false (rest % 16) → rest / 16 ≡ 0 → drop (start - 1) (set digits (start - 1) digit) ≡ hexadecimal number
writing_last number rest start digits digit h is last =
    let m : ℕ = start - 1 in
    let back : start ≡ m + 1 = omega (arith, h.some) in
    let at : IsWriting number rest (m + 1) digits = subst (λ (k : ℕ). IsWriting number rest k digits) back h in
    let t = written_more number rest m digits digit at is in
    rw last at t
