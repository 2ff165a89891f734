-- The fields of a trace line are read as they are written.
use Rattle.std.proofs.Common.{◌≡◌, ℕ, ◌^◌, ◌<◌, ◌≤◌, Bool, true, false, cond, eqb, leb, not, ◌||◌, List, ◌∷◌, ◌++◌, Option, Some, None, refl, ap, subst, ◌∙◌, arith, lit≤}
use Rattle.std.specs.Prelude.{IsTrue, codes}
use Rattle.std.specs.Char.{digit_value}
use Rattle.std.specs.Str.{bytes_eq}
use Rattle.std.proofs.lemmas.Bool.{eqb-false, ne_eqb}
use Rattle.std.proofs.lemmas.Slice.Eq.{bytes_eq-Decides}
use Rattle.std.specs.Fmt.{decimal}
use Rattle.plain_text.specs.Exact.{◌>>=◌, IsExact, IsExactBefore, read_before, write_before}
use Rattle.plain_text.specs.Printing.{hexadecimal}
use Rattle.plain_text.proofs.FieldLaws.{Avoids, Avoids-append, bind_some, some_is, before_is_exact}
use Rattle.plain_text.proofs.SpellingLaws.{decimal_is_exact, Avoids-decimal, both_true}
use Rattle.plain_text.proofs.HexadecimalLaws.{hexadecimal_is_exact, Avoids-hexadecimal}
use Rattle.axi_beats.specs.Bus.{is_bus_width}
use Rattle.axi_beats.specs.declared.beat.Tag.{Tag}
use Rattle.axi_history.specs.declared.port.PortKind.{PortKind}
use Rattle.trace_text.specs.Form.{bit_text, kind_text, tag_text}
use Rattle.trace_text.specs.Ranges.{IsTraceTag, is_port_kind}
use Rattle.trace_text.specs.Reading.{bit_before, bit_in, decimal_before, decimal_below, hexadecimal_before, hexadecimal_below, kind_before, lite_in, round_before, tag_in}
use Rattle.trace_text.proofs.LanesLaws.{bus_within}

-- ---- one step of reading

-- a value that has passed a test
pub passes : {A : Type 0} (b : Bool) (x y : A) → cond b (Some x) None ≡ Some y → (b ≡ true) × (x ≡ y)
passes true x y e = (refl, cc)
passes false x y e = absurd cc

pub port_bus_within : (kind : PortKind) → IsTrue (is_port_kind kind) → kind.bus ≤ 128
port_bus_within kind fits = bus_within kind.bus (both_true (is_bus_width kind.bus) (not kind.lite || leb kind.bus 8) fits).0

module _ {A B : Type 0} {read : List ℕ → Option (A × List ℕ)} {write : A → List ℕ → List ℕ} {Fits : A → Type 0} (exact : IsExactBefore read write Fits) where
  -- the value of a step that was read, and the rest
  pub step : (text : List ℕ) (more : A × List ℕ → Option B) (out : B) → (read text >>= more) ≡ Some out → (found : A × List ℕ) × Fits found.0 × (text ≡ write found.0 found.1) × (more found ≡ Some out)
  step text more out e =
      let b = bind_some (read text) more out e in
      let s = exact.sound text b.0 b.1 in
      (b.0, s.0, s.1, b.2)

-- ---- numbers

pub decimal_form : (end limit : ℕ) → 16 ≤ digit_value end → limit ≤ 2 ^ 64 → IsExactBefore (decimal_before end limit) (write_before end decimal) (λ n. n < limit)
unfolding decimal_before
decimal_form end limit h bound =
    before_is_exact (decimal_below limit) decimal (λ n. n < limit) (decimal_is_exact limit bound) end (λ n small. Avoids-decimal end n (omega arith) (omega arith))

pub hexadecimal_form : (end limit : ℕ) → 16 ≤ digit_value end → limit ≤ 2 ^ 128 → IsExactBefore (hexadecimal_before end limit) (write_before end hexadecimal) (λ n. n < limit)
unfolding hexadecimal_before
hexadecimal_form end limit h bound =
    before_is_exact (hexadecimal_below limit) hexadecimal (λ n. n < limit) (hexadecimal_is_exact limit bound) end (λ n small. Avoids-hexadecimal end n h (omega arith))

-- a decimal has no space
pub Avoids-number : (n : ℕ) → n < 2 ^ 64 → Avoids 32 (decimal n)
Avoids-number n small = Avoids-decimal 32 n (lit≤ tt) small

-- ---- bits and kinds

-- a word that is one of two
one_of_two : (word zero one : List ℕ) (bit : Bool) → cond (bytes_eq word zero) (Some false) (cond (bytes_eq word one) (Some true) None) ≡ Some bit → word ≡ cond bit one zero
one_of_two word zero one bit = by (bytes_eq word zero) (bytes_eq word one) refl refl bit
  where
    by : (a b : Bool) → bytes_eq word zero ≡ a → bytes_eq word one ≡ b → (bit : Bool) → cond a (Some false) (cond b (Some true) None) ≡ Some bit → word ≡ cond bit one zero
    by true b p q false e = (bytes_eq-Decides word zero).0 p
    by true b p q true e = absurd cc
    by false true p q true e = (bytes_eq-Decides word one).0 q
    by false true p q false e = absurd cc
    by false false p q bit e = absurd cc

bit_complete : (bit : Bool) → bit_in (bit_text bit) ≡ Some bit
unfolding bit_in
bit_complete true = refl
bit_complete false = refl

bit_sound : (word : List ℕ) (bit : Bool) → bit_in word ≡ Some bit → word ≡ bit_text bit
unfolding bit_in
bit_sound word bit e = one_of_two word (codes "0") (codes "1") bit e

bit_is_exact : IsExact bit_in bit_text (λ bit. Unit {0})
bit_is_exact = record { sound = λ word bit e. (tt, bit_sound word bit e); complete = λ bit fits. bit_complete bit }

pub bit_form : IsExactBefore (bit_before 44) (write_before 44 bit_text) (λ bit. Unit {0})
unfolding bit_before
bit_form = before_is_exact bit_in bit_text (λ bit. Unit {0}) bit_is_exact 44 (λ bit fits. avoids bit)
  where
    avoids : (bit : Bool) → Avoids 44 (bit_text bit)
    avoids true = (refl, tt)
    avoids false = (refl, tt)

pub Avoids-bit : (bit : Bool) → Avoids 32 (bit_text bit)
Avoids-bit true = (refl, tt)
Avoids-bit false = (refl, tt)

lite_complete : (lite : Bool) → lite_in (kind_text lite) ≡ Some lite
unfolding lite_in
lite_complete true = refl
lite_complete false = refl

lite_sound : (word : List ℕ) (lite : Bool) → lite_in word ≡ Some lite → word ≡ kind_text lite
unfolding lite_in
lite_sound word lite e = one_of_two word (codes "axi") (codes "lite") lite e

lite_is_exact : IsExact lite_in kind_text (λ lite. Unit {0})
lite_is_exact = record { sound = λ word lite e. (tt, lite_sound word lite e); complete = λ lite fits. lite_complete lite }

lite_form : IsExactBefore (read_before 32 lite_in) (write_before 32 kind_text) (λ lite. Unit {0})
lite_form = before_is_exact lite_in kind_text (λ lite. Unit {0}) lite_is_exact 32 (λ lite fits. avoids lite)
  where
    avoids : (lite : Bool) → Avoids 32 (kind_text lite)
    avoids true = (refl, (refl, (refl, (refl, tt))))
    avoids false = (refl, (refl, (refl, tt)))

-- the kind and the bus, each before a space
abbrev pub write_kind : PortKind → List ℕ → List ℕ
write_kind kind rest = kind_text kind.lite ++ 32 ∷ (decimal kind.bus ++ 32 ∷ rest)

kind_sound : (text : List ℕ) (found : PortKind × List ℕ) → kind_before text ≡ Some found → IsTrue (is_port_kind found.0) × (text ≡ write_kind found.0 found.1)
unfolding kind_before
kind_sound text found e =
    let lite = step lite_form text _ found e in
    let bus = step (decimal_form 32 129 (lit≤ tt) (lit≤ tt)) lite.0.1 _ found lite.3 in
    let kind : PortKind = record { lite = lite.0.0; bus = bus.0.0 } in
    let passed = passes (is_port_kind kind) (kind, bus.0.1) found bus.3 in
    subst (λ (f : PortKind × List ℕ). IsTrue (is_port_kind f.0) × (text ≡ write_kind f.0 f.1)) passed.1
    (passed.0, lite.2 ∙ ap (λ (t : List ℕ). kind_text lite.0.0 ++ 32 ∷ t) bus.2)

kind_complete : (kind : PortKind) (rest : List ℕ) → IsTrue (is_port_kind kind) → kind_before (write_kind kind rest) ≡ Some (kind, rest)
unfolding kind_before
kind_complete kind rest fits =
    let bus : kind.bus < 129 = omega (arith, port_bus_within kind fits) in
    rw (lite_form.complete kind.lite (decimal kind.bus ++ 32 ∷ rest) tt, (decimal_form 32 129 (lit≤ tt) (lit≤ tt)).complete kind.bus rest bus, fits) refl

pub kind_form : IsExactBefore kind_before write_kind (λ kind. IsTrue (is_port_kind kind))
kind_form = record { sound = kind_sound; complete = kind_complete }

-- ---- rounds

-- a round from 1 on
abbrev pub IsRound : ℕ → Type 0
IsRound n = (1 ≤ n) × (n < 2 ^ 63)

round_sound : (text : List ℕ) (found : ℕ × List ℕ) → round_before text ≡ Some found → IsRound found.0 × (text ≡ write_before 32 decimal found.0 found.1)
unfolding round_before
round_sound text found e =
    let round = step (decimal_form 32 (2 ^ 63) (lit≤ tt) (lit≤ tt)) text _ found e in
    let some = above_zero round.0 found round.3 in
    subst (λ (f : ℕ × List ℕ). IsRound f.0 × (text ≡ write_before 32 decimal f.0 f.1)) some.1 ((some.0, round.1), round.2)
  where
    above_zero : (x y : ℕ × List ℕ) → cond (eqb x.0 0) None (Some x) ≡ Some y → (1 ≤ x.0) × (x ≡ y)
    above_zero x y = by (eqb x.0 0) refl
      where
        by : (b : Bool) → eqb x.0 0 ≡ b → cond b None (Some x) ≡ Some y → (1 ≤ x.0) × (x ≡ y)
        by true p e = absurd cc
        by false p e = (let other : x.0 ≡ 0 → ⊥ = eqb-false x.0 0 p in omega arith, cc)

round_complete : (n : ℕ) (rest : List ℕ) → IsRound n → round_before (write_before 32 decimal n rest) ≡ Some (n, rest)
unfolding round_before
round_complete n rest fits =
    rw ((decimal_form 32 (2 ^ 63) (lit≤ tt) (lit≤ tt)).complete n rest fits.1, ne_eqb n 0 (λ none. let some = fits.0 in omega arith)) refl

pub round_form : IsExactBefore round_before (write_before 32 decimal) IsRound
round_form = record { sound = round_sound; complete = round_complete }

-- ---- tags

tag_sound : (text : List ℕ) (tag : Tag) → tag_in text ≡ Some tag → IsTraceTag tag × (text ≡ tag_text tag)
unfolding tag_in tag_text
tag_sound text tag e =
    let txn = step (decimal_form 58 (2 ^ 32) (lit≤ tt) (lit≤ tt)) text _ tag e in
    let low = step (decimal_form 58 128 (lit≤ tt) (lit≤ tt)) txn.0.1 _ tag txn.3 in
    let high = bind_some (decimal_below 128 low.0.1) _ tag low.3 in
    let last = (decimal_is_exact 128 (lit≤ tt)).sound low.0.1 high.0 high.1 in
    let made : Tag = record { txn = txn.0.0; low = low.0.0; high = high.0 } in
    subst (λ (t : Tag). IsTraceTag t × (text ≡ decimal t.txn ++ 58 ∷ (decimal t.low ++ 58 ∷ decimal t.high))) (some_is made tag high.2) (
      record { txn = txn.1; low = omega (arith, low.1); high = omega (arith, last.0) },
      txn.2 ∙ ap (λ (t : List ℕ). decimal txn.0.0 ++ 58 ∷ t) (low.2 ∙ ap (λ (t : List ℕ). decimal low.0.0 ++ 58 ∷ t) last.1),
    )

tag_complete : (tag : Tag) → IsTraceTag tag → tag_in (tag_text tag) ≡ Some tag
unfolding tag_in tag_text
tag_complete tag fits =
    let low : tag.low < 128 = omega (arith, fits.low) in
    let high : tag.high < 128 = omega (arith, fits.high) in
    rw ((decimal_form 58 (2 ^ 32) (lit≤ tt) (lit≤ tt)).complete tag.txn (decimal tag.low ++ 58 ∷ decimal tag.high) fits.txn, (decimal_form 58 128 (lit≤ tt) (lit≤ tt)).complete tag.low (decimal tag.high) low, (decimal_is_exact 128 (lit≤ tt)).complete tag.high high) refl

pub tag_form : IsExact tag_in tag_text IsTraceTag
tag_form = record { sound = tag_sound; complete = tag_complete }

pub Avoids-tag : (tag : Tag) → IsTraceTag tag → Avoids 32 (tag_text tag)
unfolding tag_text
Avoids-tag tag fits =
    Avoids-append 32 (decimal tag.txn) (58 ∷ (decimal tag.low ++ 58 ∷ decimal tag.high)) (Avoids-number tag.txn (omega (arith, fits.txn)))
    (refl, Avoids-append 32 (decimal tag.low) (58 ∷ decimal tag.high) (Avoids-number tag.low (omega (arith, fits.low))) (refl, Avoids-number tag.high (omega (arith, fits.high))))
