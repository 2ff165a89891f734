-- What a legal burst keeps, rule by rule.
use Rattle.std.proofs.Common.{◌≡◌, ◌≤◌, ℕ, ◌^◌, ◌==◌, ◌||◌, Bool, true, false, cond, not, Option, Some, None, inl, inr, refl, sym, ap, ◌∙◌, arith, ltb}
use Rattle.std.proofs.lemmas.Bool.{le-ltb, ltb-false, or_cases, eqb-true, not-false}
use Rattle.axi_beats.specs.declared.beat.Addr.{Addr}
use Rattle.axi_beats.specs.declared.beat.Burst.TheVariants.{Wrap}
use Rattle.burst_address.specs.declared.rule.BurstRule.{BurstRule}
use Rattle.burst_address.specs.declared.rule.BurstRule.TheVariants.{Size, Length, WrapAlign, Page}
use Rattle.burst_address.specs.Formulas.{size_of, beats_of}
use Rattle.burst_address.specs.Legal.{is_too_wide, is_length_of, is_start_of, is_in_page, IsLegal}

passed : (b : Bool) (r : BurstRule) (o : Option BurstRule) → cond b (Some r) o ≡ None → b ≡ false
passed true r o e = absurd (cc)
passed false r o e = refl

rest_of : (b : Bool) (r : BurstRule) (o : Option BurstRule) → cond b (Some r) o ≡ None → o ≡ None
rest_of true r o e = absurd (cc)
rest_of false r o e = e

abbrev page_part : Addr → Option BurstRule
page_part a = cond (not (is_in_page a.burst (size_of a) (beats_of a) a.addr)) (Some Page) None

abbrev start_part : Addr → Option BurstRule
start_part a = cond (not (is_start_of a.burst (size_of a) a.addr)) (Some WrapAlign) (page_part a)

abbrev length_part : Addr → Option BurstRule
length_part a = cond (not (is_length_of a.burst (beats_of a))) (Some Length) (start_part a)

pub legal-size : (a : Addr) (bus : ℕ) → IsLegal a bus → size_of a ≤ bus
legal-size a bus legal = ltb-false bus (size_of a) (passed (is_too_wide a bus) Size (length_part a) legal)

legal-length_part : (a : Addr) (bus : ℕ) → IsLegal a bus → length_part a ≡ None
legal-length_part a bus legal = rest_of (is_too_wide a bus) Size (length_part a) legal

legal-start_part : (a : Addr) (bus : ℕ) → IsLegal a bus → start_part a ≡ None
legal-start_part a bus legal = rest_of (not (is_length_of a.burst (beats_of a))) Length (start_part a) (legal-length_part a bus legal)

legal-page_part : (a : Addr) (bus : ℕ) → IsLegal a bus → page_part a ≡ None
legal-page_part a bus legal = rest_of (not (is_start_of a.burst (size_of a) a.addr)) WrapAlign (page_part a) (legal-start_part a bus legal)

pub legal-length : (a : Addr) (bus : ℕ) → IsLegal a bus → is_length_of a.burst (beats_of a) ≡ true
legal-length a bus legal =
    not-false (is_length_of a.burst (beats_of a)) (passed (not (is_length_of a.burst (beats_of a))) Length (start_part a) (legal-length_part a bus legal))

pub legal-start : (a : Addr) (bus : ℕ) → IsLegal a bus → is_start_of a.burst (size_of a) a.addr ≡ true
legal-start a bus legal =
    not-false (is_start_of a.burst (size_of a) a.addr) (passed (not (is_start_of a.burst (size_of a) a.addr)) WrapAlign (page_part a) (legal-start_part a bus legal))

pub legal-page : (a : Addr) (bus : ℕ) → IsLegal a bus → is_in_page a.burst (size_of a) (beats_of a) a.addr ≡ true
legal-page a bus legal =
    not-false (is_in_page a.burst (size_of a) (beats_of a) a.addr) (passed (not (is_in_page a.burst (size_of a) (beats_of a) a.addr)) Page None (legal-page_part a bus legal))

-- the number of beats of a WRAP burst is a power of two, at most 16
pub wrap_length : (beats : ℕ) → is_length_of Wrap beats ≡ true → (j : ℕ) × (beats ≡ 2 ^ j) × (j ≤ 4)
wrap_length beats is =
    elim (or_cases (beats == 2 || beats == 4 || beats == 8) (beats == 16) is) [
      | inl a ↦ elim (or_cases (beats == 2 || beats == 4) (beats == 8) a) [
        | inl b ↦ elim (or_cases (beats == 2) (beats == 4) b) [
          | inl c ↦ (1, eqb-true beats 2 c, omega arith)
          | inr c ↦ (2, eqb-true beats 4 c, omega arith)
        ]
        | inr b ↦ (3, eqb-true beats 8 b, omega arith)
      ]
      | inr a ↦ (4, eqb-true beats 16 a, omega arith)
    ]

-- a burst that is legal on a bus is legal on each wider one
pub legal-wider : (a : Addr) (bus wider : ℕ) → bus ≤ wider → IsLegal a bus → IsLegal a wider
legal-wider a bus wider le legal =
    let small : size_of a ≤ bus = legal-size a bus legal in
    let here : ltb bus (size_of a) ≡ false = le-ltb bus (size_of a) small in
    let there : ltb wider (size_of a) ≡ false = le-ltb wider (size_of a) (omega arith) in
    ap (λ (b : Bool). cond b (Some Size) (length_part a)) there ∙ sym (ap (λ (b : Bool). cond b (Some Size) (length_part a)) here) ∙ legal
