-- One more ready port among the bits of a number, and turns over tests that agree.
use Rattle.std.proofs.Common.{◌≡◌, ◌<◌, ◌==◌, ◌&&◌, ◌||◌, ◌%◌, ◌^◌, ◌*◌, ℕ, Bool, true, false, cond, List, [], ◌∷◌, Option, Some, refl, sym, ◌∙◌, ap, ap₂, inl, inr, bit_or, w32, eq-eqb}
use Rattle.std.specs.Int.{bit_at}
use Rattle.std.specs.List.{find}
use Rattle.std.proofs.lemmas.Bool.{cases_eq, ne_eqb}
use Rattle.std.proofs.lemmas.Nat.Bits.{bit_at_set_other, bit_at_set_same}
use Rattle.node_core.specs.Turn.{TurnState, first_in_turn, tried}

or-true : (b : Bool) → (b || true) ≡ true
or-true true = refl
or-true false = refl

or-false : (b : Bool) → (b || false) ≡ b
or-false true = refl
or-false false = refl

pub marked : (ready port other : ℕ) (is_ready : Bool) → port < 32 → is_ready ≡ true →
    (bit_at (bit_or ready (1 * 2 ^ port % 4294967296)) other == 1) ≡ (bit_at ready other == 1 || (is_ready && (other == port)))
marked ready port other is_ready within is = elim (cases_eq other port) [
  | inl same ↦
      ap (λ (n : ℕ). bit_at (bit_or ready (1 * 2 ^ port % 4294967296)) n == 1) same ∙ ap (λ (n : ℕ). n == 1) (bit_at_set_same w32 ready port within)
      ∙ sym (ap₂ (λ (b c : Bool). bit_at ready other == 1 || (b && c)) is (eq-eqb other port same) ∙ or-true (bit_at ready other == 1))
  | inr differ ↦
      ap (λ (n : ℕ). n == 1) (bit_at_set_other w32 ready port within other differ)
      ∙ sym (ap₂ (λ (b c : Bool). bit_at ready other == 1 || (b && c)) is (ne_eqb other port differ) ∙ or-false (bit_at ready other == 1))
]

-- tests that agree find the same
find-same : (p q : ℕ → Bool) → ((n : ℕ) → p n ≡ q n) → (ns : List ℕ) → find p ns ≡ find q ns
find-same p q same [] = refl
find-same p q same (n ∷ ns) = ap₂ (λ (b : Bool) (o : Option ℕ). cond b (Some n) o) (same n) (find-same p q same ns)

pub turn-same : (p q : ℕ → Bool) → ((n : ℕ) → p n ≡ q n) → (t : TurnState) → first_in_turn p t ≡ first_in_turn q t
turn-same p q same t = find-same p q same (tried t)
