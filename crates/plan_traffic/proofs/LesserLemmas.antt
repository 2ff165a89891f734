-- The least of refusals.
use Rattle.std.proofs.Common.{◌≡◌, ◌<◌, ◌≤◌, cond, Option, Some, None, refl, ap, sym, ◌∙◌, arith}
use Rattle.std.proofs.lemmas.Bool.{cases_lt, lt-ltb, le-ltb}
use Rattle.std.proofs.Common.{inl, inr}
use Rattle.plan_traffic.specs.LineRefusals.{lesser_of, lesser}
use Rattle.refusals.specs.declared.refusal.Refusal.{Refusal}

-- the first refusal stands where its code is no greater
keeps : (a b : Refusal) → a.code ≤ b.code → lesser a b ≡ a
keeps a b le = ap (λ t. cond t b a) (le-ltb b.code a.code le)

-- and gives way to one with a lesser code
gives : (a b : Refusal) → b.code < a.code → lesser a b ≡ b
gives a b lt = ap (λ t. cond t b a) (lt-ltb b.code a.code lt)

lesser-assoc : (a b c : Refusal) → lesser (lesser a b) c ≡ lesser a (lesser b c)
lesser-assoc a b c =
    elim (cases_lt b.code a.code) [
      | inl below ↦ elim (cases_lt c.code b.code) [
        | inl under ↦ ap (λ f. lesser f c) (gives a b below) ∙ gives b c under ∙ sym (ap (λ f. lesser a f) (gives b c under) ∙ gives a c (omega arith))
        | inr over ↦ ap (λ f. lesser f c) (gives a b below) ∙ keeps b c over ∙ sym (ap (λ f. lesser a f) (keeps b c over) ∙ gives a b below)
      ]
      | inr above ↦ elim (cases_lt c.code b.code) [
        | inl under ↦ ap (λ f. lesser f c) (keeps a b above) ∙ ap (λ f. lesser a f) (sym (gives b c under))
        | inr over ↦ ap (λ f. lesser f c) (keeps a b above) ∙ keeps a c (omega arith) ∙ sym (ap (λ f. lesser a f) (keeps b c over) ∙ keeps a b above)
      ]
    ]

-- the least of three refusals is found in any order of search
pub least_assoc : (a b c : Option Refusal) → lesser_of (lesser_of a b) c ≡ lesser_of a (lesser_of b c)
least_assoc None b c = refl
least_assoc (Some a) None c = refl
least_assoc (Some a) (Some b) None = refl
least_assoc (Some a) (Some b) (Some c) = ap (λ f. Some f) (lesser-assoc a b c)

-- nothing is less than no refusal
pub least_none : (a : Option Refusal) → lesser_of a None ≡ a
least_none None = refl
least_none (Some a) = refl
