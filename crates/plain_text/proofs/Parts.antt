-- The place of the first byte that passes a test, and the parts between such bytes.
use Rattle.std.proofs.Common.{◌≡◌, ℕ, suc, ◌+◌, ◌<◌, ◌≤◌, Bool, true, false, cond, ltb, not, List, [], ◌∷◌, Some, None, Option, length, take, drop, get_or, refl, subst, sym, ap, ◌∙◌, arith}
use Rattle.std.specs.List.{position, position_or_len, slice_split, onto_first}
use Rattle.std.proofs.lemmas.Bool.{le-ltb, lt-ltb, ltb-true, ltb-false}
use Rattle.std.proofs.lemmas.List.Sums.{position_or_len_is}
use Rattle.memchr.specs.Find.{IsFirstByte}
use Rattle.std.proofs.lemmas.List.Splits.{slice_split_first}

fails : (b : Bool) → (b ≡ true → ⊥) → b ≡ false
fails true h = absurd (h refl)
fails false h = refl

-- a place that is answered where it is below a bound
answered : (place bound i : ℕ) → cond (ltb place bound) (Some place) None ≡ Some i → (place ≡ i) × (place < bound)
answered place bound i = elim (ltb place bound) as (λ b. ltb place bound ≡ b → cond b (Some place) None ≡ Some i → (place ≡ i) × (place < bound)) [
  | true ↦ λ e h. (cc, ltb-true place bound e)
  | false ↦ λ e h. absurd (cc)
] refl

unanswered : (place bound : ℕ) → cond (ltb place bound) (Some place) None ≡ None → bound ≤ place
unanswered place bound = elim (ltb place bound) as (λ b. ltb place bound ≡ b → cond b (Some place) None ≡ None → bound ≤ place) [
  | true ↦ λ e h. absurd (cc)
  | false ↦ λ e h. ltb-false place bound e
] refl

-- the place that `position` gives
pub place_found : (p : ℕ → Bool) (xs : List ℕ) (i : ℕ) → position p xs ≡ Some i → (position_or_len p xs ≡ i) × (position_or_len p xs < length xs)
place_found p xs i h = answered (position_or_len p xs) (length xs) i h

-- where `position` gives none
pub place_missing : (p : ℕ → Bool) (xs : List ℕ) → position p xs ≡ None → length xs ≤ position_or_len p xs
place_missing p xs h = unanswered (position_or_len p xs) (length xs) h

-- where no element passes, the list is the one part
pub slice_split_whole : (p : ℕ → Bool) (xs : List ℕ) → length xs ≤ position_or_len p xs → slice_split p xs ≡ xs ∷ []
slice_split_whole p [] h = refl
slice_split_whole p (x ∷ xs) h =
    (elim (p x) as (λ b. suc (length xs) ≤ cond (not b) (1 + position_or_len p xs) 0 → cond b ([] ∷ slice_split p xs) (onto_first x (slice_split p xs)) ≡ (x ∷ xs) ∷ []) [
      | true ↦ λ e. absurd (omega arith)
      | false ↦ λ e. let l : length xs ≤ position_or_len p xs = omega arith in rw (slice_split_whole p xs l)
    ]) h

-- the first part, and the parts of what follows it
pub slice_split_at_place : (p : ℕ → Bool) (xs : List ℕ) (i : ℕ) → position p xs ≡ Some i → slice_split p xs ≡ take i xs ∷ slice_split p (drop (i + 1) xs)
slice_split_at_place p xs i h =
    let found = place_found p xs i h in
    subst (λ (n : ℕ). slice_split p xs ≡ take n xs ∷ slice_split p (drop (n + 1) xs)) found.0 (slice_split_first {X = ℕ} p xs 0 found.1)

-- the place that a search for the first byte that passes gives
pub first_is_position : (p : ℕ → Bool) (xs : List ℕ) (r : Option ℕ) → IsFirstByte p xs r → r ≡ position p xs
first_is_position p xs None h =
    let none : position_or_len p xs ≡ length xs = position_or_len_is p xs (length xs) 0 (omega arith) (λ k below. fails (p (get_or xs k 0)) (h k (omega arith) below)) (λ below. absurd (omega arith)) in
    ap (λ b. cond b (Some (position_or_len p xs)) None) (sym (le-ltb (position_or_len p xs) (length xs) (omega arith)))
first_is_position p xs (Some i) h =
    let at : position_or_len p xs ≡ i = position_or_len_is p xs i 0 (omega (arith, h.0.high)) (λ k below. fails (p (get_or xs k 0)) (h.0.before k (omega arith) below)) (λ below. h.1) in
    let within : position_or_len p xs < length xs = omega (arith, h.0.high) in
    ap Some (sym at) ∙ ap (λ b. cond b (Some (position_or_len p xs)) None) (sym (lt-ltb (position_or_len p xs) (length xs) within))
