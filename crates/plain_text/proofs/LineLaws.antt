-- The first line of a text and the lines after it.
use Rattle.std.proofs.Common.{◌≡◌, ℕ, ◌+◌, ◌<◌, Bool, true, false, cond, List, [], ◌∷◌, Some, None, length, take, drop, refl, arith}
use Rattle.std.specs.List.{position, slice_split, onto_first}
use Rattle.std.proofs.lemmas.Bool.{ne_eqb}
use Rattle.plain_text.specs.Lines.{is_feed, lines, strip_carriage_return}
use Rattle.plain_text.proofs.Parts.{slice_split_at_place, slice_split_whole, place_missing}

-- there is always a part
pub some_part : (p : ℕ → Bool) (xs : List ℕ) → (first : List ℕ) × (more : List (List ℕ)) × (slice_split p xs ≡ first ∷ more)
some_part p [] = ([], [], refl)
some_part p (x ∷ xs) = let rest = some_part p xs in
    elim (p x) as (λ b. (first : List ℕ) × (more : List (List ℕ)) × (cond b ([] ∷ slice_split p xs) (onto_first x (slice_split p xs)) ≡ first ∷ more)) [
      | true ↦ ([], slice_split p xs, refl)
      | false ↦ (x ∷ rest.0, rest.1, rw rest.2)
    ]

-- the line before the first line feed
pub lines_at_feed : (text : List ℕ) (end : ℕ) → position is_feed text ≡ Some end → lines text ≡ strip_carriage_return (take end text) ∷ lines (drop (end + 1) text)
lines_at_feed text end h =
    let rest = some_part is_feed (drop (end + 1) text) in
    rw (slice_split_at_place is_feed text end h, rest.2)

-- a text without a line feed is one line
pub lines_whole : (text : List ℕ) → position is_feed text ≡ None → 0 < length text → lines text ≡ text ∷ []
lines_whole text h some =
    let filled : length text ≡ 0 → ⊥ = omega arith in
    rw (slice_split_whole is_feed text (place_missing is_feed text h), ne_eqb (length text) 0 filled)
