-- The words of a text and its first word.
use Rattle.std.proofs.Common.{◌≡◌, ℕ, suc, ◌+◌, ◌<◌, Bool, true, false, cond, not, List, [], ◌∷◌, Some, None, length, take, drop, get_or, refl, ap, subst, ◌∙◌, sym, arith}
use Rattle.std.specs.List.{position, position_or_len}
use Rattle.std.proofs.lemmas.Bool.{lt-ltb, not-true}
use Rattle.std.proofs.lemmas.List.{drop_all, drop_more, length-take}
use Rattle.std.proofs.lemmas.List.Quantifiers.{position-Some}
use Rattle.plain_text.specs.Words.{is_blank, words}
use Rattle.plain_text.proofs.Parts.{place_found, place_missing, slice_split_whole, slice_split_at_place}

-- a byte of a word
abbrev is_filled : ℕ → Bool
is_filled byte = not (is_blank byte)

-- a blank at the front parts nothing
words_past_blank : (x : ℕ) (xs : List ℕ) → is_blank x ≡ true → words (x ∷ xs) ≡ words xs
unfolding words
words_past_blank x xs h = rw h

-- the blanks at the front part nothing
words_past_blanks : (text : List ℕ) → words text ≡ words (drop (position_or_len is_filled text) text)
words_past_blanks [] = refl
words_past_blanks (x ∷ xs) =
    elim (is_blank x) as (λ b. is_blank x ≡ b → words (x ∷ xs) ≡ words (drop (cond (not (not b)) (1 + position_or_len is_filled xs) 0) (x ∷ xs))) [
      | true ↦ λ h.
          let next : 1 + position_or_len is_filled xs ≡ suc (position_or_len is_filled xs) = omega arith in
          rw next (words_past_blank x xs h ∙ words_past_blanks xs)
      | false ↦ λ h. refl
    ] refl

-- where nothing but blanks stands, no word is left
pub words_none : (text : List ℕ) → position is_filled text ≡ None → words text ≡ []
unfolding words
words_none text h = words_past_blanks text ∙ ap words (drop_all (position_or_len is_filled text) text (place_missing is_filled text h))

-- the words begin at the first byte that is no blank
pub words_from : (text : List ℕ) (start : ℕ) → position is_filled text ≡ Some start → words text ≡ words (drop start text)
words_from text start h = subst (λ (n : ℕ). words text ≡ words (drop n text)) (place_found is_filled text start h).0 (words_past_blanks text)

-- that byte
pub filled_from : (text : List ℕ) (start : ℕ) → position is_filled text ≡ Some start → (0 < length (drop start text)) × (is_blank (get_or (drop start text) 0 0) ≡ false)
filled_from text start h =
    let found = position-Some is_filled text start 0 h in
    let inside : start < length text = found.0 in
    rw (drop_more text start 0 inside) (omega arith, not-true (is_blank (get_or text start 0)) found.1)

-- a text that doesn't begin with a blank begins with a word, which ends at the first blank
pub words_at_blank : (text : List ℕ) (end : ℕ) → position is_blank text ≡ Some end → is_blank (get_or text 0 0) ≡ false → words text ≡ take end text ∷ words (drop end text)
unfolding words
words_at_blank text end h filled =
    let found = position-Some is_blank text end 0 h in
    let inside : end < length text = found.0 in
    let apart : end ≡ 0 → ⊥ = λ e. let at : is_blank (get_or text 0 0) ≡ true = subst (λ (n : ℕ). is_blank (get_or text n 0) ≡ true) e found.1 in cc in
    let some : 0 < length (take end text) = omega (arith, length-take end text) in
    rw (slice_split_at_place is_blank text end h, lt-ltb 0 (length (take end text)) some)
    (ap (λ (rest : List (List ℕ)). take end text ∷ rest) (sym (ap words (drop_more text end 0 inside) ∙ words_past_blank (get_or text end 0) (drop (end + 1) text) found.1)))

-- and at the end of the text where there is no blank
pub words_whole : (text : List ℕ) → position is_blank text ≡ None → 0 < length text → words text ≡ text ∷ []
unfolding words
words_whole text h some = rw (slice_split_whole is_blank text (place_missing is_blank text h), lt-ltb 0 (length text) some)
