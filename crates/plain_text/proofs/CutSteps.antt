-- The cut of a text, line by line.
use Rattle.std.proofs.Common.{◌≡◌, ℕ, ◌+◌, ◌-◌, ◌<◌, ◌≤◌, true, false, List, [], ◌∷◌, ◌++◌, Option, Some, None, length, take, drop, get_or, if◌then◌else◌, refl, ap, subst, ◌∙◌, sym, arith, append_assoc, append-nil, inl, inr}
use Rattle.std.specs.List.{position, position_or_len, slice_split, join_with_byte}
use Rattle.std.proofs.Math.Seq.{take-add}
use Rattle.std.proofs.lemmas.Bool.{cases_lt, eqb-true}
use Rattle.std.proofs.lemmas.List.{drop_all, take_more, length-drop, drop-drop}
use Rattle.std.proofs.lemmas.List.Quantifiers.{position-Some}
use Rattle.std.proofs.lemmas.List.Splits.{join_with_byte-slice_split}
use Rattle.plain_text.specs.Lines.{after_first_line, is_feed, lines, strip_carriage_return}
use Rattle.plain_text.specs.Separator.{cut, cut_parts, is_separator, put_before}
use Rattle.plain_text.proofs.Parts.{place_found, place_missing, slice_split_at_place, slice_split_whole}
use Rattle.plain_text.proofs.LineLaws.{some_part, lines_at_feed, lines_whole}

-- an empty text has no separator
pub cut_nil : cut [] ≡ None
unfolding cut
cut_nil = refl

-- what stands before two texts, put there in two steps
pub put_before_twice : (first second : List ℕ) (texts : Option (List ℕ × List ℕ)) → put_before first (put_before second texts) ≡ put_before (first ++ second) texts
put_before_twice first second None = refl
put_before_twice first second (Some texts) = ap (λ (front : List ℕ). Some (front, texts.1)) (sym (append_assoc first second texts.0))

pub put_before_nothing : (texts : Option (List ℕ × List ℕ)) → put_before [] texts ≡ texts
put_before_nothing None = refl
put_before_nothing (Some texts) = refl

-- a part before a line feed
cut_parts_first : (part next : List ℕ) (more parts : List (List ℕ)) → parts ≡ next ∷ more → cut_parts (part ∷ parts) ≡ (if is_separator (strip_carriage_return part) then Some ([], join_with_byte 10 parts) else put_before (part ++ 10 ∷ []) (cut_parts parts))
cut_parts_first part next more parts e = rw e refl

-- the cut of a text with a line feed
pub cut_at_feed : (text : List ℕ) (end : ℕ) → position is_feed text ≡ Some end → cut text ≡ (if is_separator (strip_carriage_return (take end text)) then Some ([], drop (end + 1) text) else put_before (take (end + 1) text) (cut (drop (end + 1) text)))
unfolding cut
cut_at_feed text end h =
    let rest = drop (end + 1) text in
    let after = some_part is_feed rest in
    let found = position-Some is_feed text end 0 h in
    let inside : end < length text = found.0 in
    let feed : get_or text end 0 ≡ 10 = eqb-true (get_or text end 0) 10 found.1 in
    let front : take (end + 1) text ≡ take end text ++ 10 ∷ [] = take_more text end 0 inside ∙ ap (λ (b : ℕ). take end text ++ b ∷ []) feed in
    rw (slice_split_at_place is_feed text end h, front)
    (cut_parts_first (take end text) after.0 after.1 (slice_split is_feed rest) after.2
    ∙ ap (λ (joined : List ℕ). if is_separator (strip_carriage_return (take end text)) then Some ([], joined) else put_before (take end text ++ 10 ∷ []) (cut_parts (slice_split is_feed rest))) (join_with_byte-slice_split 10 rest))

-- the cut of a text with no line feed
pub cut_whole : (text : List ℕ) → position is_feed text ≡ None → cut text ≡ (if is_separator text then Some ([], []) else None)
unfolding cut
cut_whole text h = rw (slice_split_whole is_feed text (place_missing is_feed text h))

-- a rest of a list begins where its length says
pub drop_to_rest : (xs : List ℕ) (n : ℕ) → drop (length xs - length (drop n xs)) xs ≡ drop n xs
drop_to_rest xs n = elim (cases_lt n (length xs)) [
  | inl h ↦ (let e : length xs - length (drop n xs) ≡ n = omega (arith, length-drop n xs) in rw e)
  | inr h ↦ (let short : length (drop n xs) ≡ 0 = omega (arith, length-drop n xs) in let none : drop n xs ≡ [] = drop_all n xs h in rw (short, none) (drop_all (length xs - 0) xs (omega arith)))
]

-- the first line decides: it is the separator, or it stands before the cut of what follows
pub cut_step : (text line after : List ℕ) → 0 < length text → lines text ≡ line ∷ lines after → after ≡ after_first_line text → cut text ≡ (if is_separator line then Some ([], after) else put_before (take (length text - length after) text) (cut after))
cut_step text line after some split follows =
    elim (position is_feed text) as (λ o. position is_feed text ≡ o → cut text ≡ (if is_separator line then Some ([], after) else put_before (take (length text - length after) text) (cut after))) [
      | Some end ↦ λ h.
          let at = lines_at_feed text end h in
          let inside : end < length text = (position-Some is_feed text end 0 h).0 in
          let line_is : line ≡ strip_carriage_return (take end text) = cc in
          let after_is : after ≡ drop (end + 1) text = follows ∙ ap (λ (n : ℕ). drop (n + 1) text) (place_found is_feed text end h).0 in
          let span : length text - length (drop (end + 1) text) ≡ end + 1 = omega (arith, length-drop (end + 1) text) in
          rw (line_is, after_is, span) (cut_at_feed text end h)
      | None ↦ λ h.
          let all = lines_whole text h some in
          let line_is : line ≡ text = cc in
          let past : length text ≤ position_or_len is_feed text + 1 = omega (arith, place_missing is_feed text h) in
          let after_is : after ≡ [] = follows ∙ drop_all (position_or_len is_feed text + 1) text past in
          rw (line_is, after_is, cut_nil) (cut_whole text h)
    ] refl

-- the text has been passed up to the rest, and no line that was passed is the separator
pub record IsPassed (text rest : List ℕ) : Type 0 where
  pub within : length rest ≤ length text
  pub place : rest ≡ drop (length text - length rest) text
  pub cut_is : cut text ≡ put_before (take (length text - length rest) text) (cut rest)

-- nothing has been passed at the start
pub passed_none : (text : List ℕ) → IsPassed text text
passed_none text =
    let none : length text - length text ≡ 0 = omega arith in
    record { within = omega arith; place = rw none; cut_is = rw (none) (sym (put_before_nothing (cut text))) }

-- one more line is passed
pub passed_more : (text rest line after : List ℕ) → IsPassed text rest → 0 < length rest → lines rest ≡ line ∷ lines after → after ≡ after_first_line rest → length after < length rest → is_separator line ≡ false → IsPassed text after
passed_more text rest line after passed some split follows shorter other =
    let step = cut_step rest line after some split follows in
    let k : ℕ = length text - length rest in
    let n : ℕ = length rest - length after in
    let sum : k + n ≡ length text - length after = omega (arith, passed.within) in
    let behind : after ≡ drop n rest = subst (λ (xs : List ℕ). xs ≡ drop (length rest - length xs) rest) (sym follows) (sym (drop_to_rest rest (position_or_len is_feed rest + 1))) in
    let place : after ≡ drop (k + n) text = behind ∙ ap (drop n) passed.place ∙ drop-drop n k text in
    let front : take k text ++ take n rest ≡ take (k + n) text = sym (take-add k n text ∙ ap (λ (xs : List ℕ). take k text ++ take n xs) (sym passed.place)) in
    let further : cut rest ≡ put_before (take n rest) (cut after) = rw other at step in
    let cut_is : cut text ≡ put_before (take (k + n) text) (cut after) =
    passed.cut_is ∙ ap (put_before (take k text)) further ∙ put_before_twice (take k text) (take n rest) (cut after) ∙ ap (λ (xs : List ℕ). put_before xs (cut after)) front in
    record {
      within = omega (arith, passed.within);
      place = subst (λ (m : ℕ). after ≡ drop m text) sum place;
      cut_is = subst (λ (m : ℕ). cut text ≡ put_before (take m text) (cut after)) sum cut_is;
    }

-- the next line is the separator
pub passed_found : (text rest line after : List ℕ) → IsPassed text rest → 0 < length rest → lines rest ≡ line ∷ lines after → after ≡ after_first_line rest → is_separator line ≡ true → Some (take (length text - length rest) text, after) ≡ cut text
passed_found text rest line after passed some split follows found =
    let here : cut rest ≡ Some ([], after) = rw found at (cut_step rest line after some split follows) in
    sym (passed.cut_is ∙ ap (put_before (take (length text - length rest) text)) here ∙ rw append-nil)

-- nothing is left
pub passed_all : (text rest : List ℕ) → IsPassed text rest → length rest ≡ 0 → None ≡ cut text
passed_all text [] passed none = sym (passed.cut_is ∙ ap (put_before (take (length text - 0) text)) cut_nil)
passed_all text (x ∷ xs) passed none = absurd (omega arith)
