-- The cut of a text in terms of its bytes and of its lines, by the parts between line feeds.
use Rattle.std.proofs.Common.{◌≡◌, ℕ, ◌+◌, ◌-◌, ◌<◌, ◌≤◌, true, false, cond, ◌||◌, eqb, List, [], ◌∷◌, ◌++◌, Option, Some, None, length, take, drop, get_or, refl, ap, subst, ◌∙◌, sym, arith, append_assoc, append-nil, inl, inr, lit<}
use Rattle.std.specs.Prelude.{IfSome, codes, is_some, ◌⊎◌, slice_range}
use Rattle.std.specs.List.{slice_split, onto_first, join_with_byte}
use Rattle.std.specs.Str.{IsUtf8, IsCharBoundary}
use Rattle.std.specs.Str.Lines.{lines_of_parts}
use Rattle.std.proofs.Math.Bool.{or-false}
use Rattle.std.proofs.Math.Seq.{take-append_seam, drop-append_seam, get_or-append_seam}
use Rattle.std.proofs.lemmas.Slice.{between_from_start}
use Rattle.std.proofs.lemmas.Slice.Eq.{bytes_eq-Decides}
use Rattle.std.proofs.lemmas.Bool.{eqb-true, ne_eqb}
use Rattle.std.proofs.lemmas.List.{take_more, take_all, length-append, length-take}
use Rattle.std.proofs.lemmas.List.Splits.{join_with_byte-slice_split}
use Rattle.std.proofs.lemmas.Str.{IsCharBoundary-end, IsCharBoundary-before_ascii, IsCharBoundary-after_ascii}
use Rattle.plain_text.specs.Lines.{is_feed, lines, strip_carriage_return}
use Rattle.plain_text.specs.Separator.{separator, cut, cut_parts, is_separator, put_before, has_separator, begins_with_separator}
use Rattle.plain_text.specs.SeparatorLaws.{IsSeparatorLine, is_cut_at_front, CutsByLines}
use Rattle.plain_text.proofs.LineLaws.{some_part}

abbrev Texts : Type 0
Texts = Option (List ℕ × List ℕ)

abbrev cut_here : List ℕ → Texts
cut_here after = Some ([], after)

abbrev not_cut : Texts
not_cut = None

-- a text is cut where a line is the separator

some-put_before : (front : List ℕ) (texts : Texts) → is_some (put_before front texts) ≡ is_some texts
some-put_before front None = refl
some-put_before front (Some texts) = refl

last_line : (part : List ℕ) → has_separator (lines_of_parts (part ∷ [])) ≡ is_separator part
last_line [] = refl
last_line (x ∷ xs) =
    let filled : length (x ∷ xs) ≡ 0 → ⊥ = omega arith in
    rw (ne_eqb (length (x ∷ xs)) 0 filled) (or-false (is_separator (x ∷ xs)))

found_parts : (parts : List (List ℕ)) → is_some (cut_parts parts) ≡ has_separator (lines_of_parts parts)
found_parts [] = refl
found_parts (part ∷ []) =
    (elim (is_separator part) as (λ b. is_some (cond b (cut_here []) not_cut) ≡ b) [ true ↦ refl | false ↦ refl ]) ∙ sym (last_line part)
found_parts (part ∷ next ∷ more) =
    elim (is_separator (strip_carriage_return part)) as (λ b. is_some (cond b (cut_here (join_with_byte 10 (next ∷ more))) (put_before (part ++ 10 ∷ []) (cut_parts (next ∷ more)))) ≡ (b || has_separator (lines_of_parts (next ∷ more)))) [
      | true ↦ refl
      | false ↦ some-put_before (part ++ 10 ∷ []) (cut_parts (next ∷ more)) ∙ found_parts (next ∷ more)
    ]

-- nothing stands before the separator where it is the first line

behind_line : (part : List ℕ) (texts : Texts) → is_cut_at_front (put_before (part ++ 10 ∷ []) texts) ≡ false
behind_line part None = refl
behind_line part (Some texts) =
    let filled : length ((part ++ 10 ∷ []) ++ texts.0) ≡ 0 → ⊥ = λ e. omega (arith, length-append (part ++ 10 ∷ []) texts.0, length-append part (10 ∷ [])) in
    ne_eqb (length ((part ++ 10 ∷ []) ++ texts.0)) 0 filled

last_at_front : (part : List ℕ) → begins_with_separator (lines_of_parts (part ∷ [])) ≡ is_separator part
last_at_front [] = refl
last_at_front (x ∷ xs) =
    let filled : length (x ∷ xs) ≡ 0 → ⊥ = omega arith in
    rw (ne_eqb (length (x ∷ xs)) 0 filled)

front_parts : (parts : List (List ℕ)) → is_cut_at_front (cut_parts parts) ≡ begins_with_separator (lines_of_parts parts)
front_parts [] = refl
front_parts (part ∷ []) =
    (elim (is_separator part) as (λ b. is_cut_at_front (cond b (cut_here []) not_cut) ≡ b) [ true ↦ refl | false ↦ refl ]) ∙ sym (last_at_front part)
front_parts (part ∷ next ∷ more) =
    elim (is_separator (strip_carriage_return part)) as (λ b. is_cut_at_front (cond b (cut_here (join_with_byte 10 (next ∷ more))) (put_before (part ++ 10 ∷ []) (cut_parts (next ∷ more)))) ≡ b) [
      | true ↦ refl
      | false ↦ behind_line part (cut_parts (next ∷ more))
    ]

-- the bytes around the cut

abbrev BytesAre : List ℕ → (List ℕ × List ℕ) → Type 0
BytesAre text texts = (bytes : List ℕ) × IsSeparatorLine bytes texts.1 × (text ≡ texts.0 ++ (bytes ++ texts.1))

is_separator_part : (part : List ℕ) → is_separator part ≡ true → part ≡ separator
is_separator_part part h = (bytes_eq-Decides part separator).0 h

-- a carriage return that has been dropped
stripped : (part : List ℕ) → strip_carriage_return part ≡ separator → (part ≡ separator) ⊎ (part ≡ codes "%%\r")
stripped part =
    elim (eqb (get_or part (length part - 1) 0) 13) as (λ b. eqb (get_or part (length part - 1) 0) 13 ≡ b → cond b (take (length part - 1) part) part ≡ separator → (part ≡ separator) ⊎ (part ≡ codes "%%\r")) [
      | true ↦ λ t h.
          let two : length (take (length part - 1) part) ≡ 2 = ap length h in
          let last : length part - 1 < length part = omega (arith, two, length-take (length part - 1) part) in
          let whole : length part ≤ length part - 1 + 1 = omega arith in
          let joined : part ≡ take (length part - 1) part ++ get_or part (length part - 1) 0 ∷ [] = sym (take_all (length part - 1 + 1) part whole) ∙ take_more part (length part - 1) 0 last in
          let return : get_or part (length part - 1) 0 ≡ 13 = eqb-true (get_or part (length part - 1) 0) 13 t in
          inr (joined ∙ ap (λ (b : ℕ). take (length part - 1) part ++ b ∷ []) return ∙ ap (λ (xs : List ℕ). xs ++ 13 ∷ []) h)
      | false ↦ λ t h. inl h
    ] refl

separator_line : (part after : List ℕ) → is_separator (strip_carriage_return part) ≡ true → IsSeparatorLine (part ++ 10 ∷ []) after
separator_line part after h = elim (stripped part (is_separator_part (strip_carriage_return part) h)) [
  | inl e ↦ inr (inl (ap (λ (xs : List ℕ). xs ++ 10 ∷ []) e))
  | inr e ↦ inr (inr (ap (λ (xs : List ℕ). xs ++ 10 ∷ []) e))
]

bytes_behind : (part rest : List ℕ) (texts : Texts) → IfSome texts (BytesAre rest) → IfSome (put_before (part ++ 10 ∷ []) texts) (BytesAre (part ++ 10 ∷ rest))
bytes_behind part rest None h = tt
bytes_behind part rest (Some texts) h =
    let behind : List ℕ = h.0 ++ texts.1 in
    (h.0, h.1, ap (λ (xs : List ℕ). part ++ 10 ∷ xs) h.2 ∙ sym (append_assoc part (10 ∷ []) (texts.0 ++ behind)) ∙ sym (append_assoc (part ++ 10 ∷ []) texts.0 behind))

bytes_parts : (parts : List (List ℕ)) → IfSome (cut_parts parts) (BytesAre (join_with_byte 10 parts))
bytes_parts [] = tt
bytes_parts (part ∷ []) =
    elim (is_separator part) as (λ b. is_separator part ≡ b → IfSome (cond b (cut_here []) not_cut) (BytesAre part)) [
      | true ↦ λ h. (part, inl (is_separator_part part h, refl), sym (append-nil part))
      | false ↦ λ h. tt
    ] refl
bytes_parts (part ∷ next ∷ more) =
    let rest : List ℕ = join_with_byte 10 (next ∷ more) in
    elim (is_separator (strip_carriage_return part)) as (λ b. is_separator (strip_carriage_return part) ≡ b → IfSome (cond b (cut_here rest) (put_before (part ++ 10 ∷ []) (cut_parts (next ∷ more)))) (BytesAre (part ++ 10 ∷ rest))) [
      | true ↦ λ h. (part ++ 10 ∷ [], separator_line part rest h, sym (append_assoc part (10 ∷ []) rest))
      | false ↦ λ h. bytes_behind part rest (cut_parts (next ∷ more)) (bytes_parts (next ∷ more))
    ] refl

-- the lines around the cut

abbrev NoFeed : List ℕ → Type 0
NoFeed [] = Unit {0}
NoFeed (x ∷ xs) = (is_feed x ≡ false) × NoFeed xs

abbrev NoFeeds : List (List ℕ) → Type 0
NoFeeds [] = Unit {0}
NoFeeds (part ∷ more) = NoFeed part × NoFeeds more

no_feeds_onto : (x : ℕ) (parts : List (List ℕ)) → is_feed x ≡ false → NoFeeds parts → NoFeeds (onto_first x parts)
no_feeds_onto x [] h all = ((h, tt), tt)
no_feeds_onto x (part ∷ more) h all = ((h, all.0), all.1)

-- no part between line feeds has one
no_feeds : (text : List ℕ) → NoFeeds (slice_split is_feed text)
no_feeds [] = (tt, tt)
no_feeds (x ∷ xs) =
    elim (is_feed x) as (λ b. is_feed x ≡ b → NoFeeds (cond b ([] ∷ slice_split is_feed xs) (onto_first x (slice_split is_feed xs)))) [
      | true ↦ λ h. (tt, no_feeds xs)
      | false ↦ λ h. no_feeds_onto x (slice_split is_feed xs) h (no_feeds xs)
    ] refl

split_last : (part : List ℕ) → NoFeed part → slice_split is_feed part ≡ part ∷ []
split_last [] h = refl
split_last (x ∷ xs) h = rw (h.0, split_last xs h.1)

split_first : (part rest : List ℕ) → NoFeed part → slice_split is_feed (part ++ 10 ∷ rest) ≡ part ∷ slice_split is_feed rest
split_first [] rest h = refl
split_first (x ∷ xs) rest h = rw (h.0, split_first xs rest h.1)

-- the parts of a text that has been joined from parts
split_joined : (next : List ℕ) (more : List (List ℕ)) → NoFeeds (next ∷ more) → slice_split is_feed (join_with_byte 10 (next ∷ more)) ≡ next ∷ more
split_joined next [] h = split_last next h.0
split_joined next (part ∷ more) h = split_first next (join_with_byte 10 (part ∷ more)) h.0 ∙ ap (λ (parts : List (List ℕ)). next ∷ parts) (split_joined part more h.1)

abbrev LinesAre : List (List ℕ) → (List ℕ × List ℕ) → Type 0
LinesAre all texts = (all ≡ lines texts.0 ++ separator ∷ lines texts.1) × (has_separator (lines texts.0) ≡ false)

lines_with_line : (part text : List ℕ) → NoFeed part → lines ((part ++ 10 ∷ []) ++ text) ≡ strip_carriage_return part ∷ lines text
lines_with_line part text h =
    let after = some_part is_feed text in
    let parts : slice_split is_feed ((part ++ 10 ∷ []) ++ text) ≡ part ∷ (after.0 ∷ after.1) =
    ap (slice_split is_feed) (append_assoc part (10 ∷ []) text) ∙ split_first part text h ∙ ap (λ (xs : List (List ℕ)). part ∷ xs) after.2 in
    ap lines_of_parts parts ∙ ap (λ (xs : List (List ℕ)). strip_carriage_return part ∷ lines_of_parts xs) (sym after.2)

lines_behind : (part : List ℕ) (rest : List (List ℕ)) (texts : Texts) → NoFeed part → is_separator (strip_carriage_return part) ≡ false → IfSome texts (LinesAre rest) → IfSome (put_before (part ++ 10 ∷ []) texts) (LinesAre (strip_carriage_return part ∷ rest))
lines_behind part rest None no_feed other h = tt
lines_behind part rest (Some texts) no_feed other h =
    let before = lines_with_line part texts.0 no_feed in (
      ap (λ (xs : List (List ℕ)). strip_carriage_return part ∷ xs) h.0 ∙ ap (λ (xs : List (List ℕ)). xs ++ separator ∷ lines texts.1) (sym before),
      ap has_separator before ∙ rw other h.1,
    )

lines_parts : (parts : List (List ℕ)) → NoFeeds parts → IfSome (cut_parts parts) (LinesAre (lines_of_parts parts))
lines_parts [] all = tt
lines_parts (part ∷ []) all =
    elim (is_separator part) as (λ b. is_separator part ≡ b → IfSome (cond b (cut_here []) not_cut) (LinesAre (lines_of_parts (part ∷ [])))) [
      | true ↦ λ h. (ap (λ (xs : List ℕ). lines_of_parts (xs ∷ [])) (is_separator_part part h), refl)
      | false ↦ λ h. tt
    ] refl
lines_parts (part ∷ next ∷ more) all =
    let rest : List ℕ = join_with_byte 10 (next ∷ more) in
    elim (is_separator (strip_carriage_return part)) as (λ b. is_separator (strip_carriage_return part) ≡ b → IfSome (cond b (cut_here rest) (put_before (part ++ 10 ∷ []) (cut_parts (next ∷ more)))) (LinesAre (strip_carriage_return part ∷ lines_of_parts (next ∷ more)))) [
      | true ↦ λ h. (
        ap (λ (line : List ℕ). line ∷ lines_of_parts (next ∷ more)) (is_separator_part (strip_carriage_return part) h)
            ∙ ap (λ (parts : List (List ℕ)). separator ∷ lines_of_parts parts) (sym (split_joined next more all.1)),
        refl,
      )
      | false ↦ λ h. lines_behind part (lines_of_parts (next ∷ more)) (cut_parts (next ∷ more)) all.0 h (lines_parts (next ∷ more) all.1)
    ] refl

-- a fact of what stands in an option, weakened
if_some : (texts : Texts) (P Q : (List ℕ × List ℕ) → Type 0) → ((t : List ℕ × List ℕ) → P t → Q t) → IfSome texts P → IfSome texts Q
if_some None P Q f h = tt
if_some (Some t) P Q f h = f t h

pub cuts_by_lines : CutsByLines
unfolding cut
cuts_by_lines text =
    let parts : List (List ℕ) = slice_split is_feed text in
    let around : IfSome (cut_parts parts) (LinesAre (lines_of_parts parts)) = lines_parts parts (no_feeds text) in
    record {
      found = found_parts parts;
      front = front_parts parts;
      lines_are = if_some (cut_parts parts) (LinesAre (lines_of_parts parts)) (λ t. lines_of_parts parts ≡ lines t.0 ++ separator ∷ lines t.1) (λ t h. h.0) around;
      first = if_some (cut_parts parts) (LinesAre (lines_of_parts parts)) (λ t. has_separator (lines t.0) ≡ false) (λ t h. h.1) around;
      bytes_are = subst (λ (joined : List ℕ). IfSome (cut_parts parts) (BytesAre joined)) (join_with_byte-slice_split 10 text) (bytes_parts parts);
    }

-- the places at which a text in UTF-8 is cut

pub record IsCutPlace (text before after : List ℕ) : Type 0 where
  pub before_within : length before ≤ length text
  pub after_within : length after ≤ length text
  pub before_is : slice_range text 0 (length before) ≡ before
  pub after_is : drop (length text - length after) text ≡ after
  pub before_boundary : IsCharBoundary text (length before)
  pub after_boundary : IsUtf8 text → IsCharBoundary text (length text - length after)

-- a place before or behind an ASCII byte
boundary_before : (before rest : List ℕ) (byte : ℕ) → byte < 128 → IsCharBoundary (before ++ byte ∷ rest) (length before)
boundary_before before rest byte ascii =
    let inside : length before < length (before ++ byte ∷ rest) = omega (arith, length-append before (byte ∷ rest)) in
    IsCharBoundary-before_ascii (before ++ byte ∷ rest) (length before) inside (rw (get_or-append_seam before byte rest 0) ascii)

boundary_after : (front after : List ℕ) (byte : ℕ) → byte < 128 → IsUtf8 (front ++ byte ∷ after) → IsCharBoundary (front ++ byte ∷ after) (length (front ++ byte ∷ after) - length after)
boundary_after front after byte ascii utf8 =
    let inside : length front < length (front ++ byte ∷ after) = omega (arith, length-append front (byte ∷ after)) in
    let place : length front + 1 ≡ length (front ++ byte ∷ after) - length after = omega (arith, length-append front (byte ∷ after)) in
    subst (IsCharBoundary (front ++ byte ∷ after)) place (IsCharBoundary-after_ascii (front ++ byte ∷ after) (length front) utf8 inside (rw (get_or-append_seam front byte after 0) ascii))

-- the text before and the text after some bytes
around_bytes : (before bytes after : List ℕ) → (take (length before) (before ++ (bytes ++ after)) ≡ before) × (drop (length (before ++ (bytes ++ after)) - length after) (before ++ (bytes ++ after)) ≡ after)
around_bytes before bytes after =
    let place : length (before ++ (bytes ++ after)) - length after ≡ length (before ++ bytes) = omega (arith, length-append before (bytes ++ after), length-append bytes after, length-append before bytes) in (
      take-append_seam before (bytes ++ after),
      rw (place, ← append_assoc before bytes after) (drop-append_seam (before ++ bytes) after),
    )

place_before : (before bytes after : List ℕ) → IsSeparatorLine bytes after → IsCharBoundary (before ++ (bytes ++ after)) (length before)
place_before before bytes after h =
    let P : List ℕ → Type 0 = λ xs. IsCharBoundary (before ++ (xs ++ after)) (length before) in
    elim h [
      | inl e ↦ subst P (sym e.0) (boundary_before before (37 ∷ after) 37 (lit< tt))
      | inr (inl e) ↦ subst P (sym e) (boundary_before before (37 ∷ 10 ∷ after) 37 (lit< tt))
      | inr (inr e) ↦ subst P (sym e) (boundary_before before (37 ∷ 13 ∷ 10 ∷ after) 37 (lit< tt))
    ]

-- the place behind a line feed
behind_feed : (before stem after : List ℕ) → IsUtf8 (before ++ (stem ++ 10 ∷ after)) → IsCharBoundary (before ++ (stem ++ 10 ∷ after)) (length (before ++ (stem ++ 10 ∷ after)) - length after)
behind_feed before stem after utf8 =
    let P : List ℕ → Type 0 = λ xs. IsUtf8 xs → IsCharBoundary xs (length xs - length after) in
    subst P (append_assoc before stem (10 ∷ after)) (boundary_after (before ++ stem) after 10 (lit< tt)) utf8

place_after : (before bytes after : List ℕ) → IsSeparatorLine bytes after → IsUtf8 (before ++ (bytes ++ after)) → IsCharBoundary (before ++ (bytes ++ after)) (length (before ++ (bytes ++ after)) - length after)
place_after before bytes after h =
    let P : List ℕ → Type 0 = λ xs. IsUtf8 (before ++ (xs ++ after)) → IsCharBoundary (before ++ (xs ++ after)) (length (before ++ (xs ++ after)) - length after) in
    elim h [
      | inl e ↦ (λ utf8.
          let none : length after ≡ 0 = ap length e.1 in
          let end : length (before ++ (bytes ++ after)) ≡ length (before ++ (bytes ++ after)) - length after = omega (arith, none) in
          subst (IsCharBoundary (before ++ (bytes ++ after))) end (IsCharBoundary-end (before ++ (bytes ++ after))))
      | inr (inl e) ↦ subst P (sym e) (behind_feed before (37 ∷ 37 ∷ []) after)
      | inr (inr e) ↦ subst P (sym e) (behind_feed before (37 ∷ 37 ∷ 13 ∷ []) after)
    ]

place_at : (before bytes after : List ℕ) → IsSeparatorLine bytes after → IsCutPlace (before ++ (bytes ++ after)) before after
place_at before bytes after h =
    let parts = around_bytes before bytes after in
    record {
      before_within = omega (arith, length-append before (bytes ++ after));
      after_within = omega (arith, length-append before (bytes ++ after), length-append bytes after);
      before_is = between_from_start (before ++ (bytes ++ after)) (length before) ∙ parts.0;
      after_is = parts.1;
      before_boundary = place_before before bytes after h;
      after_boundary = place_after before bytes after h;
    }

pub cut_place : (text before after : List ℕ) → cut text ≡ Some (before, after) → IsCutPlace text before after
cut_place text before after h =
    let around = (let t : IfSome (cut text) (BytesAre text) = (cuts_by_lines text).bytes_are in rw h at t) in
    subst (λ (xs : List ℕ). IsCutPlace xs before after) (sym around.2) (place_at before around.0 after around.1)
