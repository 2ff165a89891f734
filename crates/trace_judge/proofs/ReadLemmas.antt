-- The lines of a text are read one by one.
use Rattle.std.proofs.Common.{◌≡◌, ℕ, ◌+◌, ◌<◌, ◌≤◌, ◌∷◌, [], ◌++◌, Bool, true, false, List, Option, Some, None, sym, ap, ◌∙◌, arith, length, drop, get_or}
use Rattle.std.specs.Prelude.{if◌then◌else◌, Result, Ok, Err, ◌==◌}
use Rattle.std.specs.List.{slice_split}
use Rattle.std.specs.Str.Lines.{lines, lines_of_parts}
use Rattle.std.proofs.lemmas.List.{at_drop_more, at_drop_all}
use Rattle.std.proofs.lemmas.List.Splits.{length-slice_split}
use Rattle.std.proofs.lemmas.List.Sums.{count_by-le-length}
use Rattle.plain_text.specs.Separator.{is_separator}
use Rattle.axi_history.specs.declared.port.PortRound.{PortRound}
use Rattle.trace_text.specs.Reading.{trace_round_of}
use Rattle.trace_judge.specs.Lines.{before_separator, shown_after, taken_after}
use Rattle.trace_judge.specs.Table.{TableStands, TakesLine}
use Rattle.trace_judge.specs.declared.table.TraceTable.{TraceTable}

-- what the lines from one on show, after what the earlier ones show
abbrev pub shown_from : List PortRound → List (List ℕ) → ℕ → Result (List PortRound) ℕ
shown_from earlier all n = shown_after earlier (before_separator (drop n all))

-- the line that comes next
next_line : (earlier : List PortRound) (all : List (List ℕ)) (n : ℕ) (line : List ℕ) → (n < length all) × (line ≡ get_or all n line) → shown_from earlier all n ≡ shown_after earlier (before_separator (line ∷ drop (n + 1) all))
next_line earlier all n line t =
    at_drop_more (λ (xs : List (List ℕ)). shown_after earlier (before_separator xs)) all n line t.0
    ∙ ap (λ (x : List ℕ). shown_after earlier (before_separator (x ∷ drop (n + 1) all))) (sym t.1)

pub shown_separator : (earlier : List PortRound) (all : List (List ℕ)) (n : ℕ) (line : List ℕ) → (n < length all) × (line ≡ get_or all n line) → is_separator line ≡ true → shown_from earlier all n ≡ Ok earlier
shown_separator earlier all n line t is = next_line earlier all n line t ∙ ap (λ b. shown_after earlier (if b then [] else line ∷ before_separator (drop (n + 1) all))) is

abbrev told : List PortRound → List (List ℕ) → Option PortRound → Result (List PortRound) ℕ
told earlier more shown = elim shown [ None ↦ Err (length earlier + 1) | Some r ↦ shown_after (earlier ++ r ∷ []) more ]

shown_line : (earlier : List PortRound) (all : List (List ℕ)) (n : ℕ) (line : List ℕ) (shown : Option PortRound) → (n < length all) × (line ≡ get_or all n line) → is_separator line ≡ false → taken_after earlier (trace_round_of line) ≡ shown →
    shown_from earlier all n ≡ told earlier (before_separator (drop (n + 1) all)) shown
shown_line earlier all n line shown t is e =
    next_line earlier all n line t
    ∙ ap (λ b. shown_after earlier (if b then [] else line ∷ before_separator (drop (n + 1) all))) is
    ∙ ap (told earlier (before_separator (drop (n + 1) all))) e

pub shown_refused : (earlier : List PortRound) (all : List (List ℕ)) (n : ℕ) (line : List ℕ) → (n < length all) × (line ≡ get_or all n line) → is_separator line ≡ false → taken_after earlier (trace_round_of line) ≡ None → shown_from earlier all n ≡ Err (length earlier + 1)
shown_refused earlier all n line t is e = shown_line earlier all n line None t is e

pub shown_taken : (earlier : List PortRound) (all : List (List ℕ)) (n : ℕ) (line : List ℕ) (r : PortRound) → (n < length all) × (line ≡ get_or all n line) → is_separator line ≡ false → taken_after earlier (trace_round_of line) ≡ Some r → shown_from earlier all n ≡ shown_from (earlier ++ r ∷ []) all (n + 1)
shown_taken earlier all n line r t is e = shown_line earlier all n line (Some r) t is e

pub shown_end : (earlier : List PortRound) (all : List (List ℕ)) (n : ℕ) → length all ≤ n → shown_from earlier all n ≡ Ok earlier
shown_end earlier all n h = at_drop_all (λ (xs : List (List ℕ)). shown_after earlier (before_separator xs)) all n h

-- what the table took
pub was_taken : (taken : Bool) (t : TraceTable) (earlier : List PortRound) (shown : Option PortRound) → taken ≡ true → TakesLine taken t earlier shown → (r : PortRound) × (shown ≡ Some r) × TableStands t (earlier ++ r ∷ [])
was_taken true t earlier shown e takes = takes
was_taken false t earlier shown e takes = absurd cc

pub was_refused : (taken : Bool) (t : TraceTable) (earlier : List PortRound) (shown : Option PortRound) → taken ≡ false → TakesLine taken t earlier shown → shown ≡ None
was_refused true t earlier shown e takes = absurd cc
was_refused false t earlier shown e takes = takes

-- a text has at most one more line than bytes
parts_few : (parts : List (List ℕ)) → length (lines_of_parts parts) ≤ length parts
parts_few [] = omega arith
parts_few (x ∷ []) = go (length x == 0)
  where
    go : (b : Bool) → length (if b then [] else x ∷ []) ≤ length (x ∷ [])
    go true = omega arith
    go false = omega arith
parts_few (x ∷ y ∷ more) = let h : length (lines_of_parts (y ∷ more)) ≤ length (y ∷ more) = parts_few (y ∷ more) in omega arith

few_marks : (p : ℕ → Bool) (xs : List ℕ) → length (slice_split p xs) ≤ length xs + 1
few_marks p xs = omega (arith, length-slice_split p xs, count_by-le-length p xs)

pub few_lines : (text : List ℕ) → length (lines text) ≤ length text + 1
few_lines text = let h = parts_few (slice_split (λ b. b == 10) text) in let h' = few_marks (λ b. b == 10) text in omega arith
