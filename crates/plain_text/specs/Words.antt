-- The words of a line.
use Rattle.std.specs.Prelude.{ℕ, Bool, true, false, ◌||◌, ◌==◌, nat_lt, List, [], ◌∷◌, Option, None, Some, length, filter}
use Rattle.std.specs.List.{slice_split}

-- a space or a tab
abbrev pub is_blank : ℕ → Bool
is_blank byte = byte == 32 || byte == 9

-- the words are parted by one or more blanks; blanks before the first and after the last part nothing
unfoldable pub words : List ℕ → List (List ℕ)
words line = filter (λ word. nat_lt 0 (length word)) (slice_split is_blank line)

-- the first word and the words after it, or none where no word is left
abbrev pub next_word : List (List ℕ) → Option (List ℕ × List (List ℕ))
next_word [] = None
next_word (word ∷ rest) = Some (word, rest)

-- no word is left
abbrev pub has_no_word : List (List ℕ) → Bool
has_no_word [] = true
has_no_word (word ∷ rest) = false
