-- The line `%%`, and the two texts that stand before and after the first such line.
use Rattle.std.specs.Prelude.{ℕ, Bool, false, List, [], ◌∷◌, ◌++◌, Option, None, Some, if◌then◌else◌, codes}
use Rattle.std.specs.List.{slice_split, join_with_byte, list_any}
use Rattle.std.specs.Str.{bytes_eq}
pub use Rattle.plain_text.specs.Lines.{lines}
use Rattle.plain_text.specs.Lines.{is_feed, strip_carriage_return}

-- the bytes of the line that parts a text
abbrev pub separator : List ℕ
separator = codes "%%"

-- the line is exactly `%%`
abbrev pub is_separator : List ℕ → Bool
is_separator line = bytes_eq line separator

-- the two texts, where these bytes stand before them
abbrev pub put_before : List ℕ → Option (List ℕ × List ℕ) → Option (List ℕ × List ℕ)
put_before front None = None
put_before front (Some texts) = Some (front ++ texts.0, texts.1)

-- the cut of a text that is given as its parts between line feeds: a part before a line feed is a
-- line less a carriage return at its end, and the last part is a line as it stands; 10 is a line feed
abbrev pub cut_parts : List (List ℕ) → Option (List ℕ × List ℕ)
cut_parts [] = None
cut_parts (part ∷ []) = if is_separator part then Some ([], []) else None
cut_parts (part ∷ next ∷ more) =
    if is_separator (strip_carriage_return part)
    then Some ([], join_with_byte 10 (next ∷ more))
    else put_before (part ++ 10 ∷ []) (cut_parts (next ∷ more))

-- all before the first line that is exactly `%%`, and all after that line and its line feed
unfoldable pub cut : List ℕ → Option (List ℕ × List ℕ)
cut text = cut_parts (slice_split is_feed text)

-- one of the lines is exactly `%%`
abbrev pub has_separator : List (List ℕ) → Bool
has_separator lines = list_any is_separator lines

-- the first of the lines is exactly `%%`
abbrev pub begins_with_separator : List (List ℕ) → Bool
begins_with_separator [] = false
begins_with_separator (line ∷ more) = is_separator line
