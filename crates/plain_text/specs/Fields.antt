-- Fields: the parts of a text that each end at a given byte.
use Rattle.std.specs.Prelude.{ℕ, ◌==◌, List, [], ◌∷◌, Option, None, Some, if◌then◌else◌}
use Rattle.plain_text.specs.Separator.{put_before}

-- the bytes before the first one that ends a field, and the bytes after it
abbrev pub field_before : ℕ → List ℕ → Option (List ℕ × List ℕ)
field_before end [] = None
field_before end (byte ∷ rest) = if byte == end then Some ([], rest) else put_before (byte ∷ []) (field_before end rest)
