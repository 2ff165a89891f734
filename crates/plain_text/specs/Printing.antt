-- How numbers and bytes are written in base 16.
use Rattle.std.specs.Prelude.{ℕ, ◌/◌, ◌%◌, false, List, [], ◌∷◌}
use Rattle.std.specs.List.{flat_map}
use Rattle.std.specs.Fmt.{digits, digit_glyph}

-- the digits of a number in base 16, in lower case and without zeros at the front
abbrev pub hexadecimal : ℕ → List ℕ
hexadecimal number = digits 16 false number

-- the two digits of a byte in base 16, in lower case
abbrev pub pair_of : ℕ → List ℕ
pair_of byte = digit_glyph false (byte / 16) ∷ digit_glyph false (byte % 16) ∷ []

-- the two digits of each byte
unfoldable pub pairs : List ℕ → List ℕ
pairs bytes = flat_map pair_of bytes
