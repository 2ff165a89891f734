-- Numbers in base 16 as they are written: in lower case, with no needless zero at the front.
use Rattle.std.specs.Prelude.{ℕ, ◌+◌, ◌*◌, Bool, not, ◌&&◌, nat_le, List, [], ◌∷◌, Option, None, Some, if◌then◌else◌}
use Rattle.std.specs.Char.{is_digit, digit_value}
use Rattle.std.specs.List.{list_all}
use Rattle.plain_text.specs.Numbers.{is_plain, number_in}
use Rattle.plain_text.specs.Exact.{◌>>=◌}

-- the byte is none of `A` to `Z`
abbrev pub is_lower : ℕ → Bool
is_lower byte = not (nat_le 65 byte && nat_le byte 90)

-- hexadecimal digits in lower case with no needless zero at the front, for a number below the limit
unfoldable pub read_plain_hexadecimal : List ℕ → ℕ → Option ℕ
read_plain_hexadecimal word limit = if is_plain word && list_all is_lower word then number_in word 16 limit else None

-- the value of one hexadecimal digit in lower case
unfoldable pub read_glyph : ℕ → Option ℕ
read_glyph byte = if is_lower byte && is_digit byte 16 then Some (digit_value byte) else None

-- the byte that two such digits spell
unfoldable pub read_pair : ℕ → ℕ → Option ℕ
read_pair high low = do
  h ← read_glyph high
  l ← read_glyph low
  Some (16 * h + l)

-- the bytes that such digits spell two by two
unfoldable pub read_pairs : List ℕ → Option (List ℕ)
read_pairs [] = Some []
read_pairs (high ∷ []) = None
read_pairs (high ∷ low ∷ rest) = do
  byte ← read_pair high low
  bytes ← read_pairs rest
  Some (byte ∷ bytes)
