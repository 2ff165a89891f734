-- The numbers that words spell.
use Rattle.std.specs.Prelude.{ℕ, Bool, not, ◌&&◌, ◌||◌, ◌==◌, nat_eq, nat_lt, nat_le, List, Option, None, Some, if◌then◌else◌, length, drop, slice_index, codes}
use Rattle.std.specs.List.{list_all, starts_with}
use Rattle.std.specs.Char.{is_digit}
use Rattle.std.specs.Str.Parse.{digits_value}

-- one digit of the base or more, and nothing else
abbrev pub is_numeral : List ℕ → ℕ → Bool
is_numeral digits base = nat_lt 0 (length digits) && list_all (λ digit. is_digit digit base) digits

-- the number that the digits spell in the base, where it is below the limit; no digit spells none
unfoldable pub number_in : List ℕ → ℕ → ℕ → Option ℕ
number_in digits base limit =
    if is_numeral digits base && nat_lt (digits_value base digits) limit
    then Some (digits_value base digits)
    else None

-- 1 to 10 decimal digits, zeros at the front allowed, for a number below the limit
unfoldable pub read_decimal : List ℕ → ℕ → Option ℕ
read_decimal word limit = if nat_le (length word) 10 then number_in word 10 limit else None

-- at most one digit, or more of which the first is no zero (the byte 48)
abbrev pub is_plain : List ℕ → Bool
is_plain word = nat_lt (length word) 2 || not (slice_index word 0 == 48)

-- decimal digits with no needless zero at the front, for a number below the limit
unfoldable pub read_plain_decimal : List ℕ → ℕ → Option ℕ
read_plain_decimal word limit = if is_plain word then number_in word 10 limit else None

-- `0x` and 1 to 16 hexadecimal digits in either case, for a number below the limit
unfoldable pub read_hexadecimal : List ℕ → ℕ → Option ℕ
read_hexadecimal word limit =
    if nat_le (length word) 18 && starts_with nat_eq word (codes "0x")
    then number_in (drop 2 word) 16 limit
    else None

-- two hexadecimal digits in either case
unfoldable pub read_byte_pair : List ℕ → Option ℕ
read_byte_pair pair = if length pair == 2 then number_in pair 16 256 else None
