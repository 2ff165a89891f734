-- Numbers are read as they are written, and written as they were read.
use Rattle.std.specs.Prelude.{ℕ, ◌<◌, ◌≤◌, ◌^◌, List}
use Rattle.std.specs.Fmt.{decimal}
use Rattle.std.specs.List.{AllByRecursion}
use Rattle.plain_text.specs.Exact.{IsExact}
use Rattle.plain_text.specs.Numbers.{read_plain_decimal}
use Rattle.plain_text.specs.Printing.{hexadecimal, pairs}
use Rattle.plain_text.specs.Spelling.{read_pairs, read_plain_hexadecimal}

-- decimals without needless zeros, for each limit on numbers of 64 bits
abbrev pub DecimalsAreExact : Type 0
DecimalsAreExact = (limit : ℕ) → limit ≤ 2 ^ 64 → IsExact (λ word. read_plain_decimal word limit) decimal (λ n. n < limit)

-- hexadecimals in lower case without needless zeros, for each limit on numbers of 128 bits
abbrev pub HexadecimalsAreExact : Type 0
HexadecimalsAreExact = (limit : ℕ) → limit ≤ 2 ^ 128 → IsExact (λ word. read_plain_hexadecimal word limit) hexadecimal (λ n. n < limit)

-- the numbers are bytes
abbrev pub AreBytes : List ℕ → Type 0
AreBytes bytes = AllByRecursion (λ byte. byte < 256) bytes

-- pairs of hexadecimal digits in lower case, one for each byte
abbrev pub PairsAreExact : Type 0
PairsAreExact = IsExact read_pairs pairs AreBytes
