-- The number is the value so far, followed by the digits that are left.
use Rattle.std.proofs.Common.{◌≡◌, ◌≤◌, ◌+◌, drop}
use Rattle.plain_text.specs.Numbers.{number_in}
use Rattle.plain_text.proofs.NumberLaws.{number_after}
use Rattle.plain_text.proofs.spelling.wide_hexadecimal.Given as goal

abbrev pub invariant-loop-byte : goal.invariant-loop-byte
invariant-loop-byte l =
    (number_in l.digits 16 (l.most + 1) ≡ number_after l.value 16 (l.most + 1) (drop l.byte-index l.digits))
    × (l.value ≤ l.most)
