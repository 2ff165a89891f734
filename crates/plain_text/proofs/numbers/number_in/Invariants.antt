-- The number is the value so far, followed by the digits that are left.
use Rattle.std.proofs.Common.{◌≡◌, ◌<◌, drop}
use Rattle.plain_text.specs.Numbers.{number_in}
use Rattle.plain_text.proofs.NumberLaws.{number_after}
use Rattle.plain_text.proofs.numbers.number_in.Given as goal

abbrev pub invariant-loop-byte : goal.invariant-loop-byte
invariant-loop-byte l =
    (number_in l.digits l.base l.limit ≡ number_after l.value l.base l.limit (drop l.byte-index l.digits))
    × (0 < l.byte-index → l.value < l.limit)
