-- The digits of the bytes that were passed have been written.
use Rattle.std.proofs.Common.{◌≡◌, ◌+◌, ◌*◌, ◌++◌, length, take}
use Rattle.plain_text.specs.Printing.{pairs}
use Rattle.plain_text.proofs.line_buffer.LineBuffer.push_pairs.Given as goal

abbrev pub invariant-loop-byte : goal.invariant-loop-byte
invariant-loop-byte l =
    (l.self ≡ l.initial.self ++ pairs (take l.byte-index l.bytes))
    × (length l.self ≡ length l.initial.self + 2 * l.byte-index)
