-- The lanes so far are written.
use Rattle.std.proofs.Common.{◌≡◌, ◌+◌, ◌*◌, ◌++◌, length, take}
use Rattle.plain_text.specs.Printing.{pairs}
use Rattle.trace_text.proofs.fields.push_lanes_before.Given as goal

abbrev pub invariant-loop-lane : goal.invariant-loop-lane
invariant-loop-lane l =
    (l.line ≡ l.initial.line ++ pairs (take l.lane l.lanes)) × (length l.line ≡ length l.initial.line + 2 * l.lane)
