-- The lanes so far are read.
use Rattle.trace_text.proofs.LanesLaws.{IsReading}
use Rattle.trace_text.proofs.fields.read_lanes.Given as goal

abbrev pub invariant-loop-lane : goal.invariant-loop-lane
invariant-loop-lane l = IsReading l.word l.lane l.lanes
