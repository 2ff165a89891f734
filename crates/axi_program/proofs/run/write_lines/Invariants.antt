use Rattle.std.proofs.Common.{◌≤◌, take}
use Rattle.std.specs.Io.KnownBytes.{Appends}
use Rattle.axi_program.specs.Text.{answer_lines}
use Rattle.axi_program.proofs.run.write_lines.Given as goal

-- the lines before this place are written
abbrev pub invariant-loop-place : goal.invariant-loop-place
invariant-loop-place g l =
    Appends (g.K.Sink.written l.initial.sink) (g.K.Sink.written l.sink) (answer_lines l.net (take l.place l.net.items))
    × (g.K.Sink.faults l.initial.sink ≤ g.K.Sink.faults l.sink)
