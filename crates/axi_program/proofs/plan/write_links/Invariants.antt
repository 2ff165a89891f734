use Rattle.std.proofs.Common.{◌≤◌}
use Rattle.std.specs.Io.KnownBytes.{Appends}
use Rattle.axi_program.proofs.PlanLaws.{links_before}
use Rattle.axi_program.proofs.plan.write_links.Given as goal

-- the lines of the links before this one are written
abbrev pub invariant-loop-number : goal.invariant-loop-number
invariant-loop-number g l =
    Appends (g.K.Sink.written l.initial.sink) (g.K.Sink.written l.sink) (links_before l.plan l.number) × (g.K.Sink.faults l.initial.sink ≤ g.K.Sink.faults l.sink)
