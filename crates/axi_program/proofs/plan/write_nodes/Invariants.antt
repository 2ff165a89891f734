use Rattle.std.proofs.Common.{◌≤◌}
use Rattle.std.specs.Io.KnownBytes.{Appends}
use Rattle.axi_program.proofs.PlanLaws.{nodes_before}
use Rattle.axi_program.proofs.plan.write_nodes.Given as goal

-- the lines of the nodes before this one are written
abbrev pub invariant-loop-number : goal.invariant-loop-number
invariant-loop-number g l =
    Appends (g.K.Sink.written l.initial.sink) (g.K.Sink.written l.sink) (nodes_before l.plan l.number) × (g.K.Sink.faults l.initial.sink ≤ g.K.Sink.faults l.sink)
