use Rattle.std.proofs.Common.{◌≡◌, ◌≤◌, ◌-◌}
use Rattle.std.specs.Io.KnownBytes.{Appends}
use Rattle.axi_program.specs.Opening.{asked_by}
use Rattle.axi_program.specs.Run.{least_finished, opened_network, run_after}
use Rattle.axi_program.specs.Text.{where_asked}
use Rattle.axi_program.specs.Trace.{trace_lines}
use Rattle.axi_program.proofs.run.run_to_end.Given as goal

-- so many rounds were made and their lines written, where they are asked for, and none of the states before was the last
abbrev pub invariant-loop-round : goal.invariant-loop-round
invariant-loop-round g l =
    (l.net ≡ run_after (asked_by l.initial.net) l._round)
    × (least_finished (opened_network (asked_by l.initial.net)) 0 l.most ≡ least_finished (opened_network (asked_by l.initial.net)) l._round (l.most - l._round))
    × Appends (g.K.Sink.written l.initial.sink) (g.K.Sink.written l.sink) (where_asked l.trace (trace_lines l._round (opened_network (asked_by l.initial.net))))
    × (g.K.Sink.faults l.initial.sink ≤ g.K.Sink.faults l.sink)
