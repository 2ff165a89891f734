use Rattle.std.proofs.Common.{◌≤◌, ◌+◌}
use Rattle.std.specs.Io.KnownBytes.{Appends}
use Rattle.net_build.specs.NetRun.{network_of_run}
use Rattle.axi_program.specs.Trace.{link_line}
use Rattle.plain_lists.specs.Rounds.{over}
use Rattle.axi_program.proofs.trace.write_links.Given as goal

-- the lines of the links before this one are written
abbrev pub invariant-loop-number : goal.invariant-loop-number
invariant-loop-number g l =
    Appends (g.K.Sink.written l.initial.sink) (g.K.Sink.written l.sink) (over (link_line (l.net.rounds + 1) (network_of_run l.net)) l.number)
    × (g.K.Sink.faults l.initial.sink ≤ g.K.Sink.faults l.sink)
