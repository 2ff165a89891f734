use Rattle.std.proofs.Common.{◌≤◌, ◌-◌, ◌+◌, vec_len}
use Rattle.std.specs.Io.KnownBytes.{Consumes}
use Rattle.axi_program.proofs.outside.read_all.read_all.Given as goal

abbrev pub invariant-loop-count : goal.invariant-loop-count
invariant-loop-count g l = record {
  within : vec_len l.text ≤ l.limit;
  later : g.S.Source.faults l.initial.source ≤ g.S.Source.faults l.source;
  read : Consumes (g.S.Source.left l.initial.source) (g.S.Source.left l.source) l.text.items;
}

abbrev pub decreases-loop-count : goal.decreases-loop-count
decreases-loop-count g l = l.limit + 1 - vec_len l.text
