-- The lines so far show what the table stands for.
use Rattle.std.proofs.Common.{◌≡◌, ◌≤◌, ◌<◌, ◌^◌, List, length, drop}
use Rattle.std.specs.Str.Lines.{lines}
use Rattle.axi_history.specs.declared.port.PortRound.{PortRound}
use Rattle.trace_judge.specs.Lines.{before_separator, judged_lines, shown_after, shown_by}
use Rattle.trace_judge.specs.Table.{TableStands}
use Rattle.trace_judge.proofs.trace.read_lines.Given as goal

abbrev pub invariant-loop-line : goal.invariant-loop-line
invariant-loop-line l = record {
  can : (goal.iterator-loop-line).can_next l.line-iterator;
  finite : (goal.iterator-loop-line).is_finite l.line-iterator;
  few : l.table.lines ≤ length l.yielded;
  small : l.table.lines < 2 ^ 25;
  shown : (earlier : List PortRound) × TableStands l.table earlier × (shown_after earlier (before_separator (drop (length l.yielded) (lines l.text))) ≡ shown_by (judged_lines l.text));
}
