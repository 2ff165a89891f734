use Rattle.std.proofs.Common.{◌≡◌, ◌++◌}
use Rattle.std.specs.Prelude.{map}
use Rattle.std.specs.List.{range_with_len}
use Rattle.burst_address.specs.Formulas.{beat_at}
use Rattle.memory_node.specs.Store.{line_number}
use Rattle.net_build.proofs.lines.push_lines.Given as goal

abbrev pub invariant-loop-beat : goal.invariant-loop-beat
invariant-loop-beat l = l.lines.items ≡ l.fn.lines.items ++ map (λ beat. line_number (beat_at l.request beat)) (range_with_len 0 l.beat)
