use Rattle.std.proofs.Common.{◌≡◌, ◌++◌, map}
use Rattle.std.specs.List.{range_with_len}
use Rattle.elaborate.specs.Plan.{target_mux}
use Rattle.elaborate.proofs.crossbar.push_targets.Given as goal

abbrev pub invariant-loop-port : goal.invariant-loop-port
invariant-loop-port l = l.nodes.items ≡ l.fn.nodes.items ++ map (target_mux l.wiring l.place) (range_with_len 0 l.port)
