use Rattle.std.proofs.Common.{◌≡◌, ◌++◌}
use Rattle.std.specs.Prelude.{flat_map}
use Rattle.std.specs.List.{range_with_len}
use Rattle.elaborate.specs.Plan.{input_parts}
use Rattle.elaborate.proofs.crossbar.push_inputs.Given as goal

abbrev pub invariant-loop-input : goal.invariant-loop-input
invariant-loop-input l = l.nodes.items ≡ l.fn.nodes.items ++ flat_map (input_parts l.wiring l.place) (range_with_len 0 l.input)
