use Rattle.std.proofs.Common.{◌≡◌}
use Rattle.std.specs.Prelude.{flat_map}
use Rattle.std.specs.List.{range_with_len}
use Rattle.elaborate.specs.Plan.{node_parts}
use Rattle.elaborate.proofs.parts.plan_nodes.Given as goal

abbrev pub invariant-loop-place : goal.invariant-loop-place
invariant-loop-place l = l.nodes.items ≡ flat_map (node_parts l.wiring) (range_with_len 0 l.place)
