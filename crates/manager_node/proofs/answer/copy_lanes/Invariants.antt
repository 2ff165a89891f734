use Rattle.std.proofs.Common.{◌≡◌, take}
use Rattle.std.specs.Prelude.{drop}
use Rattle.manager_node.proofs.answer.copy_lanes.Given as goal

abbrev pub invariant-loop-n : goal.invariant-loop-n
invariant-loop-n l = take l.n l.bytes ≡ take l.n (drop l.low l.lanes)
