use Rattle.std.proofs.Common.{◌≡◌, map, take}
use Rattle.manager_node.specs.ManagerState.{of_direction}
use Rattle.manager_node.proofs.direction.Direction.new.Given as goal

abbrev pub invariant-loop-n : goal.invariant-loop-n
invariant-loop-n l = l.places.items ≡ map (λ p. p.0) (of_direction l.write (take l.n l.script))
