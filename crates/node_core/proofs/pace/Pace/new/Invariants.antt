use Rattle.std.proofs.Common.{◌≡◌, take}
use Rattle.node_core.proofs.pace.Pace.new.Given as goal

abbrev pub invariant-loop-delay : goal.invariant-loop-delay
invariant-loop-delay l = l.delays.items ≡ take l.delay-index l.list
