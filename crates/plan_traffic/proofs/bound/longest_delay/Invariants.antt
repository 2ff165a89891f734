-- The longest delay of the nodes so far.
use Rattle.std.proofs.Common.{◌≡◌, take}
use Rattle.plan_traffic.specs.Bound.{delay_of_nodes}
use Rattle.plan_traffic.proofs.bound.longest_delay.Given as goal

abbrev pub invariant-loop-node : goal.invariant-loop-node
invariant-loop-node l = l.most ≡ delay_of_nodes (take l.node l.nodes)
