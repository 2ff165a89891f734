use Rattle.std.proofs.Common.{◌≡◌, map, take}
use Rattle.net_kinds.specs.declared.node.Node.{Node}
use Rattle.net_steps.proofs.phase.count_unfinished.Given as goal
use Rattle.net_steps.specs.Unfinished.{unfinished_in}

-- the nodes before this one are counted
abbrev pub invariant-loop-node : goal.invariant-loop-node
invariant-loop-node l = l.unfinished ≡ unfinished_in (map (λ (n : Node). n) (take l.node-index l.nodes))
