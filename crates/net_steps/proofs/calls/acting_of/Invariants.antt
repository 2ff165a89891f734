use Rattle.std.proofs.Common.{◌≡◌, map, take}
use Rattle.net_steps.proofs.calls.acting_of.Given as goal
use Rattle.net_steps.specs.Calls.{acts}

-- a flag for each node before this one
abbrev pub invariant-loop-node : goal.invariant-loop-node
invariant-loop-node l = l.acting.items ≡ map acts (take l.node-index l.nodes)
