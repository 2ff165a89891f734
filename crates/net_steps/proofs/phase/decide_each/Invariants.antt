use Rattle.std.proofs.Common.{◌≡◌, ◌++◌, drop, map, take}
use Rattle.net_kinds.specs.NodeTable.{node_table}
use Rattle.net_steps.proofs.phase.decide_each.Given as goal
use Rattle.net_steps.specs.Calls.{acts}
use Rattle.net_steps.specs.Unfinished.{unfinished_in}

-- the nodes before this one have decided and are counted, the others haven't
abbrev pub invariant-loop-node : goal.invariant-loop-node
invariant-loop-node l =
    (l.nodes ≡ map (node_table l.round l.queues) (take l.node-index l.initial.nodes) ++ drop l.node-index l.initial.nodes)
    × (l.unfinished ≡ unfinished_in (map (node_table l.round l.queues) (take l.node-index l.initial.nodes)))
    × (l.place ≡ l.node-index)
    × (l.acting ≡ map acts l.nodes)
