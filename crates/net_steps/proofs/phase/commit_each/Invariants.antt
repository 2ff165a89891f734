use Rattle.std.proofs.Common.{◌≡◌, ◌+◌, ◌++◌, drop, map, take}
use Rattle.net_kinds.specs.NodeKind.{node_view}
use Rattle.net_model.specs.Network.{queue_moved}
use Rattle.net_steps.proofs.phase.commit_each.Given as goal
use Rattle.net_steps.specs.Calls.{offers_of}
use Rattle.plain_lists.specs.Numbered.{numbered}

-- the links before this one have moved, the others haven't, what each offers is kept, and the numbers go on
abbrev pub invariant-loop-queue : goal.invariant-loop-queue
invariant-loop-queue l =
    (l.queues ≡ numbered (queue_moved l.links (map node_view l.nodes)) l.first (take l.queue-index l.initial.queues) ++ drop l.queue-index l.initial.queues)
    × (l.number ≡ l.first + l.queue-index)
    × (l.place ≡ l.queue-index)
    × (l.offers ≡ map offers_of l.queues)
