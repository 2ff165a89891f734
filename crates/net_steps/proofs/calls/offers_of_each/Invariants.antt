use Rattle.std.proofs.Common.{◌≡◌, map, take}
use Rattle.net_steps.proofs.calls.offers_of_each.Given as goal
use Rattle.net_steps.specs.Calls.{offers_of}

-- what each link before this one offers
abbrev pub invariant-loop-queue : goal.invariant-loop-queue
invariant-loop-queue l = l.offers.items ≡ map offers_of (take l.queue-index l.queues)
