use Rattle.std.proofs.Common.{◌≡◌, length}
use Rattle.net_steps.specs.Calls.{AreSeen}
use Rattle.net_steps.proofs.calls.see_each.Given as goal

-- the links before this one have noted their nodes
abbrev pub invariant-loop-number : goal.invariant-loop-number
invariant-loop-number l = (length l.seen ≡ length l.initial.seen) × AreSeen l.links l.offers l.number l.seen
