-- The lanes so far carry the same bytes.
use Rattle.std.proofs.Common.{◌≡◌, ℕ, ◌<◌, get_or}
use Rattle.port_rules.proofs.payload.are_same_lanes.Given as goal

abbrev pub invariant-loop-n : goal.invariant-loop-n
invariant-loop-n l = (k : ℕ) → k < l.n → get_or l.a k 0 ≡ get_or l.b k 0
