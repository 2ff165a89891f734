use Rattle.std.proofs.Common.{◌≡◌, drop}
use Rattle.address_map.specs.Order.{follows}
use Rattle.address_map.proofs.overlap.follow_each_other.Given as goal

abbrev pub invariant-loop-region : goal.invariant-loop-region
invariant-loop-region l = follows l.end (drop l.region-index l.sorted) ≡ follows 0 l.sorted
