use Rattle.std.proofs.Common.{◌≡◌, ◌<◌, ℕ, false}
use Rattle.address_map.specs.Regions.{is_bad_region, region_at}
use Rattle.address_map.proofs.map.first_bad.Given as goal

abbrev pub invariant-loop-number : goal.invariant-loop-number
invariant-loop-number l = (place : ℕ) → place < l.number → is_bad_region (region_at l.regions place) ≡ false
