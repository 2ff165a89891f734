use Rattle.std.proofs.Common.{◌≡◌, ◌<◌, ℕ, false}
use Rattle.address_map.specs.Regions.{share_address, region_at}
use Rattle.address_map.proofs.overlap.partner.Given as goal

abbrev pub invariant-loop-place : goal.invariant-loop-place
invariant-loop-place l = (place : ℕ) → place < l.place → share_address l.region (region_at l.others place) ≡ false
