use Rattle.std.proofs.Common.{◌≡◌, map, take}
use Rattle.topology.specs.Joined.{name_place, placed_region}
use Rattle.topology.proofs.joined.regions_of.Given as goal

abbrev pub invariant-loop-region : goal.invariant-loop-region
invariant-loop-region l = l.regions.items ≡ map (placed_region (name_place l.names.keys)) (take l.region-index l.region-items)
