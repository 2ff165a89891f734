use Rattle.std.proofs.Common.{◌≡◌, map, take}
use Rattle.topology.specs.Wiring.{region_lists, regions_of}
use Rattle.topology.proofs.joined.regions_of_nodes.Given as goal

abbrev pub invariant-loop-place : goal.invariant-loop-place
invariant-loop-place l = region_lists l.regions.items ≡ map (regions_of l.nodes) (take l.place l.nodes)
