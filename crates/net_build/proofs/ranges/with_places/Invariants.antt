use Rattle.std.proofs.Common.{◌≡◌, map, take}
use Rattle.address_map.specs.declared.region.Region.{Region}
use Rattle.node_graph.specs.Order.{place_in}
use Rattle.net_build.proofs.ranges.with_places.Given as goal

abbrev pub invariant-loop-region : goal.invariant-loop-region
invariant-loop-region l = l.placed.items ≡ map (λ (region : Region). record region { port = place_in l.targets region.port }) (take l.region-index l.regions)
