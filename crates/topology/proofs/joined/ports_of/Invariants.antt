use Rattle.std.proofs.Common.{◌≡◌, map, take}
use Rattle.node_graph.specs.Graph.{each_once}
use Rattle.address_map.specs.declared.region.Region.{Region}
use Rattle.topology.proofs.joined.ports_of.Given as goal

abbrev pub invariant-loop-region : goal.invariant-loop-region
invariant-loop-region l = l.ports.keys ≡ each_once (map (λ (region : Region). region.port) (take l.region-index l.regions))
