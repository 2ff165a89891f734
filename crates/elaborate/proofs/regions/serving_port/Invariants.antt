use Rattle.std.proofs.Common.{◌≡◌, drop}
use Rattle.address_map.specs.Regions.{serving_port}
use Rattle.elaborate.proofs.regions.serving_port.Given as goal

abbrev pub invariant-loop-region : goal.invariant-loop-region
invariant-loop-region l = serving_port (drop l.region-index l.regions) l.addr ≡ serving_port l.regions l.addr
