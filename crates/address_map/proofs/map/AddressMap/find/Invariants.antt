use Rattle.std.proofs.Common.{◌≡◌, drop}
use Rattle.address_map.specs.Regions.{serving_port}
use Rattle.address_map.proofs.map.AddressMap.find.Given as goal

abbrev pub invariant-loop-region : goal.invariant-loop-region
invariant-loop-region l = serving_port (drop l.region-index l.region-items) l.addr ≡ serving_port l.region-items l.addr
