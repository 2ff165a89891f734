-- What a list of regions comes to where a map of it is asked for.
use Rattle.std.specs.Prelude.{◌≡◌, ⊤, List, Some, false, position}
use Rattle.std.specs.List.{list_any}
use Rattle.address_map.specs.Regions.{has_overlap, is_bad_region, IsLeastOverlap}
use Rattle.address_map.specs.declared.map.MapFault.{MapFault}
use Rattle.address_map.specs.declared.map.MapFault.TheVariants.{BadRegion, Overlap, NoMemory}
use Rattle.address_map.specs.declared.region.Region.{Region}

-- no region is bad, and no two of them share an address
pub record IsMappable (regions : List Region) : Type 0 where
  pub good : list_any is_bad_region regions ≡ false
  pub apart : has_overlap regions ≡ false

-- Why there is no map: the first region that is bad, else the least pair that shares an address, unless there was no
-- memory.
abbrev pub IsFaultOf : List Region → MapFault → Type 0
IsFaultOf regions (BadRegion number) = position is_bad_region regions ≡ Some number
IsFaultOf regions (Overlap first second) = (list_any is_bad_region regions ≡ false) × IsLeastOverlap regions first second
IsFaultOf regions NoMemory = ⊤
