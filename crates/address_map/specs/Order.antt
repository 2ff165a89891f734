-- Regions in the order of their bases.
use Rattle.std.specs.Prelude.{◌&&◌, ℕ, List, [], ◌∷◌, Bool, true, nat_le}
use Rattle.address_map.specs.Regions.{end_of}
use Rattle.address_map.specs.declared.region.Region.{Region}

-- the first region begins at or above an address, and each other one at or above the end of the one before it
abbrev pub follows : ℕ → List Region → Bool
follows address [] = true
follows address (region ∷ more) = nat_le address region.base && follows (end_of region) more
