-- Where entries of a key stand in a list in order of issue: AXI answers the requests of one ID in their order, and those
-- of different IDs in any order (Arm IHI 0022, ordering model).
use Rattle.std.specs.Prelude.{ℕ, ◌==◌, if◌then◌else◌, List, [], ◌∷◌, Option, Some, None}
use Rattle.std.proofs.Common.{suc}
use Rattle.std.specs.Option.{option_map}

-- the first place, counted from 0, at which this key stands
abbrev pub place_of : ℕ → List ℕ → Option ℕ
place_of key [] = None
place_of key (k ∷ keys) = if k == key then Some 0 else option_map suc (place_of key keys)
