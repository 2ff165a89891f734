-- The place of the oldest write that lacks data.
use Rattle.std.specs.Prelude.{ℕ, suc, [], ◌∷◌, List, Option, Some, None, option_map, if◌then◌else◌}
use Rattle.subordinate.specs.SubordinateTable.{lacks_data}
use Rattle.subordinate.specs.declared.entry.WriteEntry.{WriteEntry}

abbrev pub lacking_place : List WriteEntry → Option ℕ
lacking_place [] = None
lacking_place (entry ∷ entries) = if lacks_data entry then Some 0 else option_map suc (lacking_place entries)
