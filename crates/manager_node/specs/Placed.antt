-- Transactions of a script by their places.
use Rattle.std.specs.Prelude.{ℕ, List, Option, Some, None, slice_get}
use Rattle.std.specs.Option.{option_map}
use Rattle.manager_node.specs.Script.{ScriptItem}

-- the transaction at a place, with its place
abbrev pub placed : List ScriptItem → Option ℕ → Option (ℕ × ScriptItem)
placed script None = None
placed script (Some place) = option_map (λ item. (place, item)) (slice_get script place)
