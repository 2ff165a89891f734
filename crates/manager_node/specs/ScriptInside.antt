-- How a script is kept, and what contracts see of it.
use Rattle.std.specs.Prelude.{List, map}
use Rattle.manager_node.specs.Script.{ScriptItem}
use Rattle.manager_node.specs.declared.script.Item.{Item}
use Rattle.manager_node.specs.declared.script.Script.TheInside.{Inside}

-- a transaction with its bytes
abbrev pub item_view : Item → ScriptItem
item_view item = record { txn = item.txn; bytes = item.bytes.items }

-- all of them, in their order
abbrev pub script_view : Inside → List ScriptItem
script_view s = map item_view s.items.items
