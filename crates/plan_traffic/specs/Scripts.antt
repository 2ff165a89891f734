-- The scripts of the managers: the transactions of the traffic, each at its manager.
use Rattle.std.specs.Prelude.{ℕ, List, map}
use Rattle.manager_node.specs.Script.{ScriptItem}
use Rattle.plan_traffic.specs.Accepted.{items_of_manager}
use Rattle.plan_traffic.specs.Traffic.{TrafficItem}

abbrev pub script_item : TrafficItem → ScriptItem
script_item item = record { txn = item.txn; bytes = item.bytes }

-- what the manager of a document node is to do
abbrev pub script_of : List TrafficItem → ℕ → List ScriptItem
script_of items document = map script_item (items_of_manager document items)
