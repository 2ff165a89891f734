-- How transactions are kept, and the list that they stand for.
use Rattle.std.specs.Prelude.{List, map}
use Rattle.plan_traffic.specs.Traffic.{TrafficItem}
use Rattle.plan_traffic.specs.declared.build.Item.{Item}

abbrev pub traffic_item : Item → TrafficItem
traffic_item item = record { manager = item.manager; txn = item.txn; bytes = item.bytes.items }

abbrev pub traffic_items : List Item → List TrafficItem
traffic_items items = map traffic_item items
