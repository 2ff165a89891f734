-- What is read of a text, seen as the definitions have it.
use Rattle.std.specs.Prelude.{ℕ, List, Result, Ok, Err, Vec, map}
use Rattle.std.specs.declared.alloc.Global.{Global}
use Rattle.toml.specs.View.{view}
use Rattle.topology_text.specs.Shape.{Row, TableLists}
use Rattle.topology_text.specs.Document.{DocumentNode, NamedRegion}
use Rattle.topology_text.specs.declared.element.TextRegion.{TextRegion}
use Rattle.topology_text.specs.declared.row.TextLists.{TextLists}
use Rattle.topology_text.specs.declared.row.TextRow.{TextRow}

abbrev pub region_seen : TextRegion → NamedRegion
region_seen region = record { base = region.base; size = region.size; to = region.to.now }

abbrev pub lists_seen : TextLists → TableLists
lists_seen lists = record {
  region = map view lists.region.now;
  read_only = map view lists.read_only.now;
  hole = map view lists.hole.now;
  accept = map view lists.accept.now;
  give = map view lists.give.now;
}

abbrev pub row_seen : TextRow → Row
row_seen row = record { kind = row.kind; name = row.name.now; to = row.to.now; numbers = row.numbers; lists = lists_seen row.lists }

-- what tables are read as
abbrev pub read_items : Result (Vec DocumentNode Global) ℕ → Result (List DocumentNode) ℕ
read_items (Ok nodes) = Ok nodes.items
read_items (Err number) = Err number
