-- A node and its regions as the code keeps them, seen as those of a document.
use Rattle.std.specs.Prelude.{ℕ, List, [], ◌∷◌, filter_map, string_bytes}
use Rattle.toml.specs.View.{view}
use Rattle.toml.specs.declared.value.Value.{Value}
use Rattle.topology_text.specs.Document.{DocumentNode, NamedRegion}
use Rattle.topology_text.specs.Form.{table_form}
use Rattle.topology_text.specs.Shape.{delay_of, range_of, region_of}
use Rattle.topology_text.specs.declared.form.Presence.{Presence}
use Rattle.topology_text.specs.declared.form.Presence.TheVariants.{Never}
use Rattle.topology_text.specs.declared.node.NamedSpan.TheInside as span
use Rattle.topology_text.specs.declared.node.Node.TheInside as node
use Rattle.topology_text.specs.declared.row.TextRow.{TextRow}

abbrev pub region_kept : span.Inside → NamedRegion
region_kept kept = record { base = kept.base; size = kept.size; to = string_bytes kept.to }

abbrev pub node_kept : node.Inside → DocumentNode
node_kept kept = record {
  name = string_bytes kept.name;
  kind = kept.kind;
  to = string_bytes kept.to;
  region = kept.region.items;
  bus = kept.numbers.bus;
  id_width = kept.numbers.id_width;
  depth = kept.numbers.depth;
  base = kept.numbers.base;
  size = kept.numbers.size;
  fill = kept.numbers.fill;
  read_only = kept.read_only.items;
  hole = kept.hole.items;
  accept = kept.accept.items;
  give = kept.give.items;
}

-- the node of a row whose lists are values
abbrev pub value_delays : Presence → List Value → List ℕ
value_delays Never [] = []
value_delays presence [] = 0 ∷ []
value_delays presence (value ∷ values) = filter_map (λ value. delay_of (view value)) (value ∷ values)

abbrev pub node_of_text : TextRow → DocumentNode
node_of_text row = record {
  name = row.name.now;
  kind = row.kind;
  to = row.to.now;
  region = filter_map (λ value. region_of (view value)) row.lists.region.now;
  bus = row.numbers.bus;
  id_width = row.numbers.id_width;
  depth = row.numbers.depth;
  base = row.numbers.base;
  size = row.numbers.size;
  fill = row.numbers.fill;
  read_only = filter_map (λ value. range_of (view value)) row.lists.read_only.now;
  hole = filter_map (λ value. range_of (view value)) row.lists.hole.now;
  accept = value_delays (table_form row.kind).accept row.lists.accept.now;
  give = value_delays (table_form row.kind).give row.lists.give.now;
}
