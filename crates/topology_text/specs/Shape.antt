-- The shape of a document: which tables are read as nodes, with which keys.
use Rattle.std.specs.Prelude.{◌==◌, ◌+◌, ◌-◌, ◌^◌, ◌&&◌, ◌||◌, ◌++◌, ℕ, pos, Bool, true, false, List, [], ◌∷◌, Option, Some, None, Result, Ok, Err, codes, filter_map, is_some, length, nat_le, option_map, if◌then◌else◌}
use Rattle.std.specs.List.{list_all, list_any}
use Rattle.std.specs.Str.{bytes_eq}
use Rattle.axi_beats.specs.Bus.{is_bus_width}
use Rattle.plain_text.specs.Exact.{◌>>=◌}
use Rattle.toml.specs.Data.{Data, integer, Items, no_items, item, Members, no_members, member, as_array, as_str, as_table, get_member}
use Rattle.topology_text.specs.Document.{DocumentNode, NamedRegion}
use Rattle.topology_text.specs.Form.{kind_named, table_form}
use Rattle.topology_text.specs.declared.form.Form.{Form}
use Rattle.topology_text.specs.declared.value.Limits.{Limits}
use Rattle.topology_text.specs.declared.row.Numbers.{Numbers}
use Rattle.topology_text.specs.declared.form.Presence.{Presence}
use Rattle.topology_text.specs.declared.form.Presence.TheVariants.{Never, Required}
use Rattle.topology_text.specs.declared.kind.Kind.{Kind}
use Rattle.topology_text.specs.declared.kind.Span.{Span}

-- ---- values

-- an integer that isn't below 0
abbrev pub natural : Data → Option ℕ
natural (integer (pos n)) = Some n
natural other = None

-- a value, where a test of it holds
abbrev pub kept : {X : Type 0} → Bool → X → Option X
kept true x = Some x
kept false x = None

-- such an integer within limits
abbrev pub natural_within : ℕ → ℕ → Data → Option ℕ
natural_within least most value = natural value >>= λ n. kept (nat_le least n && nat_le n most) n

-- the elements of an array, in their order
abbrev pub elements : Items → List Data
elements no_items = []
elements (item value values) = value ∷ elements values

-- the table has no other keys than these
abbrev pub has_keys_among : List (List ℕ) → Members → Bool
has_keys_among names no_members = true
has_keys_among names (member key value members) = list_any (λ name. bytes_eq name key) names && has_keys_among names members

-- the keys of tables
abbrev pub top_keys : List (List ℕ)
top_keys = codes "version" ∷ codes "node" ∷ []

abbrev pub node_keys : List (List ℕ)
node_keys =
    codes "name" ∷ codes "kind" ∷ codes "to" ∷ codes "region" ∷ codes "bus" ∷ codes "id_width" ∷ codes "depth" ∷ codes "base" ∷ codes "size" ∷ codes "fill"
    ∷ codes "read_only" ∷ codes "hole" ∷ codes "accept" ∷ codes "give" ∷ []

abbrev pub range_keys : List (List ℕ)
range_keys = codes "base" ∷ codes "size" ∷ []

abbrev pub region_keys : List (List ℕ)
region_keys = codes "base" ∷ codes "size" ∷ codes "to" ∷ []

-- the numbers that may stand at a key, and its default
-- (no kind may leave `bus` or `id_width` out, so that their defaults are never taken)
abbrev pub bus_limits : Limits
bus_limits = record { least = 4; most = 128; default = 4 }

abbrev pub id_width_limits : Limits
id_width_limits = record { least = 0; most = 16; default = 0 }

abbrev pub depth_limits : Limits
depth_limits = record { least = 1; most = 16; default = 2 }

abbrev pub fill_limits : Limits
fill_limits = record { least = 0; most = 255; default = 0 }

abbrev pub version_limits : Limits
version_limits = record { least = 1; most = 1; default = 0 }

-- any number that a text can have, and any number of elements
abbrev pub any_number : Limits
any_number = record { least = 0; most = 2 ^ 64 - 1; default = 0 }

abbrev pub any_count : ℕ
any_count = 2 ^ 64 - 1

-- a name is a lower-case letter, followed by at most 31 lower-case letters, digits or underscores
abbrev pub is_small_letter : ℕ → Bool
is_small_letter code = nat_le 97 code && nat_le code 122

abbrev pub is_name_code : ℕ → Bool
is_name_code code = is_small_letter code || nat_le 48 code && nat_le code 57 || code == 95

abbrev pub is_name : List ℕ → Bool
is_name [] = false
is_name (first ∷ more) = is_small_letter first && nat_le (length more) 31 && list_all is_name_code more

-- ---- the values of keys

-- What stands at a key, where it may stand so: nothing may where the kind doesn't have the key, and something must where
-- the kind requires it.
abbrev pub permitted : Presence → Option Data → Option (Option Data)
permitted Never (Some value) = None
permitted Required None = None
permitted presence value = Some value

-- The least and the greatest number that may stand at a key, and its default. The default of a key that the kind doesn't
-- have is 0.
abbrev pub default_of : Presence → Limits → ℕ
default_of Never limits = 0
default_of presence limits = limits.default

abbrev pub number_of : Presence → Limits → Option Data → Option ℕ
number_of presence limits None = Some (default_of presence limits)
number_of presence limits (Some value) = natural_within limits.least limits.most value

unfoldable pub number_at : List ℕ → Presence → Limits → Members → Option ℕ
number_at key presence limits members = do
  value ← permitted presence (get_member key members)
  number_of presence limits value

-- a text, which is empty where none stands there
abbrev pub text_or_empty : Option Data → Option (List ℕ)
text_or_empty None = Some []
text_or_empty (Some value) = as_str value

unfoldable pub text_at : List ℕ → Presence → Members → Option (List ℕ)
text_at key presence members = do
  value ← permitted presence (get_member key members)
  text_or_empty value

-- the elements of an array of so many at least and at most; none where no array stands there
abbrev pub counted : ℕ → ℕ → List Data → Option (List Data)
counted least most values = if nat_le least (length values) && nat_le (length values) most then Some values else None

abbrev pub array_of : ℕ → ℕ → Data → Option (List Data)
array_of least most value = option_map elements (as_array value) >>= counted least most

abbrev pub list_of : ℕ → ℕ → Option Data → Option (List Data)
list_of least most None = Some []
list_of least most (Some value) = array_of least most value

unfoldable pub list_at : List ℕ → Presence → ℕ → ℕ → Members → Option (List Data)
list_at key presence least most members = do
  value ← permitted presence (get_member key members)
  list_of least most value

-- ---- the elements of lists

-- a table with exactly the keys `base`, `size` and `to`
unfoldable pub region_in : Members → Option NamedRegion
region_in members = do
  base ← number_at (codes "base") Required any_number members
  size ← number_at (codes "size") Required any_number members
  to ← text_at (codes "to") Required members
  kept (has_keys_among region_keys members) (record { base = base; size = size; to = to })

abbrev pub region_of : Data → Option NamedRegion
region_of value = as_table value >>= region_in

-- a table with exactly the keys `base` and `size`
unfoldable pub range_in : Members → Option Span
range_in members = do
  base ← number_at (codes "base") Required any_number members
  size ← number_at (codes "size") Required any_number members
  kept (has_keys_among range_keys members) (record { base = base; size = size })

abbrev pub range_of : Data → Option Span
range_of value = as_table value >>= range_in

-- an integer from 0 to 63
abbrev pub delay_of : Data → Option ℕ
delay_of value = natural_within 0 63 value

-- all elements are of a form
abbrev pub all_read : {X : Type 0} → (Data → Option X) → List Data → Option (List Data)
all_read read values = kept (list_all (λ value. is_some (read value)) values) values

-- ---- the table of a node

unfoldable pub numbers_in : Form → Members → Option Numbers
numbers_in form members = do
  bus ← number_at (codes "bus") form.bus bus_limits members
  width ← kept (bus == 0 || is_bus_width bus) bus
  id_width ← number_at (codes "id_width") form.id_width id_width_limits members
  depth ← number_at (codes "depth") form.depth depth_limits members
  base ← number_at (codes "base") form.base any_number members
  size ← number_at (codes "size") form.size any_number members
  fill ← number_at (codes "fill") form.fill fill_limits members
  Some (record { bus = width; id_width = id_width; depth = depth; base = base; size = size; fill = fill })

-- the lists of a table, each as its elements
pub record TableLists : Type 0 where
  pub region : List Data
  pub read_only : List Data
  pub hole : List Data
  pub accept : List Data
  pub give : List Data

unfoldable pub table_lists : Form → Members → Option TableLists
table_lists form members = do
  region ← list_at (codes "region") form.region 1 any_count members >>= all_read region_of
  read_only ← list_at (codes "read_only") form.read_only 0 any_count members >>= all_read range_of
  hole ← list_at (codes "hole") form.hole 0 any_count members >>= all_read range_of
  accept ← list_at (codes "accept") form.accept 1 64 members >>= all_read delay_of
  give ← list_at (codes "give") form.give 1 64 members >>= all_read delay_of
  Some (record { region = region; read_only = read_only; hole = hole; accept = accept; give = give })

-- a table whose keys are those of its kind
pub record Row : Type 0 where
  pub kind : Kind
  pub name : List ℕ
  pub to : List ℕ
  pub numbers : Numbers
  pub lists : TableLists

unfoldable pub row_in : Members → Option Row
row_in members = do
  kind_text ← text_at (codes "kind") Required members
  kind ← kind_named kind_text
  name_text ← text_at (codes "name") Required members
  name ← kept (is_name name_text) name_text
  to ← text_at (codes "to") (table_form kind).to members
  numbers ← numbers_in (table_form kind) members
  lists ← table_lists (table_form kind) members
  kept (has_keys_among node_keys members) (record { kind = kind; name = name; to = to; numbers = numbers; lists = lists })

-- the delays of a node; where none are given, the default of a kind that has them is no delay
abbrev pub delays_of : Presence → List Data → List ℕ
delays_of Never [] = []
delays_of presence [] = 0 ∷ []
delays_of presence (value ∷ values) = filter_map delay_of (value ∷ values)

-- the node of a row
abbrev pub node_of : Row → DocumentNode
node_of row = record {
  name = row.name;
  kind = row.kind;
  to = row.to;
  region = filter_map region_of row.lists.region;
  bus = row.numbers.bus;
  id_width = row.numbers.id_width;
  depth = row.numbers.depth;
  base = row.numbers.base;
  size = row.numbers.size;
  fill = row.numbers.fill;
  read_only = filter_map range_of row.lists.read_only;
  hole = filter_map range_of row.lists.hole;
  accept = delays_of (table_form row.kind).accept row.lists.accept;
  give = delays_of (table_form row.kind).give row.lists.give;
}

-- ---- the document

-- the tables of the array `node`; the top level has the integer 1 as `version`, and no third key
unfoldable pub tables_in : Members → Option (List Data)
tables_in members = do
  version ← number_at (codes "version") Required version_limits members
  tables ← list_at (codes "node") Required 1 any_count members >>= all_read as_table
  kept (has_keys_among top_keys members) tables

-- the node that a table is read as
abbrev pub row_of : Data → Option Row
row_of value = as_table value >>= row_in

abbrev pub node_in : Data → Option DocumentNode
node_in value = option_map node_of (row_of value)

-- The nodes that tables are read as, or the number of the first table that isn't of its shape.
abbrev pub with_front : List DocumentNode → Result (List DocumentNode) ℕ → Result (List DocumentNode) ℕ
with_front front (Ok nodes) = Ok (front ++ nodes)
with_front front (Err number) = Err number

abbrev pub and_then_nodes : ℕ → Option DocumentNode → Result (List DocumentNode) ℕ → Result (List DocumentNode) ℕ
and_then_nodes number None more = Err number
and_then_nodes number (Some node) more = with_front (node ∷ []) more

abbrev pub read_tables : ℕ → List Data → Result (List DocumentNode) ℕ
read_tables number [] = Ok []
read_tables number (first ∷ tables) = and_then_nodes number (node_in first) (read_tables (number + 1) tables)

-- The nodes of a document, or the number of the first table that isn't of its shape: its nodes are numbered from 1, and 0
-- is the top level.
abbrev pub read_top : Option (List Data) → Result (List DocumentNode) ℕ
read_top None = Err 0
read_top (Some tables) = read_tables 1 tables

abbrev pub document_in : Members → Result (List DocumentNode) ℕ
document_in members = read_top (tables_in members)
