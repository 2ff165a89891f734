-- What is read of tables and arrays.
use Rattle.std.proofs.Common.{◌≡◌, ℕ, ◌&&◌, ◌||◌, Bool, List, [], ◌∷◌, Option, Some, None, is_some, map, refl, ap, ap₂, sym, ◌∙◌, Bor, string_bytes}
use Rattle.std.specs.Prelude.{String, filter_map}
use Rattle.std.specs.List.{cons_option, list_all, list_any}
use Rattle.std.specs.Map.{keys_of}
use Rattle.std.specs.Str.{bytes_eq}
use Rattle.std.specs.declared.alloc.Global.{Global}
use Rattle.toml.specs.Data.{Data}
use Rattle.toml.specs.View.{items_of, members_view, view}
use Rattle.toml.specs.declared.value.Value.{Value}
use Rattle.topology_text.specs.Form.{table_form}
use Rattle.topology_text.specs.Node.{node_of_text, value_delays}
use Rattle.topology_text.specs.Seen.{row_seen}
use Rattle.topology_text.specs.Shape.{all_read, delay_of, delays_of, elements, has_keys_among, kept, node_of, range_of, region_of}
use Rattle.topology_text.specs.declared.form.Presence.{Presence}
use Rattle.topology_text.specs.declared.form.Presence.TheVariants.{Never, Optional, Required}
use Rattle.topology_text.specs.declared.row.TextRow.{TextRow}

-- the elements of a list as an array
pub elements-items_of : (values : List Data) → elements (items_of values) ≡ values
elements-items_of [] = refl
elements-items_of (value ∷ values) = ap (λ (rest : List Data). value ∷ rest) (elements-items_of values)

any-map : (names : List (Bor (List ℕ))) (key : List ℕ) → list_any (λ name. bytes_eq name.now key) names ≡ list_any (λ name. bytes_eq name key) (map (λ (name : Bor (List ℕ)). name.now) names)
any-map [] key = refl
any-map (name ∷ names) key = ap (λ (rest : Bool). bytes_eq name.now key || rest) (any-map names key)

-- a table's keys are those of its entries
pub keys-among : (names : List (Bor (List ℕ))) (entries : List (String Global × Value)) →
    list_all (λ key. list_any (λ name. bytes_eq name.now (string_bytes key)) names) (keys_of entries) ≡ has_keys_among (map (λ (name : Bor (List ℕ)). name.now) names) (members_view entries)
keys-among names [] = refl
keys-among names (entry ∷ entries) = ap₂ (λ (a b : Bool). a && b) (any-map names (string_bytes entry.0)) (keys-among names entries)

-- a test of all values is one of all their data
all-viewed : (test : Data → Bool) (values : List Value) → list_all (λ value. test (view value)) values ≡ list_all test (map view values)
all-viewed test [] = refl
all-viewed test (value ∷ values) = ap (λ (rest : Bool). test (view value) && rest) (all-viewed test values)

pub read-when : {X : Type 0} (read : Data → Option X) (values : List Value) (found all : Bool) → found ≡ list_all (λ value. is_some (read (view value))) values → found ≡ all →
    kept all (map view values) ≡ all_read read (map view values)
read-when read values found all is same = ap (λ (test : Bool). kept test (map view values)) (sym same ∙ is ∙ all-viewed (λ value. is_some (read value)) values)

-- and what is read of values is read of their data
put_found : {X : Type 0} (found : Option X) (xs ys : List X) → xs ≡ ys → cons_option found xs ≡ cons_option found ys
put_found None xs ys same = same
put_found (Some x) xs ys same = ap (λ rest. x ∷ rest) same

pub read-viewed : {X : Type 0} (read : Data → Option X) (values : List Value) → filter_map (λ value. read (view value)) values ≡ filter_map read (map view values)
read-viewed read [] = refl
read-viewed read (value ∷ values) = put_found (read (view value)) (filter_map (λ value. read (view value)) values) (filter_map read (map view values)) (read-viewed read values)

-- the delays of a node, from values and from their data
pub delays-viewed : (presence : Presence) (values : List Value) → value_delays presence values ≡ delays_of presence (map view values)
delays-viewed Never [] = refl
delays-viewed Never (value ∷ values) = read-viewed delay_of (value ∷ values)
delays-viewed Optional [] = refl
delays-viewed Optional (value ∷ values) = read-viewed delay_of (value ∷ values)
delays-viewed Required [] = refl
delays-viewed Required (value ∷ values) = read-viewed delay_of (value ∷ values)

-- the node of a row
pub node-viewed : (row : TextRow) → node_of_text row ≡ node_of (row_seen row)
node-viewed row =
    ap (λ xs. record (node_of_text row) { region = xs }) (read-viewed region_of row.lists.region.now)
    ∙ ap (λ xs. record (node_of_text row) { region = filter_map region_of (map view row.lists.region.now); read_only = xs }) (read-viewed range_of row.lists.read_only.now)
    ∙ ap (λ xs. record (node_of_text row) { region = filter_map region_of (map view row.lists.region.now); read_only = filter_map range_of (map view row.lists.read_only.now); hole = xs }) (read-viewed range_of row.lists.hole.now)
    ∙ ap₂ (λ xs ys. record (node_of (row_seen row)) { accept = xs; give = ys }) (delays-viewed (table_form row.kind).accept row.lists.accept.now) (delays-viewed (table_form row.kind).give row.lists.give.now)
