-- The nodes that are read of a text are formed.
use Rattle.std.proofs.Common.{◌≡◌, ◌≤◌, ◌==◌, ◌||◌, ◌&&◌, ◌+◌, ℕ, suc, Bool, true, false, cond, List, [], ◌∷◌, Option, Some, None, Result, Ok, Err, is_some, length, filter_map, nat_le, refl, ap, sym, subst, arith}
use Rattle.std.specs.Prelude.{codes, option_map}
use Rattle.std.specs.List.{AllByRecursion, cons_option, list_all}
use Rattle.std.proofs.lemmas.List.Elements.{All-from_recursion}
use Rattle.std.proofs.lemmas.Bool.{false≢true, leb-true}
use Rattle.axi_beats.specs.Bus.{is_bus_width}
use Rattle.plain_text.specs.Exact.{◌>>=◌}
use Rattle.plain_text.proofs.FieldLaws.{bind_some, some_is}
use Rattle.toml.specs.Data.{Data, Members, as_array, as_table, get_member}
use Rattle.topology_text.specs.Document.{DocumentNode}
use Rattle.topology_text.specs.Form.{kind_named, table_form}
use Rattle.topology_text.specs.Formed.{AreDelays, AreDelaysAt, AreFormed, IsFormed, IsListAt, IsNumberAt}
use Rattle.topology_text.specs.Shape.{Row, TableLists, all_read, and_then_nodes, any_count, any_number, array_of, bus_limits, counted, delay_of, delays_of, depth_limits, document_in, elements, fill_limits, has_keys_among, id_width_limits, is_name, kept, list_at, list_of, natural, natural_within, node_in, node_keys, node_of, number_at, number_of, numbers_in, permitted, range_of, read_tables, read_top, region_of, row_in, row_of, table_lists, tables_in, text_at, text_or_empty}
use Rattle.topology_text.specs.Text.{or_bad_key}
use Rattle.topology_text.specs.declared.form.Form.{Form}
use Rattle.topology_text.specs.declared.form.Presence.{Presence}
use Rattle.topology_text.specs.declared.form.Presence.TheVariants.{Never, Optional, Required}
use Rattle.topology_text.specs.declared.row.Numbers.{Numbers}
use Rattle.topology_text.specs.declared.value.Limits.{Limits}

-- ---- values

kept-some : {X : Type 0} (b : Bool) (x y : X) → kept b x ≡ Some y → (b ≡ true) × (x ≡ y)
kept-some true x y e = (refl, some_is x y e)
kept-some false x y e = absurd cc

both : (a b : Bool) → (a && b) ≡ true → (a ≡ true) × (b ≡ true)
both true b e = (refl, e)
both false b e = absurd (false≢true e)

record IsWithin (limits : Limits) (n : ℕ) : Type 0 where
  above : limits.least ≤ n
  below : n ≤ limits.most

within-natural : (least most : ℕ) (value : Data) (n : ℕ) → natural_within least most value ≡ Some n → (least ≤ n) × (n ≤ most)
within-natural least most value n e =
    let found = bind_some (natural value) (λ m. kept (nat_le least m && nat_le m most) m) n e in
    let holds = kept-some (nat_le least found.0 && nat_le found.0 most) found.0 n found.2 in
    let parts = both (nat_le least found.0) (nat_le found.0 most) holds.0 in
    let low : least ≤ found.0 = leb-true least found.0 parts.0 in
    let high : found.0 ≤ most = leb-true found.0 most parts.1 in
    let same : found.0 ≡ n = holds.1 in
    (omega (arith, low, same), omega (arith, high, same))

number-formed : (presence : Presence) (limits : Limits) (found : Option Data) (n : ℕ) → limits.least ≤ limits.default → limits.default ≤ limits.most →
    (permitted presence found >>= number_of presence limits) ≡ Some n → IsNumberAt presence limits n
number-formed Never limits None n low high e = sym (some_is 0 n e)
number-formed Never limits (Some value) n low high e = absurd cc
number-formed Optional limits None n low high e = subst (λ (m : ℕ). (limits.least ≤ m) × (m ≤ limits.most)) (some_is limits.default n e) (low, high)
number-formed Optional limits (Some value) n low high e = within-natural limits.least limits.most value n e
number-formed Required limits None n low high e = absurd cc
number-formed Required limits (Some value) n low high e = within-natural limits.least limits.most value n e

number_at-formed : (key : List ℕ) (presence : Presence) (limits : Limits) (members : Members) (n : ℕ) → limits.least ≤ limits.default → limits.default ≤ limits.most →
    number_at key presence limits members ≡ Some n → IsNumberAt presence limits n
unfolding number_at
number_at-formed key presence limits members n low high e = number-formed presence limits (get_member key members) n low high e

text-formed : (presence : Presence) (found : Option Data) (text : List ℕ) → (permitted presence found >>= text_or_empty) ≡ Some text → IsListAt presence 0 text
text-formed Never None text e = sym (some_is [] text e)
text-formed Never (Some value) text e = absurd cc
text-formed Optional found text e = tt
text-formed Required found text e = omega arith

text_at-formed : (key : List ℕ) (presence : Presence) (members : Members) (text : List ℕ) → text_at key presence members ≡ Some text → IsListAt presence 0 text
unfolding text_at
text_at-formed key presence members text e = text-formed presence (get_member key members) text e

-- ---- lists

cond-some : {X : Type 0} (b : Bool) (x y : X) → cond b (Some x) None ≡ Some y → (b ≡ true) × (x ≡ y)
cond-some true x y e = (refl, some_is x y e)
cond-some false x y e = absurd cc

counted-list : (least most : ℕ) (value : Data) (xs : List Data) → array_of least most value ≡ Some xs → (least ≤ length xs) × (length xs ≤ most)
counted-list least most value xs e =
    let found = bind_some (option_map elements (as_array value)) (counted least most) xs e in
    let holds = cond-some (nat_le least (length found.0) && nat_le (length found.0) most) found.0 xs found.2 in
    let parts = both (nat_le least (length found.0)) (nat_le (length found.0) most) holds.0 in
    let low : least ≤ length found.0 = leb-true least (length found.0) parts.0 in
    let high : length found.0 ≤ most = leb-true (length found.0) most parts.1 in
    subst (λ (ys : List Data). (least ≤ length ys) × (length ys ≤ most)) holds.1 (low, high)

list-formed : (presence : Presence) (least most : ℕ) (found : Option Data) (xs : List Data) → (permitted presence found >>= list_of least most) ≡ Some xs →
    IsListAt presence least xs × (length xs ≤ most)
list-formed Never least most None xs e = (sym (some_is [] xs e), subst (λ (ys : List Data). length ys ≤ most) (some_is [] xs e) (omega arith))
list-formed Never least most (Some value) xs e = absurd cc
list-formed Optional least most None xs e = (tt, subst (λ (ys : List Data). length ys ≤ most) (some_is [] xs e) (omega arith))
list-formed Optional least most (Some value) xs e = (tt, (counted-list least most value xs e).1)
list-formed Required least most None xs e = absurd cc
list-formed Required least most (Some value) xs e = counted-list least most value xs e

-- what is read of a list all of whose elements can be read
record AreRead {X : Type 0} (read : Data → Option X) (presence : Presence) (least most : ℕ) (xs : List Data) : Type 0 where
  at : IsListAt presence least xs
  few : length xs ≤ most
  all : list_all (λ value. is_some (read value)) xs ≡ true

lists-formed : {X : Type 0} (read : Data → Option X) (key : List ℕ) (presence : Presence) (least most : ℕ) (members : Members) (xs : List Data) →
    (list_at key presence least most members >>= all_read read) ≡ Some xs → AreRead read presence least most xs
unfolding list_at
lists-formed read key presence least most members xs e =
    let found = bind_some (list_at key presence least most members) (all_read read) xs e in
    let formed = list-formed presence least most (get_member key members) found.0 found.1 in
    let holds = kept-some (list_all (λ value. is_some (read value)) found.0) found.0 xs found.2 in
    subst (λ (ys : List Data). AreRead read presence least most ys) holds.1 (record { at = formed.0; few = formed.1; all = holds.0 })

put-long : {X : Type 0} (o : Option X) (rest : List X) (n : ℕ) → is_some o ≡ true → length rest ≡ n → length (cons_option o rest) ≡ suc n
put-long None rest n e long = absurd (false≢true e)
put-long (Some x) rest n e long = ap suc long

read-long : {X : Type 0} (read : Data → Option X) (xs : List Data) → list_all (λ value. is_some (read value)) xs ≡ true → length (filter_map read xs) ≡ length xs
read-long read [] e = refl
read-long read (x ∷ xs) e =
    let parts = both (is_some (read x)) (list_all (λ value. is_some (read value)) xs) e in
    put-long (read x) (filter_map read xs) (length xs) parts.0 (read-long read xs parts.1)

list-kept : {X : Type 0} (read : Data → Option X) (presence : Presence) (least : ℕ) (xs : List Data) → list_all (λ value. is_some (read value)) xs ≡ true →
    IsListAt presence least xs → IsListAt presence least (filter_map read xs)
list-kept read Never least xs all at = subst (λ (ys : List Data). filter_map read ys ≡ []) (sym at) refl
list-kept read Optional least xs all at = tt
list-kept read Required least xs all at = subst (λ (n : ℕ). least ≤ n) (sym (read-long read xs all)) at

-- ---- delays

put-short : (o : Option ℕ) (rest : List ℕ) → ((n : ℕ) → o ≡ Some n → n ≤ 63) → AllByRecursion (λ delay. delay ≤ 63) rest → AllByRecursion (λ delay. delay ≤ 63) (cons_option o rest)
put-short None rest small more = more
put-short (Some n) rest small more = (small n refl, more)

all-short : (xs : List Data) → AllByRecursion (λ delay. delay ≤ 63) (filter_map delay_of xs)
all-short [] = tt
all-short (x ∷ xs) = put-short (delay_of x) (filter_map delay_of xs) (λ n e. (within-natural 0 63 x n e).1) (all-short xs)

given-delays : (x : Data) (xs : List Data) → AreRead delay_of Optional 1 64 (x ∷ xs) → AreDelays (filter_map delay_of (x ∷ xs))
given-delays x xs are =
    let long : length (filter_map delay_of (x ∷ xs)) ≡ length (x ∷ xs) = read-long delay_of (x ∷ xs) are.all in
    record {
      some = subst (λ (n : ℕ). 1 ≤ n) (sym long) (omega arith);
      few = subst (λ (n : ℕ). n ≤ 64) (sym long) are.few;
      short = All-from_recursion (λ (delay : ℕ). delay ≤ 63) (filter_map delay_of (x ∷ xs)) (all-short (x ∷ xs));
    }

no_delay : AreDelays (0 ∷ [])
no_delay = record { some = omega arith; few = omega arith; short = All-from_recursion (λ (delay : ℕ). delay ≤ 63) (0 ∷ []) (omega arith, tt) }

delays-formed : (presence : Presence) (xs : List Data) → AreRead delay_of presence 1 64 xs → AreDelaysAt presence (delays_of presence xs)
delays-formed Never [] are = refl
delays-formed Never (x ∷ xs) are = absurd (cons-nil are.at)
  where
    cons-nil : x ∷ xs ≡ [] → ⊥
    cons-nil e = cc
delays-formed Optional [] are = no_delay
delays-formed Optional (x ∷ xs) are = given-delays x xs are
delays-formed Required [] are = no_delay
delays-formed Required (x ∷ xs) are = given-delays x xs (record { at = tt; few = are.few; all = are.all })

-- ---- the table of a node

record AreNumbers (form : Form) (numbers : Numbers) : Type 0 where
  bus : IsNumberAt form.bus bus_limits numbers.bus
  bus_is_width : (numbers.bus == 0 || is_bus_width numbers.bus) ≡ true
  id_width : IsNumberAt form.id_width id_width_limits numbers.id_width
  depth : IsNumberAt form.depth depth_limits numbers.depth
  base : IsNumberAt form.base any_number numbers.base
  size : IsNumberAt form.size any_number numbers.size
  fill : IsNumberAt form.fill fill_limits numbers.fill

numbers-formed : (form : Form) (members : Members) (numbers : Numbers) → numbers_in form members ≡ Some numbers → AreNumbers form numbers
unfolding numbers_in
numbers-formed form members numbers e =
    let bus = bind_some (number_at (codes "bus") form.bus bus_limits members) _ numbers e in
    let width = bind_some (kept (bus.0 == 0 || is_bus_width bus.0) bus.0) _ numbers bus.2 in
    let id_width = bind_some (number_at (codes "id_width") form.id_width id_width_limits members) _ numbers width.2 in
    let depth = bind_some (number_at (codes "depth") form.depth depth_limits members) _ numbers id_width.2 in
    let base = bind_some (number_at (codes "base") form.base any_number members) _ numbers depth.2 in
    let size = bind_some (number_at (codes "size") form.size any_number members) _ numbers base.2 in
    let fill = bind_some (number_at (codes "fill") form.fill fill_limits members) _ numbers size.2 in
    let same_bus = kept-some (bus.0 == 0 || is_bus_width bus.0) bus.0 width.0 width.1 in
    subst (λ (n : Numbers). AreNumbers form n) (some_is _ numbers fill.2) (record {
      bus = subst (λ (b : ℕ). IsNumberAt form.bus bus_limits b) same_bus.1 (number_at-formed (codes "bus") form.bus bus_limits members bus.0 (omega arith) (omega arith) bus.1);
      bus_is_width = subst (λ (b : ℕ). (b == 0 || is_bus_width b) ≡ true) same_bus.1 same_bus.0;
      id_width = number_at-formed (codes "id_width") form.id_width id_width_limits members id_width.0 (omega arith) (omega arith) id_width.1;
      depth = number_at-formed (codes "depth") form.depth depth_limits members depth.0 (omega arith) (omega arith) depth.1;
      base = number_at-formed (codes "base") form.base any_number members base.0 (omega arith) (omega arith) base.1;
      size = number_at-formed (codes "size") form.size any_number members size.0 (omega arith) (omega arith) size.1;
      fill = number_at-formed (codes "fill") form.fill fill_limits members fill.0 (omega arith) (omega arith) fill.1;
    })

record AreLists (form : Form) (lists : TableLists) : Type 0 where
  region : AreRead region_of form.region 1 any_count lists.region
  read_only : AreRead range_of form.read_only 0 any_count lists.read_only
  hole : AreRead range_of form.hole 0 any_count lists.hole
  accept : AreRead delay_of form.accept 1 64 lists.accept
  give : AreRead delay_of form.give 1 64 lists.give

table_lists-formed : (form : Form) (members : Members) (lists : TableLists) → table_lists form members ≡ Some lists → AreLists form lists
unfolding table_lists
table_lists-formed form members lists e =
    let region = bind_some (list_at (codes "region") form.region 1 any_count members >>= all_read region_of) _ lists e in
    let read_only = bind_some (list_at (codes "read_only") form.read_only 0 any_count members >>= all_read range_of) _ lists region.2 in
    let hole = bind_some (list_at (codes "hole") form.hole 0 any_count members >>= all_read range_of) _ lists read_only.2 in
    let accept = bind_some (list_at (codes "accept") form.accept 1 64 members >>= all_read delay_of) _ lists hole.2 in
    let give = bind_some (list_at (codes "give") form.give 1 64 members >>= all_read delay_of) _ lists accept.2 in
    subst (λ (l : TableLists). AreLists form l) (some_is _ lists give.2) (record {
      region = lists-formed region_of (codes "region") form.region 1 any_count members region.0 region.1;
      read_only = lists-formed range_of (codes "read_only") form.read_only 0 any_count members read_only.0 read_only.1;
      hole = lists-formed range_of (codes "hole") form.hole 0 any_count members hole.0 hole.1;
      accept = lists-formed delay_of (codes "accept") form.accept 1 64 members accept.0 accept.1;
      give = lists-formed delay_of (codes "give") form.give 1 64 members give.0 give.1;
    })

record IsFormedRow (row : Row) : Type 0 where
  name : is_name row.name ≡ true
  to : IsListAt (table_form row.kind).to 0 row.to
  numbers : AreNumbers (table_form row.kind) row.numbers
  lists : AreLists (table_form row.kind) row.lists

row-formed : (members : Members) (row : Row) → row_in members ≡ Some row → IsFormedRow row
unfolding row_in
row-formed members row e =
    let kind_text = bind_some (text_at (codes "kind") Required members) _ row e in
    let kind = bind_some (kind_named kind_text.0) _ row kind_text.2 in
    let name_text = bind_some (text_at (codes "name") Required members) _ row kind.2 in
    let name = bind_some (kept (is_name name_text.0) name_text.0) _ row name_text.2 in
    let to = bind_some (text_at (codes "to") (table_form kind.0).to members) _ row name.2 in
    let numbers = bind_some (numbers_in (table_form kind.0) members) _ row to.2 in
    let lists = bind_some (table_lists (table_form kind.0) members) _ row numbers.2 in
    let holds = kept-some (has_keys_among node_keys members) _ row lists.2 in
    let is = kept-some (is_name name_text.0) name_text.0 name.0 name.1 in
    subst (λ (r : Row). IsFormedRow r) holds.1 (record {
      name = subst (λ (n : List ℕ). is_name n ≡ true) is.1 is.0;
      to = text_at-formed (codes "to") (table_form kind.0).to members to.0 to.1;
      numbers = numbers-formed (table_form kind.0) members numbers.0 numbers.1;
      lists = table_lists-formed (table_form kind.0) members lists.0 lists.1;
    })

node-formed : (row : Row) → IsFormedRow row → IsFormed (node_of row)
node-formed row formed = record {
  name = formed.name;
  to = formed.to;
  region = list-kept region_of (table_form row.kind).region 1 row.lists.region formed.lists.region.all formed.lists.region.at;
  bus = formed.numbers.bus;
  bus_is_width = formed.numbers.bus_is_width;
  id_width = formed.numbers.id_width;
  depth = formed.numbers.depth;
  base = formed.numbers.base;
  size = formed.numbers.size;
  fill = formed.numbers.fill;
  read_only = list-kept range_of (table_form row.kind).read_only 0 row.lists.read_only formed.lists.read_only.all formed.lists.read_only.at;
  hole = list-kept range_of (table_form row.kind).hole 0 row.lists.hole formed.lists.hole.all formed.lists.hole.at;
  accept = delays-formed (table_form row.kind).accept row.lists.accept formed.lists.accept;
  give = delays-formed (table_form row.kind).give row.lists.give formed.lists.give;
}

-- ---- the document

mapped : (o : Option Row) (node : DocumentNode) → option_map node_of o ≡ Some node → (row : Row) × (o ≡ Some row) × (node_of row ≡ node)
mapped None node e = absurd cc
mapped (Some row) node e = (row, refl, some_is (node_of row) node e)

table-formed : (value : Data) (node : DocumentNode) → node_in value ≡ Some node → IsFormed node
table-formed value node e =
    let made = mapped (row_of value) node e in
    let row = bind_some (as_table value) row_in made.0 made.1 in
    subst (λ (n : DocumentNode). IsFormed n) made.2 (node-formed made.0 (row-formed row.0 made.0 row.2))

abbrev read_as : List DocumentNode → Result (List DocumentNode) ℕ
read_as nodes = Ok nodes

ok_is : (xs ys : List DocumentNode) → read_as xs ≡ read_as ys → xs ≡ ys
ok_is xs ys e = cc

front-formed : (number : ℕ) (found : Option DocumentNode) (read : Result (List DocumentNode) ℕ) (nodes : List DocumentNode) → ((node : DocumentNode) → found ≡ Some node → IsFormed node) →
    ((more : List DocumentNode) → read ≡ Ok more → AllByRecursion IsFormed more) → and_then_nodes number found read ≡ Ok nodes → AllByRecursion IsFormed nodes
front-formed number None read nodes first rest e = absurd cc
front-formed number (Some node) (Ok more) nodes first rest e = subst (λ (ns : List DocumentNode). AllByRecursion IsFormed ns) (ok_is (node ∷ more) nodes e) (first node refl, rest more refl)
front-formed number (Some node) (Err fault) nodes first rest e = absurd cc

tables-formed : (number : ℕ) (tables : List Data) (nodes : List DocumentNode) → read_tables number tables ≡ Ok nodes → AllByRecursion IsFormed nodes
tables-formed number [] nodes e = subst (λ (ns : List DocumentNode). AllByRecursion IsFormed ns) (ok_is [] nodes e) tt
tables-formed number (first ∷ tables) nodes e =
    front-formed number (node_in first) (read_tables (number + 1) tables) nodes (λ node f. table-formed first node f) (λ more f. tables-formed (number + 1) tables more f) e

top-formed : (tables : Option (List Data)) (nodes : List DocumentNode) → or_bad_key (read_top tables) ≡ Ok nodes → AllByRecursion IsFormed nodes
top-formed None nodes e = absurd cc
top-formed (Some tables) nodes e = tables-formed 1 tables nodes (good (read_tables 1 tables) e)
  where
    good : (read : Result (List DocumentNode) ℕ) → or_bad_key read ≡ Ok nodes → read ≡ Ok nodes
    good (Ok ns) e = cc
    good (Err n) e = absurd cc

pub document-formed : (members : Members) (nodes : List DocumentNode) → or_bad_key (document_in members) ≡ Ok nodes → AreFormed nodes
document-formed members nodes e = All-from_recursion IsFormed nodes (top-formed (tables_in members) nodes e)
