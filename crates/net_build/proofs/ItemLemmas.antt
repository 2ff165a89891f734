-- The transactions of a traffic by their places, counted from 0.
use Rattle.std.proofs.Common.{◌≡◌, ◌≢◌, ◌<◌, ◌+◌, ◌++◌, ◌==◌, ◌&&◌, ℕ, Bool, List, [], ◌∷◌, Some, false, true, ap, ap₂, get_or, length, map, refl, sym, take, ◌∙◌}
use Rattle.std.specs.Prelude.{All, filter, flat_map, slice_get}
use Rattle.std.specs.Option.{option_map}
use Rattle.std.proofs.lemmas.Bool.{eq-eqb, eqb-true, false_from_ne_true, false≢true, true≢false}
use Rattle.std.proofs.lemmas.Grind.{flat_map-append}
use Rattle.std.proofs.lemmas.List.{append-nil, get_or-map, take_more}
use Rattle.std.proofs.lemmas.List.Elements.{All-get_or, filter-append}
use Rattle.std.proofs.lemmas.Option.{get_or_from_slice_get, slice_get-get_or, slice_get_within}
use Rattle.axi_beats.specs.declared.beat.Burst.TheVariants.{Incr}
use Rattle.elaborate.proofs.Lists.{Some-same}
use Rattle.net_build.specs.Source.{lines_written}
use Rattle.net_opening.specs.Touched.{is_write_to, lines_of_burst}
use Rattle.plan_traffic.specs.Accepted.{Suits}
use Rattle.plan_traffic.specs.Due.{target_number}
use Rattle.plan_traffic.specs.Traffic.{TrafficItem}
use Rattle.topology.specs.Document.{DocumentNode, is_manager, node_at}

-- where there is none
abbrev pub no_item : TrafficItem
no_item = record {
  manager = 0;
  txn = record {
    number = 0;
    write = false;
    request = record { id = 0; addr = 0; len = 0; size = 0; burst = Incr; tag = record { txn = 0; low = 0; high = 0 } };
    after = 0;
  };
  bytes = [];
}

abbrev pub item_at : List TrafficItem → ℕ → TrafficItem
item_at items place = get_or items place no_item

pub item-there : (items : List TrafficItem) (place : ℕ) → place < length items → slice_get items place ≡ Some (item_at items place)
item-there items place less = slice_get-get_or items place no_item less

-- what a call tells of it
pub told : {Y : Type 0} (f : TrafficItem → Y) (items : List TrafficItem) (place number : ℕ) (y : Y) → place < length items → number ≡ place →
    option_map f (slice_get items number) ≡ Some y → f (item_at items place) ≡ y
told f items place number y less same e =
    Some-same (f (item_at items place)) y (sym (ap (option_map f) (ap (slice_get items) same ∙ item-there items place less)) ∙ e)

pub item-suits : (nodes : List DocumentNode) (items : List TrafficItem) (place : ℕ) → All (Suits nodes) items → place < length items → Suits nodes (item_at items place)
item-suits nodes items place suit less = All-get_or (Suits nodes) items place no_item less suit

pub manager-known : (nodes : List DocumentNode) (item : TrafficItem) → Suits nodes item → item.manager < length nodes
manager-known nodes item suits = slice_get_within nodes item.manager suits.node suits.is_node

pub manager-is : (nodes : List DocumentNode) (item : TrafficItem) → Suits nodes item → is_manager (node_at nodes item.manager).kind ≡ true
manager-is nodes item suits = ap (λ (node : DocumentNode). is_manager node.kind) (get_or_from_slice_get nodes item.manager suits.node _ suits.is_node) ∙ suits.manager

-- ---- one more of them

pub item-more : (items : List TrafficItem) (place : ℕ) → place < length items → take (place + 1) items ≡ take place items ++ item_at items place ∷ []
item-more items place less = take_more items place no_item less

lines-append : (nodes : List DocumentNode) (node : ℕ) (items : List TrafficItem) (item : TrafficItem) →
    lines_written nodes node (items ++ item ∷ []) ≡ lines_written nodes node items ++ lines_written nodes node (item ∷ [])
lines-append nodes node items item =
    ap (flat_map (λ (i : TrafficItem). lines_of_burst i.txn.request)) (filter-append (is_write_to nodes items node) items (item ∷ []))
    ∙ flat_map-append (λ (i : TrafficItem). lines_of_burst i.txn.request) (filter (is_write_to nodes items node) items) (filter (is_write_to nodes items node) (item ∷ []))

-- a write to the node adds its lines, and another transaction none
pub lines-more : (nodes : List DocumentNode) (node : ℕ) (items : List TrafficItem) (place : ℕ) (before : List ℕ) → place < length items →
    is_write_to nodes items node (item_at items place) ≡ true → before ≡ lines_written nodes node (take place items) →
    before ++ lines_of_burst (item_at items place).txn.request ≡ lines_written nodes node (take (place + 1) items)
lines-more nodes node items place before less write so_far =
    let one : lines_written nodes node (item_at items place ∷ []) ≡ lines_of_burst (item_at items place).txn.request =
    rw write (append-nil (lines_of_burst (item_at items place).txn.request)) in
    ap₂ (λ (xs ys : List ℕ). xs ++ ys) so_far (sym one) ∙ sym (lines-append nodes node (take place items) (item_at items place))
    ∙ ap (lines_written nodes node) (sym (item-more items place less))

pub lines-same : (nodes : List DocumentNode) (node : ℕ) (items : List TrafficItem) (place : ℕ) (before : List ℕ) → place < length items →
    is_write_to nodes items node (item_at items place) ≡ false → before ≡ lines_written nodes node (take place items) →
    before ≡ lines_written nodes node (take (place + 1) items)
lines-same nodes node items place before less other so_far =
    let none : lines_written nodes node (item_at items place ∷ []) ≡ [] = rw other refl in
    so_far ∙ sym (append-nil (lines_written nodes node (take place items))) ∙ ap (λ (ys : List ℕ). lines_written nodes node (take place items) ++ ys) (sym none)
    ∙ sym (lines-append nodes node (take place items) (item_at items place)) ∙ ap (lines_written nodes node) (sym (item-more items place less))

-- ---- whether it is a write to a node

both : (a b : Bool) → a ≡ true → b ≡ true → (a && b) ≡ true
both true b e f = f
both false b e f = absurd (false≢true e)

not-first : (a b : Bool) → a ≡ false → (a && b) ≡ false
not-first true b e = absurd (true≢false e)
not-first false b e = refl

not-second : (a b : Bool) → b ≡ false → (a && b) ≡ false
not-second true b e = e
not-second false b e = refl

-- of a transaction by its place, where the plan nodes are known at which all end
module _ (nodes : List DocumentNode) (items : List TrafficItem) (targets : List ℕ) (node place : ℕ) (less : place < length items) (ends : targets ≡ map (target_number nodes) items) where
  end-at : get_or targets place 0 ≡ target_number nodes (item_at items place)
  end-at = ap (λ (all : List ℕ). get_or all place 0) ends ∙ get_or-map (target_number nodes) items place no_item 0 less

  pub write-to : (item_at items place).txn.write ≡ true → get_or targets place 0 ≡ node → is_write_to nodes items node (item_at items place) ≡ true
  write-to write there =
      both (item_at items place).txn.write (target_number nodes (item_at items place) == node) write (eq-eqb (target_number nodes (item_at items place)) node (sym end-at ∙ there))

  pub read-to : (item_at items place).txn.write ≡ false → is_write_to nodes items node (item_at items place) ≡ false
  read-to read = not-first (item_at items place).txn.write (target_number nodes (item_at items place) == node) read

  pub to-other : get_or targets place 0 ≢ node → is_write_to nodes items node (item_at items place) ≡ false
  to-other other =
      not-second (item_at items place).txn.write (target_number nodes (item_at items place) == node)
      (false_from_ne_true (target_number nodes (item_at items place) == node) (λ is. other (end-at ∙ eqb-true (target_number nodes (item_at items place)) node is)))
