-- The bound on rounds, transaction by transaction.
use Rattle.std.proofs.Common.{◌≡◌, ◌+◌, ◌*◌, ◌<◌, ◌≤◌, ◌++◌, ℕ, zero, suc, List, [], ◌∷◌, get_or, length, map, take, refl, sym, ◌∙◌, ap, ap₂, arith}
use Rattle.std.specs.Prelude.{max, sum_by}
use Rattle.std.proofs.lemmas.List.{get_or-map, length-map, map-append, take_more}
use Rattle.std.proofs.lemmas.List.Sums.{sum_by_push}
use Rattle.burst_address.specs.Formulas.{beats_of}
use Rattle.node_core.specs.Paces.{longest}
use Rattle.plan_traffic.specs.Accepted.{beats_in}
use Rattle.plan_traffic.specs.Bound.{delay_of_node, delay_of_nodes, most_moves}
use Rattle.plan_traffic.specs.Inside.{traffic_item, traffic_items}
use Rattle.plan_traffic.specs.Traffic.{TrafficItem}
use Rattle.plan_traffic.specs.declared.build.Item.{Item}
use Rattle.topology.specs.Document.{node_at}
use Rattle.topology_text.specs.Document.{DocumentNode, node_of_kind}
use Rattle.topology_text.specs.declared.kind.Kind.TheVariants.{Slice}

-- ---- delays

pub max_assoc : (a b c : ℕ) → max (max a b) c ≡ max a (max b c)
max_assoc a b c = omega arith

pub longest-push : (delays : List ℕ) (delay : ℕ) → longest (delays ++ delay ∷ []) ≡ max (longest delays) delay
longest-push [] delay = omega arith
longest-push (first ∷ more) delay = ap (max first) (longest-push more delay) ∙ sym (max_assoc first (longest more) delay)

-- of one node more
pub delay-next : (nodes : List DocumentNode) (number : ℕ) → number < length nodes → delay_of_nodes (take (number + 1) nodes) ≡ max (delay_of_nodes (take number nodes)) (delay_of_node (node_at nodes number))
delay-next nodes number less =
    ap delay_of_nodes (take_more nodes number (node_of_kind [] Slice) less)
    ∙ ap longest (map-append delay_of_node (take number nodes) (node_at nodes number ∷ []))
    ∙ longest-push (map delay_of_node (take number nodes)) (delay_of_node (node_at nodes number))

-- ---- moves

beats-push : (items : List TrafficItem) (item : TrafficItem) → beats_in (items ++ item ∷ []) ≡ beats_in items + beats_of item.txn.request
beats-push [] item = omega arith
beats-push (first ∷ more) item = let rest : beats_in (more ++ item ∷ []) ≡ beats_in more + beats_of item.txn.request = beats-push more item in omega arith

beats-fewer : (count : ℕ) (items : List TrafficItem) → beats_in (take count items) ≤ beats_in items
beats-fewer zero items = omega arith
beats-fewer (suc count) [] = omega arith
beats-fewer (suc count) (item ∷ more) = let rest : beats_in (take count more) ≤ beats_in more = beats-fewer count more in omega arith

-- a transaction by its place, and how it is kept
pub item-at : (kept : List Item) (items : List TrafficItem) (place : ℕ) (item : Item) → traffic_items kept ≡ items → place < length kept → item ≡ get_or kept place item
    → (place < length items) × (get_or items place (traffic_item item) ≡ traffic_item item)
item-at kept items place item are less is =
    let long : length items ≡ length kept = sym (ap length are) ∙ length-map kept traffic_item in (
      omega arith,
      ap (λ (xs : List TrafficItem). get_or xs place (traffic_item item)) (sym are) ∙ get_or-map traffic_item kept place item (traffic_item item) less ∙ ap traffic_item (sym is),
    )

-- so many moves are those of the first transactions
pub record AreMoves (nodes : List DocumentNode) (items : List TrafficItem) (count moves : ℕ) : Type 0 where
  pub are : moves ≡ sum_by (most_moves nodes) (take count items)
  pub few : moves ≤ 196608 * beats_in (take count items)

pub moves-first : (nodes : List DocumentNode) (items : List TrafficItem) → AreMoves nodes items 0 0
moves-first nodes items = record { are = refl; few = omega arith }

pub moves-next : (nodes : List DocumentNode) (items : List TrafficItem) (count moves more : ℕ) (item : TrafficItem) → count < length items → get_or items count item ≡ item
    → more ≡ most_moves nodes item → more ≤ 196608 * beats_of item.txn.request → AreMoves nodes items count moves → AreMoves nodes items (count + 1) (moves + more)
moves-next nodes items count moves more item less at is few so_far =
    let longer : take (count + 1) items ≡ take count items ++ item ∷ [] = take_more items count item less ∙ ap (λ (i : TrafficItem). take count items ++ i ∷ []) at in
    let sum : beats_in (take (count + 1) items) ≡ beats_in (take count items) + beats_of item.txn.request = ap beats_in longer ∙ beats-push (take count items) item in
    let were : moves ≤ 196608 * beats_in (take count items) = so_far.few in
    record {
      are = ap₂ (λ (a b : ℕ). a + b) so_far.are is ∙ sym (ap (sum_by (most_moves nodes)) longer ∙ sum_by_push (most_moves nodes) (take count items) item);
      few = omega arith;
    }

-- 262,144 beats at most make no more moves than this
pub moves-few : (nodes : List DocumentNode) (items : List TrafficItem) (count moves : ℕ) → beats_in items ≤ 262144 → AreMoves nodes items count moves → moves ≤ 51539607552
moves-few nodes items count moves beats so_far =
    let fewer : beats_in (take count items) ≤ beats_in items = beats-fewer count items in
    let were : moves ≤ 196608 * beats_in (take count items) = so_far.few in
    omega arith
