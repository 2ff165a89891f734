-- How many inputs, targets, plan nodes and links an accepted document has.
use Rattle.std.proofs.Common.{◌≡◌, ◌<◌, ◌≤◌, ◌+◌, ◌*◌, ◌++◌, ◌==◌, ◌||◌, ℕ, zero, suc, Bool, true, false, List, [], ◌∷◌, length, map, get_or, Option, None, Some, refl, sym, ◌∙◌, ap, ap₂, arith}
use Rattle.std.specs.Prelude.{filter_map, flat_map, nat_lt, sum, if◌then◌else◌}
use Rattle.std.specs.List.{cons_option, range_with_len, sum_by}
use Rattle.std.proofs.Math.Nat.{suc-mul}
use Rattle.std.proofs.lemmas.Bool.{ltb-false, or_parts}
use Rattle.std.proofs.lemmas.List.{length-append, length-map}
use Rattle.std.proofs.lemmas.List.FromFn.{get_or-map-range_with_len, length-map-range_with_len, map-range_with_len_more}
use Rattle.std.proofs.lemmas.List.Sums.{sum_by-append, sum_by-cons}
use Rattle.node_graph.specs.Graph.{each_once, is_in, numbers}
use Rattle.node_graph.proofs.Ways.{above-below, upper-known}
use Rattle.topology.specs.Document.{DocumentNode, NamedRegion, graph_of, has_regions, is_memory, named, node_at, plan_links_at, plan_links_of, plan_nodes_at, targets_of, uppers_of}
use Rattle.topology.specs.Refused.{IsAccepted}
use Rattle.topology.proofs.AcceptedFacts.{accepted-is_clean, graph-long}
use Rattle.topology_text.specs.declared.kind.Kind.{Kind}
use Rattle.topology_text.specs.declared.kind.Kind.TheVariants as kind
use Rattle.elaborate.specs.Inside.{first_parts}
use Rattle.elaborate.specs.Plan.{PlanLink, PlanNode, crossbar_parts, entrance, entrances, first_part, input_parts, links_below, links_from, node_parts, parts_by_kind, plan_links, plan_nodes, target_mux, targets}
use Rattle.elaborate.proofs.Forms.{first-sum}
use Rattle.elaborate.proofs.Lists.{flat-long}

-- ---- what is not too large

last-false : (xs y : Bool) → (xs || y) ≡ false → y ≡ false
last-false xs y e = (or_parts xs y e).1

front-false : (xs y : Bool) → (xs || y) ≡ false → xs ≡ false
front-false xs y e = (or_parts xs y e).0

pub record IsSmall (nodes : List DocumentNode) (place : ℕ) : Type 0 where
  pub inputs : length (uppers_of nodes place) ≤ 16
  pub targets : length (targets_of nodes (node_at nodes place)) ≤ 16
  pub parts : sum (map (plan_nodes_at nodes) (numbers (suc place))) ≤ 1024
  pub links : sum (map (plan_links_at nodes) (numbers (suc place))) ≤ 4096

small-by : (nodes : List DocumentNode) (place : ℕ) (a d e f : Bool) →
    (a || nat_lt 16 (length (uppers_of nodes place)) || nat_lt 16 (length (targets_of nodes (node_at nodes place))) || d || e || f
    || nat_lt 1024 (sum (map (plan_nodes_at nodes) (numbers (suc place)))) || nat_lt 4096 (sum (map (plan_links_at nodes) (numbers (suc place))))) ≡ false →
    IsSmall nodes place
small-by nodes place a d e f all =
    let ins : Bool = nat_lt 16 (length (uppers_of nodes place)) in
    let outs : Bool = nat_lt 16 (length (targets_of nodes (node_at nodes place))) in
    let parts : Bool = nat_lt 1024 (sum (map (plan_nodes_at nodes) (numbers (suc place)))) in
    let links : Bool = nat_lt 4096 (sum (map (plan_links_at nodes) (numbers (suc place)))) in
    let seven : (a || ins || outs || d || e || f || parts) ≡ false = front-false (a || ins || outs || d || e || f || parts) links all in
    let six : (a || ins || outs || d || e || f) ≡ false = front-false (a || ins || outs || d || e || f) parts seven in
    let five : (a || ins || outs || d || e) ≡ false = front-false (a || ins || outs || d || e) f six in
    let four : (a || ins || outs || d) ≡ false = front-false (a || ins || outs || d) e five in
    let three : (a || ins || outs) ≡ false = front-false (a || ins || outs) d four in
    let two : (a || ins) ≡ false = front-false (a || ins) outs three in
    record {
      inputs = ltb-false 16 (length (uppers_of nodes place)) (last-false a ins two);
      targets = ltb-false 16 (length (targets_of nodes (node_at nodes place))) (last-false (a || ins) outs three);
      parts = ltb-false 1024 (sum (map (plan_nodes_at nodes) (numbers (suc place)))) (last-false (a || ins || outs || d || e || f) parts seven);
      links = ltb-false 4096 (sum (map (plan_links_at nodes) (numbers (suc place)))) (last-false (a || ins || outs || d || e || f || parts) links all);
    }

pub small : (nodes : List DocumentNode) → IsAccepted nodes → (place : ℕ) → place < length nodes → IsSmall nodes place
small nodes accepted place less =
    small-by nodes place (place == 256) (nat_lt 64 (length (node_at nodes place).region)) (nat_lt 64 (length (node_at nodes place).read_only)) (nat_lt 64 (length (node_at nodes place).hole))
    (accepted-is_clean nodes accepted place less).small

-- ---- the numbers of first plan nodes

sum-last : (xs : List ℕ) (x : ℕ) → sum (xs ++ x ∷ []) ≡ sum xs + x
sum-last xs x = let all : sum (xs ++ x ∷ []) ≡ sum xs + sum (x ∷ []) = sum_by-append (λ y. y) xs (x ∷ []) in omega (arith, all)

pub sum-more : (f : ℕ → ℕ) (count : ℕ) → sum (map f (numbers (suc count))) ≡ sum (map f (numbers count)) + f count
unfolding numbers
sum-more f count =
    let one : suc count ≡ count + 1 = omega arith in
    ap (λ n. sum (map f (range_with_len 0 n))) one ∙ ap sum (map-range_with_len_more f 0 count count (omega arith)) ∙ sum-last (map f (range_with_len 0 count)) (f count)

pub first-more : (nodes : List DocumentNode) (place : ℕ) → first_part nodes (place + 1) ≡ first_part nodes place + plan_nodes_at nodes place
first-more nodes place = let one : place + 1 ≡ suc place = omega arith in ap (first_part nodes) one ∙ sum-more (plan_nodes_at nodes) place

pub first-small : (nodes : List DocumentNode) → IsAccepted nodes → (place : ℕ) → place < length nodes → first_part nodes place ≤ 1024
first-small nodes accepted place less = omega (arith, (small nodes accepted place less).parts, sum-more (plan_nodes_at nodes) place)

-- so many sums, each at most a bound, and that of all of them
all-small : (f : ℕ → ℕ) (bound count : ℕ) → ((place : ℕ) → place < count → sum (map f (numbers (suc place))) ≤ bound) → sum (map f (numbers count)) ≤ bound
unfolding numbers
all-small f bound zero each = omega arith
all-small f bound (suc count) each = each count (omega arith)

pub parts-few : (nodes : List DocumentNode) → IsAccepted nodes → length (plan_nodes nodes) ≤ 1024
unfolding numbers
parts-few nodes accepted =
    omega (
      arith,
      flat-long (node_parts nodes) 0 (length nodes),
      first-sum nodes (length nodes),
      all-small (plan_nodes_at nodes) 1024 (length nodes) (λ place less. (small nodes accepted place less).parts),
    )

pub first-at : (nodes : List DocumentNode) (firsts : List ℕ) (place : ℕ) → firsts ≡ first_parts nodes → place < length nodes → get_or firsts place 0 ≡ first_part nodes place
unfolding numbers
first-at nodes firsts place are less = ap (λ xs. get_or xs place 0) are ∙ get_or-map-range_with_len (first_part nodes) 0 (length nodes) place place 0 less (omega arith)

pub firsts-long : (nodes : List DocumentNode) (firsts : List ℕ) → firsts ≡ first_parts nodes → length firsts ≡ length nodes
unfolding numbers
firsts-long nodes firsts are = ap length are ∙ length-map-range_with_len (first_part nodes) 0 (length nodes)

-- ---- how many links there are

-- of a list of plan nodes, how many links stand below them
abbrev pub lowers_in : List PlanNode → ℕ
lowers_in plan = sum_by (λ (node : PlanNode). length node.lower) plan

links-long : (nodes : List DocumentNode) (number : ℕ) (plan : List PlanNode) → length (links_from nodes number plan) ≡ lowers_in plan
links-long nodes number [] = refl
links-long nodes number (node ∷ plan) =
    let link : ℕ → PlanLink = λ lower. record { upper = number; lower = lower; link = node.link; depth = (node_at nodes node.document).depth } in
    let below : length (links_below nodes number node) ≡ length node.lower = length-map node.lower link in
    omega (
      arith,
      length-append (links_below nodes number node) (links_from nodes (suc number) plan),
      below,
      links-long nodes (suc number) plan,
      sum_by-cons (λ (node : PlanNode). length node.lower) node plan,
    )

lowers-flat : (f : ℕ → List PlanNode) (from count : ℕ) → lowers_in (flat_map f (range_with_len from count)) ≡ sum (map (λ n. lowers_in (f n)) (range_with_len from count))
lowers-flat f from zero = refl
lowers-flat f from (suc count) =
    omega (
      arith,
      sum_by-append (λ (node : PlanNode). length node.lower) (f from) (flat_map f (range_with_len (from + 1) count)),
      lowers-flat f (from + 1) count,
      sum_by-cons (λ x. x) (lowers_in (f from)) (map (λ n. lowers_in (f n)) (range_with_len (from + 1) count)),
    )

-- the targets of a node that names at most one
one-target : (nodes : List DocumentNode) (name : List ℕ) → length (each_once (filter_map (named nodes) (name ∷ []))) ≤ 1
one-target nodes name = go (named nodes name)
  where
    go : (o : Option ℕ) → length (each_once (cons_option o [])) ≤ 1
    go None = omega arith
    go (Some t) = omega arith

abbrev names_by : DocumentNode → Kind → List (List ℕ)
names_by node k = if has_regions k then map (λ (region : NamedRegion). region.to) node.region else if is_memory k then [] else node.to ∷ []

abbrev count_by_kind : List DocumentNode → DocumentNode → Kind → ℕ
count_by_kind nodes node k = length (each_once (filter_map (named nodes) (names_by node k)))

muxes-long : (nodes : List DocumentNode) (place from count : ℕ) → lowers_in (map (target_mux nodes place) (range_with_len from count)) ≡ count
muxes-long nodes place from zero = refl
muxes-long nodes place from (suc count) =
    omega (
      arith,
      sum_by-cons (λ (node : PlanNode). length node.lower) (target_mux nodes place from) (map (target_mux nodes place) (range_with_len (from + 1) count)),
      muxes-long nodes place (from + 1) count,
    )

input-long : (nodes : List DocumentNode) (place i : ℕ) → lowers_in (input_parts nodes place i) ≡ length (targets nodes place) + 1
unfolding numbers
input-long nodes place i =
    omega (
      arith,
      length-append (map (λ j. first_part nodes place + 2 * length (uppers_of nodes place) + j) (range_with_len 0 (length (targets nodes place)))) ((first_part nodes place + 2 * i + 1) ∷ []),
      length-map-range_with_len (λ j. first_part nodes place + 2 * length (uppers_of nodes place) + j) 0 (length (targets nodes place)),
    )

inputs-each : (nodes : List DocumentNode) (place from count : ℕ) → lowers_in (flat_map (input_parts nodes place) (range_with_len from count)) ≡ count * (length (targets nodes place) + 1)
inputs-each nodes place from zero = omega arith
inputs-each nodes place from (suc count) =
    let split : lowers_in (flat_map (input_parts nodes place) (range_with_len from (suc count))) ≡ lowers_in (input_parts nodes place from) + lowers_in (flat_map (input_parts nodes place) (range_with_len (from + 1) count)) =
    sum_by-append (λ (node : PlanNode). length node.lower) (input_parts nodes place from) (flat_map (input_parts nodes place) (range_with_len (from + 1) count)) in
    omega (arith, split, input-long nodes place from, inputs-each nodes place (from + 1) count, suc-mul count (length (targets nodes place) + 1))

crossbar-links : (nodes : List DocumentNode) (place : ℕ) → lowers_in (crossbar_parts nodes place) ≡ length (uppers_of nodes place) * (length (targets nodes place) + 1) + length (targets nodes place)
unfolding numbers
crossbar-links nodes place =
    sum_by-append (λ (node : PlanNode). length node.lower) (flat_map (input_parts nodes place) (range_with_len 0 (length (uppers_of nodes place)))) (map (target_mux nodes place) (range_with_len 0 (length (targets nodes place))))
    ∙ ap₂ (λ x y. x + y) (inputs-each nodes place 0 (length (uppers_of nodes place))) (muxes-long nodes place 0 (length (targets nodes place)))

entered-long : (nodes : List DocumentNode) (place : ℕ) → length (entrances nodes place) ≡ length (targets nodes place)
entered-long nodes place = length-map (targets nodes place) (entrance nodes place)

links-by : (nodes : List DocumentNode) (place : ℕ) (k : Kind) → length (targets nodes place) ≡ count_by_kind nodes (node_at nodes place) k →
    lowers_in (parts_by_kind nodes place k) ≤ plan_links_of k (length (uppers_of nodes place)) (length (targets nodes place))
links-by nodes place kind.Memory are = omega (arith, are, entered-long nodes place)
links-by nodes place kind.LiteMemory are = omega (arith, are, entered-long nodes place)
links-by nodes place kind.Demux are = omega (arith, entered-long nodes place, length-append (entrances nodes place) ((first_part nodes place + 1) ∷ []))
links-by nodes place kind.Crossbar are = omega (arith, crossbar-links nodes place)
links-by nodes place kind.Down are = omega (arith, are, entered-long nodes place, one-target nodes (node_at nodes place).to)
links-by nodes place kind.Lite are = omega (arith, are, entered-long nodes place, one-target nodes (node_at nodes place).to)
links-by nodes place kind.Manager are = omega (arith, are, entered-long nodes place, one-target nodes (node_at nodes place).to)
links-by nodes place kind.Slice are = omega (arith, are, entered-long nodes place, one-target nodes (node_at nodes place).to)
links-by nodes place kind.Mux are = omega (arith, are, entered-long nodes place, one-target nodes (node_at nodes place).to)
links-by nodes place kind.Remap are = omega (arith, are, entered-long nodes place, one-target nodes (node_at nodes place).to)
links-by nodes place kind.Up are = omega (arith, are, entered-long nodes place, one-target nodes (node_at nodes place).to)

no-more : (f g : ℕ → ℕ) (from count : ℕ) → ((n : ℕ) → f n ≤ g n) → sum (map f (range_with_len from count)) ≤ sum (map g (range_with_len from count))
no-more f g from zero each = omega arith
no-more f g from (suc count) each =
    omega (
      arith,
      sum_by-cons (λ x. x) (f from) (map f (range_with_len (from + 1) count)),
      sum_by-cons (λ x. x) (g from) (map g (range_with_len (from + 1) count)),
      each from,
      no-more f g (from + 1) count each,
    )

pub links-few : (nodes : List DocumentNode) → IsAccepted nodes → length (plan_links nodes) ≤ 4096
unfolding numbers
links-few nodes accepted =
    omega (
      arith,
      links-long nodes 0 (plan_nodes nodes),
      lowers-flat (node_parts nodes) 0 (length nodes),
      no-more (λ n. lowers_in (node_parts nodes n)) (plan_links_at nodes) 0 (length nodes) (λ n. links-by nodes n (node_at nodes n).kind refl),
      all-small (plan_links_at nodes) 4096 (length nodes) (λ place less. (small nodes accepted place less).links),
    )

-- the nodes above a document node are there
pub upper-inside : (nodes : List DocumentNode) (place upper : ℕ) → is_in (uppers_of nodes place) upper ≡ true → upper < length nodes
upper-inside nodes place upper there =
    omega (arith, upper-known (graph_of nodes) upper place (above-below (graph_of nodes) place upper there), graph-long nodes)
