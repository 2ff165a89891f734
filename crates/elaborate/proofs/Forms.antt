-- What stands at each place of a plan: which part of which document node.
use Rattle.std.proofs.Common.{◌≡◌, ◌<◌, ◌+◌, ◌-◌, ◌*◌, ◌++◌, ℕ, zero, suc, List, [], ◌∷◌, length, map, Option, Some, None, refl, sym, ◌∙◌, ap, inl, inr, arith}
use Rattle.std.specs.Prelude.{◌⊎◌, codes, decimal, flat_map, slice_get, sum}
use Rattle.std.specs.List.{range_with_len}
use Rattle.std.proofs.lemmas.Bool.{cases_lt}
use Rattle.std.proofs.lemmas.List.{length-append}
use Rattle.std.proofs.lemmas.List.FromFn.{length-map-range_with_len}
use Rattle.std.proofs.lemmas.Option.{slice_get_within}
use Rattle.node_graph.specs.Graph.{numbers}
use Rattle.node_graph.proofs.Members.{map-same}
use Rattle.topology.specs.Document.{DocumentNode, node_at, plan_nodes_at, plan_nodes_of, uppers_of}
use Rattle.topology_text.specs.declared.kind.Kind.{Kind}
use Rattle.topology_text.specs.declared.kind.Kind.TheVariants as kind
use Rattle.elaborate.specs.Plan.{PlanNode, crossbar_parts, demux_itself, error_part, first_part, input_demux, input_parts, itself, node_parts, parts_by_kind, plan_nodes, split_part, target_mux, targets}
use Rattle.elaborate.specs.declared.part.Part.{Part}
use Rattle.elaborate.specs.declared.part.Part.TheVariants as part
use Rattle.elaborate.proofs.Lists.{None-Some, Some-same, Spot, flat-long, get-back, get-flat, get-front, get-mapped, pairs-long, spot-of}

-- the part of a kind that is its own first plan node, and of one with a splitter above it
abbrev pub own_part : Kind → Option Part
own_part kind.Manager = Some part.Manager
own_part kind.Memory = Some part.Memory
own_part kind.LiteMemory = Some part.LiteMemory
own_part kind.Slice = Some part.Slice
own_part kind.Mux = Some part.Mux
own_part kind.Remap = Some part.Remap
own_part kind.Up = Some part.Up
own_part other = None

abbrev pub split_kind : Kind → Option Part
split_kind kind.Down = Some part.Down
split_kind kind.Lite = Some part.Lite
split_kind other = None

-- the inputs of a crossbar, and its targets
abbrev pub input_count : List DocumentNode → ℕ → ℕ
input_count nodes place = length (uppers_of nodes place)

abbrev pub target_count : List DocumentNode → ℕ → ℕ
target_count nodes place = length (targets nodes place)

pub data Form (nodes : List DocumentNode) (place inner : ℕ) (node : PlanNode) (k : Kind) : Type 0 where
  Own : (p : Part) → own_part k ≡ Some p → inner ≡ 0 → node ≡ itself nodes place p → Form nodes place inner node k
  Split : (p : Part) → split_kind k ≡ Some p → inner ≡ 0 → node ≡ split_part nodes place → Form nodes place inner node k
  Behind : (p : Part) → split_kind k ≡ Some p → inner ≡ 1 → node ≡ itself nodes place p → Form nodes place inner node k
  Demux : k ≡ kind.Demux → inner ≡ 0 → node ≡ demux_itself nodes place → Form nodes place inner node k
  DemuxError : k ≡ kind.Demux → inner ≡ 1 → node ≡ error_part nodes place (codes ".err") → Form nodes place inner node k
  Input : (i : ℕ) → k ≡ kind.Crossbar → i < input_count nodes place → inner ≡ 2 * i → node ≡ input_demux nodes place i → Form nodes place inner node k
  InputError : (i : ℕ) → k ≡ kind.Crossbar → i < input_count nodes place → inner ≡ 2 * i + 1 → node ≡ error_part nodes place (codes ".e" ++ decimal i) → Form nodes place inner node k
  Target : (j : ℕ) → k ≡ kind.Crossbar → j < target_count nodes place → inner ≡ 2 * input_count nodes place + j → node ≡ target_mux nodes place j → Form nodes place inner node k

-- ---- how many parts there are

inputs-long : (nodes : List DocumentNode) (place : ℕ) → length (flat_map (input_parts nodes place) (range_with_len 0 (input_count nodes place))) ≡ 2 * input_count nodes place
inputs-long nodes place =
    flat-long (input_parts nodes place) 0 (input_count nodes place) ∙ pairs-long (input_parts nodes place) (λ n. refl) 0 (input_count nodes place)

kind-long : (nodes : List DocumentNode) (place : ℕ) (k : Kind) → length (parts_by_kind nodes place k) ≡ plan_nodes_of k (input_count nodes place) (target_count nodes place)
unfolding numbers
kind-long nodes place kind.Demux = refl
kind-long nodes place kind.Down = refl
kind-long nodes place kind.Lite = refl
kind-long nodes place kind.Crossbar =
    omega (
      arith,
      length-append (flat_map (input_parts nodes place) (range_with_len 0 (input_count nodes place))) (map (target_mux nodes place) (range_with_len 0 (target_count nodes place))),
      inputs-long nodes place,
      length-map-range_with_len (target_mux nodes place) 0 (target_count nodes place),
    )
kind-long nodes place other = refl

pub parts-long : (nodes : List DocumentNode) (place : ℕ) → length (node_parts nodes place) ≡ plan_nodes_at nodes place
parts-long nodes place = kind-long nodes place (node_at nodes place).kind

pub first-sum : (nodes : List DocumentNode) (place : ℕ) → first_part nodes place ≡ sum (map (λ n. length (node_parts nodes n)) (range_with_len 0 place))
unfolding numbers
first-sum nodes place = ap sum (map-same (plan_nodes_at nodes) (λ n. length (node_parts nodes n)) (range_with_len 0 place) (λ n there. sym (parts-long nodes n)))

-- ---- what stands where

pub at-part : (nodes : List DocumentNode) (place inner number : ℕ) (node : PlanNode) → place < length nodes → slice_get (node_parts nodes place) inner ≡ Some node → number ≡ first_part nodes place + inner →
    slice_get (plan_nodes nodes) number ≡ Some node
unfolding numbers
at-part nodes place inner number node less at sum =
    get-flat (node_parts nodes) 0 (length nodes) place inner number node less (omega (arith, sum, first-sum nodes place)) (ap (λ k. slice_get (node_parts nodes k) inner) (omega arith) ∙ at)

one-form : (nodes : List DocumentNode) (place inner : ℕ) (node x : PlanNode) → slice_get (x ∷ []) inner ≡ Some node → (inner ≡ 0) × (node ≡ x)
one-form nodes place zero node x e = (refl, sym (Some-same x node e))
one-form nodes place (suc inner) node x e = absurd (None-Some node e)

record Two (inner : ℕ) (node x y : PlanNode) : Type 0 where
  which : ((inner ≡ 0) × (node ≡ x)) ⊎ ((inner ≡ 1) × (node ≡ y))

two-form : (inner : ℕ) (node x y : PlanNode) → slice_get (x ∷ y ∷ []) inner ≡ Some node → Two inner node x y
two-form zero node x y e = record { which = inl (refl, sym (Some-same x node e)) }
two-form (suc zero) node x y e = record { which = inr (refl, sym (Some-same y node e)) }
two-form (suc (suc inner)) node x y e = absurd (None-Some node e)

own-form : (nodes : List DocumentNode) (place inner : ℕ) (node : PlanNode) (k : Kind) (p : Part) → own_part k ≡ Some p → slice_get (itself nodes place p ∷ []) inner ≡ Some node → Form nodes place inner node k
own-form nodes place inner node k p own e =
    let one : (inner ≡ 0) × (node ≡ itself nodes place p) = one-form nodes place inner node (itself nodes place p) e in Own p own one.0 one.1

split-form : (nodes : List DocumentNode) (place inner : ℕ) (node : PlanNode) (k : Kind) (p : Part) → split_kind k ≡ Some p → slice_get (split_part nodes place ∷ itself nodes place p ∷ []) inner ≡ Some node → Form nodes place inner node k
split-form nodes place inner node k p split e =
    elim (two-form inner node (split_part nodes place) (itself nodes place p) e).which [ inl first ↦ Split p split first.0 first.1 | inr second ↦ Behind p split second.0 second.1 ]

crossbar-form : (nodes : List DocumentNode) (place inner : ℕ) (node : PlanNode) → slice_get (crossbar_parts nodes place) inner ≡ Some node → Form nodes place inner node kind.Crossbar
unfolding numbers
crossbar-form nodes place inner node e =
    let fronts : List PlanNode = flat_map (input_parts nodes place) (range_with_len 0 (input_count nodes place)) in
    let backs : List PlanNode = map (target_mux nodes place) (range_with_len 0 (target_count nodes place)) in
    elim (cases_lt inner (length (flat_map (input_parts nodes place) (range_with_len 0 (input_count nodes place))))) [
      | inl front ↦
          let spot : Spot (input_parts nodes place) 0 (input_count nodes place) inner node =
          spot-of (input_parts nodes place) 0 (input_count nodes place) inner node (sym (get-front fronts backs inner front) ∙ e) in
          let sum : inner ≡ 2 * spot.place + spot.inner = omega (arith, spot.sum, pairs-long (input_parts nodes place) (λ n. refl) 0 spot.place) in
          let at : slice_get (input_parts nodes place spot.place) spot.inner ≡ Some node = ap (λ k. slice_get (input_parts nodes place k) spot.inner) (omega arith) ∙ spot.at in
          elim (two-form spot.inner node (input_demux nodes place spot.place) (error_part nodes place (codes ".e" ++ decimal spot.place)) at).which [
            | inl first ↦ Input spot.place refl spot.within (omega (arith, sum, first.0)) first.1
            | inr second ↦ InputError spot.place refl spot.within (omega (arith, sum, second.0)) second.1
          ]
      | inr back ↦
          let place_back : inner ≡ length (flat_map (input_parts nodes place) (range_with_len 0 (input_count nodes place))) + (inner - 2 * input_count nodes place) =
          omega (arith, back, inputs-long nodes place) in
          let at : slice_get (map (target_mux nodes place) (range_with_len 0 (target_count nodes place))) (inner - 2 * input_count nodes place) ≡ Some node =
          sym (get-back fronts backs (inner - 2 * input_count nodes place) inner place_back) ∙ e in
          let less : inner - 2 * input_count nodes place < target_count nodes place =
          omega (arith, slice_get_within backs (inner - 2 * input_count nodes place) node at, length-map-range_with_len (target_mux nodes place) 0 (target_count nodes place)) in
          let is : target_mux nodes place (inner - 2 * input_count nodes place) ≡ node =
          Some-same (target_mux nodes place (inner - 2 * input_count nodes place)) node
          (ap (λ k. Some (target_mux nodes place k)) (omega arith) ∙ sym (get-mapped (target_mux nodes place) 0 (target_count nodes place) (inner - 2 * input_count nodes place) less) ∙ at) in
          Target (inner - 2 * input_count nodes place) refl less (omega (arith, back, inputs-long nodes place)) (sym is)
    ]

pub form-of : (nodes : List DocumentNode) (place inner : ℕ) (node : PlanNode) (k : Kind) → slice_get (parts_by_kind nodes place k) inner ≡ Some node → Form nodes place inner node k
form-of nodes place inner node kind.Manager e = own-form nodes place inner node kind.Manager part.Manager refl e
form-of nodes place inner node kind.Memory e = own-form nodes place inner node kind.Memory part.Memory refl e
form-of nodes place inner node kind.LiteMemory e = own-form nodes place inner node kind.LiteMemory part.LiteMemory refl e
form-of nodes place inner node kind.Slice e = own-form nodes place inner node kind.Slice part.Slice refl e
form-of nodes place inner node kind.Mux e = own-form nodes place inner node kind.Mux part.Mux refl e
form-of nodes place inner node kind.Remap e = own-form nodes place inner node kind.Remap part.Remap refl e
form-of nodes place inner node kind.Up e = own-form nodes place inner node kind.Up part.Up refl e
form-of nodes place inner node kind.Down e = split-form nodes place inner node kind.Down part.Down refl e
form-of nodes place inner node kind.Lite e = split-form nodes place inner node kind.Lite part.Lite refl e
form-of nodes place inner node kind.Demux e =
    elim (two-form inner node (demux_itself nodes place) (error_part nodes place (codes ".err")) e).which [
      | inl first ↦ Demux refl first.0 first.1
      | inr second ↦ DemuxError refl second.0 second.1
    ]
form-of nodes place inner node kind.Crossbar e = crossbar-form nodes place inner node e

-- a plan node, by its document node and its place among that node's parts
pub record Part_at (nodes : List DocumentNode) (number : ℕ) (node : PlanNode) : Type 0 where
  pub place : ℕ
  pub inner : ℕ
  pub within : place < length nodes
  pub sum : number ≡ first_part nodes place + inner
  pub form : Form nodes place inner node (node_at nodes place).kind

pub part-at : (nodes : List DocumentNode) (number : ℕ) (node : PlanNode) → slice_get (plan_nodes nodes) number ≡ Some node → Part_at nodes number node
unfolding numbers
part-at nodes number node e =
    let spot : Spot (node_parts nodes) 0 (length nodes) number node = spot-of (node_parts nodes) 0 (length nodes) number node e in
    record {
      place = spot.place;
      inner = spot.inner;
      within = spot.within;
      sum = omega (arith, spot.sum, first-sum nodes spot.place);
      form = form-of nodes spot.place spot.inner node (node_at nodes spot.place).kind (ap (λ k. slice_get (node_parts nodes k) spot.inner) (omega arith) ∙ spot.at);
    }

-- ---- and the other way round

some_part : (p q : Part) → Some p ≡ Some q → p ≡ q
some_part p q e = cc

pub get-own : (nodes : List DocumentNode) (place : ℕ) (p : Part) (k : Kind) → own_part k ≡ Some p → slice_get (parts_by_kind nodes place k) 0 ≡ Some (itself nodes place p)
get-own nodes place p kind.Manager e = ap (λ p. Some (itself nodes place p)) (some_part part.Manager p e)
get-own nodes place p kind.Memory e = ap (λ p. Some (itself nodes place p)) (some_part part.Memory p e)
get-own nodes place p kind.LiteMemory e = ap (λ p. Some (itself nodes place p)) (some_part part.LiteMemory p e)
get-own nodes place p kind.Slice e = ap (λ p. Some (itself nodes place p)) (some_part part.Slice p e)
get-own nodes place p kind.Mux e = ap (λ p. Some (itself nodes place p)) (some_part part.Mux p e)
get-own nodes place p kind.Remap e = ap (λ p. Some (itself nodes place p)) (some_part part.Remap p e)
get-own nodes place p kind.Up e = ap (λ p. Some (itself nodes place p)) (some_part part.Up p e)
get-own nodes place p other e = absurd (None-Some p e)

pub get-split : (nodes : List DocumentNode) (place : ℕ) (p : Part) (k : Kind) → split_kind k ≡ Some p → slice_get (parts_by_kind nodes place k) 0 ≡ Some (split_part nodes place)
get-split nodes place p kind.Down e = refl
get-split nodes place p kind.Lite e = refl
get-split nodes place p other e = absurd (None-Some p e)

pub get-behind : (nodes : List DocumentNode) (place : ℕ) (p : Part) (k : Kind) → split_kind k ≡ Some p → slice_get (parts_by_kind nodes place k) 1 ≡ Some (itself nodes place p)
get-behind nodes place p kind.Down e = ap (λ p. Some (itself nodes place p)) (some_part part.Down p e)
get-behind nodes place p kind.Lite e = ap (λ p. Some (itself nodes place p)) (some_part part.Lite p e)
get-behind nodes place p other e = absurd (None-Some p e)

pub get-input : (nodes : List DocumentNode) (place i inner : ℕ) (node : PlanNode) → i < input_count nodes place → slice_get (input_parts nodes place i) inner ≡ Some node → slice_get (crossbar_parts nodes place) (2 * i + inner) ≡ Some node
unfolding numbers
get-input nodes place i inner node less at =
    let fronts : List PlanNode = flat_map (input_parts nodes place) (range_with_len 0 (input_count nodes place)) in
    let there : slice_get (flat_map (input_parts nodes place) (range_with_len 0 (input_count nodes place))) (2 * i + inner) ≡ Some node =
    get-flat (input_parts nodes place) 0 (input_count nodes place) i inner (2 * i + inner) node less (omega (arith, pairs-long (input_parts nodes place) (λ n. refl) 0 i))
    (ap (λ k. slice_get (input_parts nodes place k) inner) (omega arith) ∙ at) in
    get-front fronts (map (target_mux nodes place) (range_with_len 0 (target_count nodes place))) (2 * i + inner) (slice_get_within fronts (2 * i + inner) node there) ∙ there

pub get-target : (nodes : List DocumentNode) (place j : ℕ) → j < target_count nodes place → slice_get (crossbar_parts nodes place) (2 * input_count nodes place + j) ≡ Some (target_mux nodes place j)
unfolding numbers
get-target nodes place j less =
    get-back (flat_map (input_parts nodes place) (range_with_len 0 (input_count nodes place))) (map (target_mux nodes place) (range_with_len 0 (target_count nodes place))) j (2 * input_count nodes place + j)
    (omega (arith, inputs-long nodes place))
    ∙ get-mapped (target_mux nodes place) 0 (target_count nodes place) j less ∙ ap (λ k. Some (target_mux nodes place k)) (omega arith)
