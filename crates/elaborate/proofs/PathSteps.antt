-- A path that is walked node by node.
use Rattle.std.proofs.Common.{◌≡◌, ◌<◌, ◌≤◌, ◌+◌, ◌-◌, ℕ, zero, suc, Bool, true, false, cond, List, [], ◌∷◌, length, map, Option, Some, None, refl, sym, ◌∙◌, ap, arith}
use Rattle.std.specs.Prelude.{IfSome, find, option_map, slice_get, slice_index_or, unwrap_or}
use Rattle.std.specs.Option.{option_and_then, option_map_or}
use Rattle.std.proofs.lemmas.Option.{slice_get-get_or}
use Rattle.address_map.specs.Regions.{has_address, serving_port}
use Rattle.address_map.specs.declared.region.Region.{Region}
use Rattle.node_graph.specs.Order.{place_in}
use Rattle.topology.specs.Document.{DocumentNode, NamedRegion, named, no_link, targets_of}
use Rattle.topology.specs.Wiring.{regions_of}
use Rattle.elaborate.specs.Path.{next_part, path_from, path_of, port_at_demux, port_by_part, ported_regions, target_of}
use Rattle.elaborate.specs.Plan.{first_part, plan_node_at, plan_nodes}
use Rattle.elaborate.specs.declared.part.Part.TheVariants as part
use Rattle.elaborate.proofs.PathFacts.{last-later, onward, onward-below, path-goes_on, path-stops}
use Rattle.elaborate.proofs.PlanFacts.{lowers-are_nodes}

-- the last number of a list
abbrev last_in : List ℕ → ℕ
last_in list = slice_index_or list (length list - 1) 0

-- The walk of a path has come to a node, which is its node of this number from 1, and it has so many nodes left.
pub record IsOnPath (nodes : List DocumentNode) (manager address node step : ℕ) : Type 0 where
  pub left : ℕ
  pub sum : left + step ≡ suc (length (plan_nodes nodes))
  pub inside : node < length (plan_nodes nodes)
  pub long : step + length (path_from nodes (plan_nodes nodes) address left node) ≡ suc (length (path_of nodes manager address))
  pub last : last_in (path_from nodes (plan_nodes nodes) address left node) ≡ target_of nodes manager address

pub path-begun : (nodes : List DocumentNode) (manager address : ℕ) → first_part nodes manager < length (plan_nodes nodes) → IsOnPath nodes manager address (first_part nodes manager) 1
path-begun nodes manager address less = record {
  left = length (plan_nodes nodes);
  sum = omega arith;
  inside = less;
  long = omega arith;
  last = refl;
}

some-left : (nodes : List DocumentNode) (address left node : ℕ) → 0 < left → 0 < length (path_from nodes (plan_nodes nodes) address left node)
unfolding path_from
some-left nodes address zero node some = absurd (omega (arith, some))
some-left nodes address (suc left) node some = omega arith

pub path-next : (nodes : List DocumentNode) (manager address node step next : ℕ) → IsOnPath nodes manager address node step → step < length (plan_nodes nodes) →
    option_and_then (next_part nodes address) (slice_get (plan_nodes nodes) node) ≡ Some next → next < length (plan_nodes nodes) → IsOnPath nodes manager address next (step + 1)
path-next nodes manager address node step next on less goes inside = go on.left on.sum on.long on.last
  where
    go : (left : ℕ) → left + step ≡ suc (length (plan_nodes nodes)) → step + length (path_from nodes (plan_nodes nodes) address left node) ≡ suc (length (path_of nodes manager address)) →
        last_in (path_from nodes (plan_nodes nodes) address left node) ≡ target_of nodes manager address → IsOnPath nodes manager address next (step + 1)
    go zero sum long last = absurd (omega (arith, sum, less))
    go (suc left) sum long last =
        let rest : path_from nodes (plan_nodes nodes) address (suc left) node ≡ node ∷ path_from nodes (plan_nodes nodes) address left next = path-goes_on nodes address left node next goes in
        let some : 0 < length (path_from nodes (plan_nodes nodes) address left next) = some-left nodes address left next (omega (arith, sum, less)) in
        record {
          left = left;
          sum = omega (arith, sum);
          inside = inside;
          long = omega (arith, long, ap length rest);
          last = sym (last-later node (path_from nodes (plan_nodes nodes) address left next) some) ∙ sym (ap last_in rest) ∙ last;
        }

-- where the walk ends, and how many nodes it has then passed
pub record IsEndOfPath (nodes : List DocumentNode) (manager address node step : ℕ) : Type 0 where
  pub end : node ≡ target_of nodes manager address
  pub count : step ≡ length (path_of nodes manager address)

ends-by : (nodes : List DocumentNode) (manager address node step : ℕ) (on : IsOnPath nodes manager address node step) → path_from nodes (plan_nodes nodes) address on.left node ≡ node ∷ [] → IsEndOfPath nodes manager address node step
ends-by nodes manager address node step on rest = record {
  end = sym (last-one node) ∙ sym (ap last_in rest) ∙ on.last;
  count = omega (arith, on.long, ap length rest);
}
  where
    last-one : (x : ℕ) → last_in (x ∷ []) ≡ x
    last-one x = ap (λ k. slice_index_or (x ∷ []) k 0) (none-left tt)
      where
        none-left : Unit {0} → 1 - 1 ≡ 0
        none-left u = omega arith

pub path-stopped : (nodes : List DocumentNode) (manager address node step : ℕ) → IsOnPath nodes manager address node step → step ≤ length (plan_nodes nodes) →
    option_and_then (next_part nodes address) (slice_get (plan_nodes nodes) node) ≡ None → IsEndOfPath nodes manager address node step
path-stopped nodes manager address node step on few stops = ends-by nodes manager address node step on (go on.left (omega (arith, on.sum, few)))
  where
    go : (left : ℕ) → 0 < left → path_from nodes (plan_nodes nodes) address left node ≡ node ∷ []
    go zero some = absurd (omega (arith, some))
    go (suc left) some = path-stops nodes address left node stops

one-left : (nodes : List DocumentNode) (address node : ℕ) → path_from nodes (plan_nodes nodes) address 1 node ≡ node ∷ []
unfolding path_from
one-left nodes address node = go (option_and_then (next_part nodes address) (slice_get (plan_nodes nodes) node))
  where
    go : (o : Option ℕ) → node ∷ option_map_or (path_from nodes (plan_nodes nodes) address 0) o [] ≡ node ∷ []
    go None = refl
    go (Some next) = refl

pub path-over : (nodes : List DocumentNode) (manager address node step : ℕ) → IsOnPath nodes manager address node step → step ≡ length (plan_nodes nodes) → IsEndOfPath nodes manager address node step
path-over nodes manager address node step on over =
    ends-by nodes manager address node step on (ap (λ left. path_from nodes (plan_nodes nodes) address left node) (omega (arith, on.sum, over)) ∙ one-left nodes address node)

-- ---- the port of an address, and the next node

ported : (nodes : List DocumentNode) (node : DocumentNode) (address : ℕ) →
    serving_port (ported_regions nodes node) address ≡ option_map (place_in (targets_of nodes node)) (serving_port (regions_of nodes node) address)
ported nodes node address = over node.region
  where
    plain : NamedRegion → Region
    plain region = record { base = region.base; size = region.size; port = unwrap_or (named nodes region.to) 0 }

    placed : NamedRegion → Region
    placed region = record { base = region.base; size = region.size; port = place_in (targets_of nodes node) (unwrap_or (named nodes region.to) 0) }

    choose : (b : Bool) (region : NamedRegion) (one other : Option Region) →
        option_map (λ (r : Region). r.port) one ≡ option_map (place_in (targets_of nodes node)) (option_map (λ (r : Region). r.port) other) →
        option_map (λ (r : Region). r.port) (cond b (Some (placed region)) one) ≡ option_map (place_in (targets_of nodes node)) (option_map (λ (r : Region). r.port) (cond b (Some (plain region)) other))
    choose true region one other same = refl
    choose false region one other same = same

    over : (regions : List NamedRegion) →
        option_map (λ (r : Region). r.port) (find (λ r. has_address r address) (map placed regions))
        ≡ option_map (place_in (targets_of nodes node)) (option_map (λ (r : Region). r.port) (find (λ r. has_address r address) (map plain regions)))
    over [] = refl
    over (region ∷ more) = choose (has_address (plain region) address) region (find (λ r. has_address r address) (map placed more)) (find (λ r. has_address r address) (map plain more)) (over more)

pub served-some : (nodes : List DocumentNode) (node : DocumentNode) (address target : ℕ) → serving_port (regions_of nodes node) address ≡ Some target →
    port_at_demux nodes node address ≡ place_in (targets_of nodes node) target
served-some nodes node address target e =
    ap (λ o. unwrap_or o (length (targets_of nodes node))) (ported nodes node address ∙ ap (option_map (place_in (targets_of nodes node))) e)

pub served-none : (nodes : List DocumentNode) (node : DocumentNode) (address : ℕ) → serving_port (regions_of nodes node) address ≡ None →
    port_at_demux nodes node address ≡ length (targets_of nodes node)
served-none nodes node address e =
    ap (λ o. unwrap_or o (length (targets_of nodes node))) (ported nodes node address ∙ ap (option_map (place_in (targets_of nodes node))) e)

pub next-at : (nodes : List DocumentNode) (address number : ℕ) → number < length (plan_nodes nodes) →
    onward nodes address number
    ≡ slice_get (plan_node_at nodes number).lower (port_by_part nodes address (plan_node_at nodes number).document (plan_node_at nodes number).part)
next-at nodes address number less =
    ap (option_and_then (next_part nodes address))
    (slice_get-get_or (plan_nodes nodes) number (record { part = part.Slice; document = 0; name = []; lower = []; link = no_link }) less)

pub next-known : (nodes : List DocumentNode) (address number : ℕ) (o : Option ℕ) → o ≡ onward nodes address number → IfSome o (λ next. next < length (plan_nodes nodes))
next-known nodes address number None e = tt
next-known nodes address number (Some next) e = lowers-are_nodes nodes number next (onward-below nodes address number next (sym e))
