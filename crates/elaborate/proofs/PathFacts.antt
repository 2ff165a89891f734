-- Paths over a plan.
use Rattle.std.proofs.Common.{◌≡◌, ◌<◌, ◌≤◌, ◌+◌, ◌-◌, ◌*◌, ◌/◌, ◌++◌, ◌==◌, ◌||◌, ℕ, zero, suc, Bool, true, false, cond, not, List, [], ◌∷◌, length, map, Option, Some, None, refl, sym, ◌∙◌, ap, subst, inl, inr, arith}
use Rattle.std.specs.Prelude.{◌⊎◌, filter_map, find, is_none, option_map, slice_get, slice_index_or, unwrap_or, if◌then◌else◌}
use Rattle.std.specs.List.{cons_option, list_any}
use Rattle.std.specs.Option.{option_and_then, option_map_or}
use Rattle.std.proofs.lemmas.Bool.{false≢true, or_from, or_parts, true≢false}
use Rattle.std.proofs.lemmas.List.{length-append, length-map}
use Rattle.std.proofs.lemmas.List.FromFn.{length-map-range_with_len}
use Rattle.std.proofs.lemmas.Option.{slice_get_within}
use Rattle.address_map.proofs.PortLemmas.{page-port}
use Rattle.address_map.specs.Regions.{has_address, is_bad_region, is_bad_span}
use Rattle.address_map.specs.declared.region.Region.{Region}
use Rattle.node_graph.specs.Graph.{depth_of, each_once, is_in, nodes_below, numbers}
use Rattle.node_graph.specs.Order.{place_in}
use Rattle.node_graph.proofs.Ways.{depths-are_small, links-lead_deeper}
use Rattle.topology.proofs.AcceptedFacts.{accepted-is_clean}
use Rattle.topology.specs.Document.{DocumentNode, NamedRegion, has_regions, is_manager, is_memory, named, names_of, node_at, targets_of}
use Rattle.topology.specs.Refused.{IsAccepted, has_bad_region}
use Rattle.topology_text.specs.declared.kind.Kind.{Kind}
use Rattle.topology_text.specs.declared.kind.Kind.TheVariants as kind
use Rattle.elaborate.specs.Path.{next_by_part, next_part, path_from, port_at_demux, port_by_part, ported_regions}
use Rattle.elaborate.specs.PathLaws.{PageHasOnePath, PathBeginsAtManager, PathEndsAtEndpoint, PathFollowsLinks, is_endpoint}
use Rattle.elaborate.specs.Plan.{PlanNode, demux_itself, entrance, entrances, first_part, input_demux, itself, plan_graph, plan_nodes, targets}
use Rattle.elaborate.specs.declared.part.Part.{Part}
use Rattle.elaborate.specs.declared.part.Part.TheVariants as part
use Rattle.elaborate.proofs.Forms.{Form, Part_at, input_count, own_part, part-at, split_kind, target_count}
use Rattle.elaborate.proofs.Forms.Form.{Behind, Demux, DemuxError, Input, InputError, Own, Split, Target}
use Rattle.elaborate.proofs.LinkForms.{at-kind}
use Rattle.elaborate.proofs.Lists.{None-Some, get-in}
use Rattle.elaborate.proofs.Orders.{plan-long}
use Rattle.elaborate.proofs.PlanFacts.{form-document, lowers-are_nodes, plan-is_acyclic}
use Rattle.elaborate.proofs.Uppers.{node-below}

-- ---- a path, step by step

-- where a path goes on from a plan node
abbrev pub onward : List DocumentNode → ℕ → ℕ → Option ℕ
onward nodes address number = option_and_then (next_part nodes address) (slice_get (plan_nodes nodes) number)

abbrev from : List DocumentNode → ℕ → ℕ → ℕ → List ℕ
from nodes address most number = path_from nodes (plan_nodes nodes) address most number

pub path-stops : (nodes : List DocumentNode) (address most number : ℕ) → onward nodes address number ≡ None → from nodes address (suc most) number ≡ number ∷ []
unfolding path_from
path-stops nodes address most number e = ap (λ o. number ∷ option_map_or (path_from nodes (plan_nodes nodes) address most) o []) e

pub path-goes_on : (nodes : List DocumentNode) (address most number next : ℕ) → onward nodes address number ≡ Some next → from nodes address (suc most) number ≡ number ∷ from nodes address most next
unfolding path_from
path-goes_on nodes address most number next e = ap (λ o. number ∷ option_map_or (path_from nodes (plan_nodes nodes) address most) o []) e

-- a path goes on to a node below
next-in : (nodes : List DocumentNode) (address next : ℕ) (node : PlanNode) (p : Part) → next_by_part nodes address node p ≡ Some next → is_in node.lower next ≡ true
next-in nodes address next node p e = get-in node.lower (port_by_part nodes address node.document p) next e

pub onward-below : (nodes : List DocumentNode) (address number next : ℕ) → onward nodes address number ≡ Some next → is_in (nodes_below (plan_graph nodes) number) next ≡ true
onward-below nodes address number next e = go (slice_get (plan_nodes nodes) number) refl e
  where
    go : (o : Option PlanNode) → slice_get (plan_nodes nodes) number ≡ o → option_and_then (next_part nodes address) o ≡ Some next → is_in (nodes_below (plan_graph nodes) number) next ≡ true
    go None at e = absurd (None-Some next e)
    go (Some node) at e = node-below nodes number next node at (next-in nodes address next node node.part e)

cases-Option : {X : Type 0} (o : Option X) → (o ≡ None) ⊎ ((x : X) × (o ≡ Some x))
cases-Option None = inl refl
cases-Option (Some x) = inr (x, refl)

-- ---- where it begins, and how it follows links

from-first : (nodes : List DocumentNode) (address most number : ℕ) → 0 < length (from nodes address most number) → slice_index_or (from nodes address most number) 0 0 ≡ number
unfolding path_from
from-first nodes address zero number some = absurd (omega (arith, some))
from-first nodes address (suc most) number some = refl

-- each element of a list but the first is below the one before it
Follows : List DocumentNode → List ℕ → ℕ → Type 0
Follows nodes path place = is_in (nodes_below (plan_graph nodes) (slice_index_or path place 0)) (slice_index_or path (place + 1) 0) ≡ true

-- of a path whose first step is a link, where the rest follows links
follows-later : (nodes : List DocumentNode) (address most number next : ℕ) → is_in (nodes_below (plan_graph nodes) number) next ≡ true → ((place : ℕ) → place + 1 < length (from nodes address most next) → Follows nodes (from nodes address most next) place) →
    (place : ℕ) → place + 1 < suc (length (from nodes address most next)) → Follows nodes (number ∷ from nodes address most next) place
unfolding Follows
follows-later nodes address most number next below rest zero less =
    ap (is_in (nodes_below (plan_graph nodes) number)) (from-first nodes address most next (omega (arith, less))) ∙ below
follows-later nodes address most number next below rest (suc place) less =
    let shift : suc place + 1 ≡ suc (place + 1) = omega arith in
    subst (λ (k : ℕ). is_in (nodes_below (plan_graph nodes) (slice_index_or (from nodes address most next) place 0)) (slice_index_or (number ∷ from nodes address most next) k 0) ≡ true) (sym shift)
    (rest place (omega (arith, less)))

follows-by : (nodes : List DocumentNode) (address most number place : ℕ) → place + 1 < length (from nodes address most number) → Follows nodes (from nodes address most number) place
unfolding path_from
follows-by nodes address zero number place less = absurd (omega (arith, less))
follows-by nodes address (suc most) number place less =
    elim (cases-Option (onward nodes address number)) [
      | inl stops ↦ absurd (omega (arith, less, ap length (path-stops nodes address most number stops)))
      | inr on ↦
          let path : from nodes address (suc most) number ≡ number ∷ from nodes address most on.0 = path-goes_on nodes address most number on.0 on.1 in
          subst (λ xs. Follows nodes xs place) (sym path)
          (follows-later nodes address most number on.0 (onward-below nodes address number on.0 on.1) (follows-by nodes address most on.0) place (subst (λ (n : ℕ). place + 1 < n) (ap length path) less))
    ]

pub path-follows_links : PathFollowsLinks
unfolding Follows
path-follows_links nodes manager address place less = follows-by nodes address (length (plan_nodes nodes)) (first_part nodes manager) place less

-- a manager's own plan node
pub manager-at : (nodes : List DocumentNode) (place : ℕ) (k : Kind) → place < length nodes → (node_at nodes place).kind ≡ k → is_manager k ≡ true → first_part nodes place < length (plan_nodes nodes)
manager-at nodes place kind.Manager less is e =
    slice_get_within (plan_nodes nodes) (first_part nodes place) (itself nodes place part.Manager) (at-kind nodes place 0 (first_part nodes place) (itself nodes place part.Manager) kind.Manager less is refl (omega arith))
manager-at nodes place other less is e = absurd (false≢true e)

begins : (nodes : List DocumentNode) (address most number : ℕ) → 0 < most → slice_get (from nodes address most number) 0 ≡ Some number
unfolding path_from
begins nodes address zero number some = absurd (omega (arith, some))
begins nodes address (suc most) number some = refl

pub path-begins_at_manager : PathBeginsAtManager
path-begins_at_manager nodes manager address less is =
    begins nodes address (length (plan_nodes nodes)) (first_part nodes manager) (omega (arith, manager-at nodes manager (node_at nodes manager).kind less refl is))

-- ---- a node that leads on

one-name : (b c : Bool) (regions own : List (List ℕ)) → b ≡ false → c ≡ false → (if b then regions else if c then [] else own) ≡ own
one-name true c regions own e f = absurd (true≢false e)
one-name false true regions own e f = absurd (true≢false f)
one-name false false regions own e f = refl

some-target : (find : List ℕ → Option ℕ) (name : List ℕ) → (is_none (find name) || false) ≡ false → 0 < length (each_once (filter_map find (name ∷ [])))
some-target find name e = go (find name) (or_parts (is_none (find name)) false e).0
  where
    go : (o : Option ℕ) → is_none o ≡ false → 0 < length (each_once (cons_option o []))
    go None e = absurd (true≢false e)
    go (Some t) e = omega arith

targets-some : (nodes : List DocumentNode) → IsAccepted nodes → (place : ℕ) → place < length nodes → has_regions (node_at nodes place).kind ≡ false → is_memory (node_at nodes place).kind ≡ false → 0 < length (targets nodes place)
targets-some nodes accepted place less no_regions no_memory =
    let names : names_of (node_at nodes place) ≡ (node_at nodes place).to ∷ [] =
    one-name (has_regions (node_at nodes place).kind) (is_memory (node_at nodes place).kind) (map (λ (region : NamedRegion). region.to) (node_at nodes place).region) ((node_at nodes place).to ∷ []) no_regions no_memory in
    let known : list_any (λ name. is_none (named nodes name)) ((node_at nodes place).to ∷ []) ≡ false =
    ap (list_any (λ name. is_none (named nodes name))) (sym names) ∙ (accepted-is_clean nodes accepted place less).names_are_known in
    omega (arith, some-target (named nodes) (node_at nodes place).to known, ap (λ names. length (each_once (filter_map (named nodes) names))) names)

port-within : (nodes : List DocumentNode) (node : DocumentNode) (address : ℕ) → port_at_demux nodes node address ≤ length (targets_of nodes node)
port-within nodes node address = within node.region
  where
    ported : NamedRegion → Region
    ported region = record { base = region.base; size = region.size; port = place_in (targets_of nodes node) (unwrap_or (named nodes region.to) 0) }

    most : (xs : List ℕ) (x : ℕ) → place_in xs x ≤ length xs
    most [] x = omega arith
    most (y ∷ ys) x = small (y == x) (place_in ys x) (length ys) (most ys x)
      where
        small : (b : Bool) (n m : ℕ) → n ≤ m → cond (not b) (1 + n) 0 ≤ suc m
        small true n m le = omega arith
        small false n m le = omega (arith, le)

    found : (b : Bool) (r : NamedRegion) (rest : Option Region) → unwrap_or (option_map (λ (region : Region). region.port) rest) (length (targets_of nodes node)) ≤ length (targets_of nodes node) →
        unwrap_or (option_map (λ (region : Region). region.port) (cond b (Some (ported r)) rest)) (length (targets_of nodes node)) ≤ length (targets_of nodes node)
    found true r rest le = most (targets_of nodes node) (unwrap_or (named nodes r.to) 0)
    found false r rest le = le

    within : (regions : List NamedRegion) → unwrap_or (option_map (λ (region : Region). region.port) (find (λ region. has_address region address) (map ported regions))) (length (targets_of nodes node)) ≤ length (targets_of nodes node)
    within [] = omega arith
    within (r ∷ rs) = found (has_address (ported r) address) r (find (λ region. has_address region address) (map ported rs)) (within rs)

get-some : (xs : List ℕ) (place : ℕ) → place < length xs → slice_get xs place ≡ None → ⊥
get-some [] place less e = omega (arith, less)
get-some (x ∷ xs) zero less e = None-Some x (sym e)
get-some (x ∷ xs) (suc place) less e = get-some xs place (omega (arith, less)) e

-- ---- where it ends

record Ends (nodes : List DocumentNode) (path : List ℕ) : Type 0 where
  some : 0 < length path
  node : PlanNode
  at : slice_get (plan_nodes nodes) (slice_index_or path (length path - 1) 0) ≡ Some node
  endpoint : is_endpoint node.part ≡ true

none-left : Unit {0} → 1 - 1 ≡ 0
none-left u = omega arith

pub last-later : (x : ℕ) (xs : List ℕ) → 0 < length xs → slice_index_or (x ∷ xs) (length (x ∷ xs) - 1) 0 ≡ slice_index_or xs (length xs - 1) 0
last-later x [] some = absurd (omega (arith, some))
last-later x (y ∷ ys) some =
    let front : suc (suc (length ys)) - 1 ≡ suc (length ys) = omega arith in
    let back : length ys ≡ suc (length ys) - 1 = omega arith in
    ap (λ k. slice_index_or (x ∷ y ∷ ys) k 0) front ∙ ap (λ k. slice_index_or (y ∷ ys) k 0) back

abbrev is_demux : Part → Bool
is_demux part.Demux = true
is_demux other = false

some_part : (p q : Part) → Some p ≡ Some q → p ≡ q
some_part p q e = cc

inputs-ports : (f : ℕ → ℕ) (count : ℕ) → length (map f (numbers count)) ≡ count
unfolding numbers
inputs-ports f count = length-map-range_with_len f 0 count

-- a node that leads to its one target goes on
to-goes_on : (nodes : List DocumentNode) → IsAccepted nodes → (place : ℕ) → place < length nodes → has_regions (node_at nodes place).kind ≡ false → is_memory (node_at nodes place).kind ≡ false → slice_get (entrances nodes place) 0 ≡ None → ⊥
to-goes_on nodes accepted place less no_regions no_memory e =
    get-some (entrances nodes place) 0 (omega (arith, targets-some nodes accepted place less no_regions no_memory, length-map (targets nodes place) (entrance nodes place))) e

behind-goes_on : (nodes : List DocumentNode) → IsAccepted nodes → (address place : ℕ) (p : Part) (k : Kind) → place < length nodes → (node_at nodes place).kind ≡ k → split_kind k ≡ Some p → next_part nodes address (itself nodes place p) ≡ None → ⊥
behind-goes_on nodes accepted address place p kind.Down less is split e =
    to-goes_on nodes accepted place less (ap has_regions is) (ap is_memory is) (sym (ap (next_by_part nodes address (itself nodes place p)) (sym (some_part part.Down p split))) ∙ e)
behind-goes_on nodes accepted address place p kind.Lite less is split e =
    to-goes_on nodes accepted place less (ap has_regions is) (ap is_memory is) (sym (ap (next_by_part nodes address (itself nodes place p)) (sym (some_part part.Lite p split))) ∙ e)
behind-goes_on nodes accepted address place p other less is split e = None-Some p split

-- one that stands alone is an endpoint, or leads to its one target
lone-stops : (nodes : List DocumentNode) → IsAccepted nodes → (address place : ℕ) (node : PlanNode) (p : Part) (k : Kind) → place < length nodes → (node_at nodes place).kind ≡ k → has_regions k ≡ false → is_memory k ≡ false → is_demux p ≡ false → node ≡ itself nodes place p → next_part nodes address node ≡ None → ⊥
lone-stops nodes accepted address place node p k less is no_regions no_memory no_demux same e =
    to-goes_on nodes accepted place less (ap has_regions is ∙ no_regions) (ap is_memory is ∙ no_memory) (sym (plain p no_demux) ∙ ap (next_part nodes address) (sym same) ∙ e)
  where
    plain : (p : Part) → is_demux p ≡ false → next_by_part nodes address (itself nodes place p) p ≡ slice_get (entrances nodes place) 0
    plain part.Demux e = absurd (true≢false e)
    plain other e = refl

own-stops : (nodes : List DocumentNode) → IsAccepted nodes → (address place : ℕ) (node : PlanNode) (p : Part) (k : Kind) → place < length nodes → (node_at nodes place).kind ≡ k → own_part k ≡ Some p → node ≡ itself nodes place p → next_part nodes address node ≡ None → is_endpoint node.part ≡ true
own-stops nodes accepted address place node p kind.Memory less is own same e = ap (λ (x : PlanNode). is_endpoint x.part) same ∙ ap is_endpoint (sym (some_part part.Memory p own))
own-stops nodes accepted address place node p kind.LiteMemory less is own same e = ap (λ (x : PlanNode). is_endpoint x.part) same ∙ ap is_endpoint (sym (some_part part.LiteMemory p own))
own-stops nodes accepted address place node p kind.Manager less is own same e =
    absurd (lone-stops nodes accepted address place node p kind.Manager less is refl refl (ap is_demux (sym (some_part part.Manager p own))) same e)
own-stops nodes accepted address place node p kind.Slice less is own same e =
    absurd (lone-stops nodes accepted address place node p kind.Slice less is refl refl (ap is_demux (sym (some_part part.Slice p own))) same e)
own-stops nodes accepted address place node p kind.Mux less is own same e =
    absurd (lone-stops nodes accepted address place node p kind.Mux less is refl refl (ap is_demux (sym (some_part part.Mux p own))) same e)
own-stops nodes accepted address place node p kind.Remap less is own same e =
    absurd (lone-stops nodes accepted address place node p kind.Remap less is refl refl (ap is_demux (sym (some_part part.Remap p own))) same e)
own-stops nodes accepted address place node p kind.Up less is own same e =
    absurd (lone-stops nodes accepted address place node p kind.Up less is refl refl (ap is_demux (sym (some_part part.Up p own))) same e)
own-stops nodes accepted address place node p other less is own same e = absurd (None-Some p own)

stops-by : (nodes : List DocumentNode) → IsAccepted nodes → (address place inner : ℕ) (node : PlanNode) → place < length nodes → node.document ≡ place → Form nodes place inner node (node_at nodes place).kind → next_part nodes address node ≡ None → is_endpoint node.part ≡ true
stops-by nodes accepted address place inner node less document (Own p own first is) e = own-stops nodes accepted address place node p (node_at nodes place).kind less refl own is e
stops-by nodes accepted address place inner node less document (Split p split first is) e =
    absurd (None-Some (first_part nodes place + 1) (sym (ap (next_part nodes address) (sym is) ∙ e)))
stops-by nodes accepted address place inner node less document (Behind p split first is) e =
    absurd (behind-goes_on nodes accepted address place p (node_at nodes place).kind less refl split (ap (next_part nodes address) (sym is) ∙ e))
stops-by nodes accepted address place inner node less document (Demux k first is) e =
    absurd (get-some (demux_itself nodes place).lower (port_at_demux nodes (node_at nodes place) address)
    (omega (arith, port-within nodes (node_at nodes place) address, length-append (entrances nodes place) ((first_part nodes place + 1) ∷ []), length-map (targets nodes place) (entrance nodes place))) (ap (next_part nodes address) (sym is) ∙ e))
stops-by nodes accepted address place inner node less document (DemuxError k first is) e = ap (λ (x : PlanNode). is_endpoint x.part) is
stops-by nodes accepted address place inner node less document (Input i k within first is) e =
    absurd (get-some (input_demux nodes place i).lower (port_at_demux nodes (node_at nodes place) address)
    (omega (
      arith,
      port-within nodes (node_at nodes place) address,
      length-append (map (λ j. first_part nodes place + 2 * input_count nodes place + j) (numbers (target_count nodes place))) ((first_part nodes place + 2 * i + 1) ∷ []),
      inputs-ports (λ j. first_part nodes place + 2 * input_count nodes place + j) (target_count nodes place),
    )) (ap (next_part nodes address) (sym is) ∙ e))
stops-by nodes accepted address place inner node less document (InputError i k within first is) e = ap (λ (x : PlanNode). is_endpoint x.part) is
stops-by nodes accepted address place inner node less document (Target j k within first is) e =
    absurd (None-Some (entrance nodes place (slice_index_or (targets nodes place) j 0)) (sym (ap (next_part nodes address) (sym is) ∙ e)))

ends-by : (nodes : List DocumentNode) → IsAccepted nodes → (address most number : ℕ) → number < length (plan_nodes nodes) → length (plan_nodes nodes) ≤ depth_of (plan_graph nodes) number + most → Ends nodes (from nodes address most number)
ends-by nodes accepted address zero number less deep =
    absurd (omega (arith, deep, plan-long nodes, depths-are_small (plan_graph nodes) (plan-is_acyclic nodes accepted) number (omega (arith, less, plan-long nodes))))
ends-by nodes accepted address (suc most) number less deep =
    elim (cases-Option (onward nodes address number)) [
      | inl stops ↦
          let node : (x : PlanNode) × (slice_get (plan_nodes nodes) number ≡ Some x) = get-node nodes number less in
          let spot : Part_at nodes number node.0 = part-at nodes number node.0 node.1 in
          subst (Ends nodes) (sym (path-stops nodes address most number stops)) (record {
            some = omega arith;
            node = node.0;
            at = ap (λ k. slice_get (plan_nodes nodes) (slice_index_or (number ∷ []) k 0)) (none-left tt) ∙ node.1;
            endpoint = stops-by nodes accepted address spot.place spot.inner node.0 spot.within (form-document nodes spot.place spot.inner node.0 (node_at nodes spot.place).kind spot.form) spot.form
                (sym (ap (option_and_then (next_part nodes address)) node.1) ∙ stops);
          })
      | inr on ↦
          let below : is_in (nodes_below (plan_graph nodes) number) on.0 ≡ true = onward-below nodes address number on.0 on.1 in
          let known : on.0 < length (plan_nodes nodes) = lowers-are_nodes nodes number on.0 below in
          let deeper : depth_of (plan_graph nodes) number < depth_of (plan_graph nodes) on.0 =
          links-lead_deeper (plan_graph nodes) (plan-is_acyclic nodes accepted) number on.0 (omega (arith, known, plan-long nodes)) below in
          let rest : Ends nodes (from nodes address most on.0) = ends-by nodes accepted address most on.0 known (omega (arith, deep, deeper)) in
          subst (Ends nodes) (sym (path-goes_on nodes address most number on.0 on.1)) (record {
            some = omega arith;
            node = rest.node;
            at = ap (slice_get (plan_nodes nodes)) (last-later number (from nodes address most on.0) rest.some) ∙ rest.at;
            endpoint = rest.endpoint;
          })
    ]
  where
    get-node : (nodes : List DocumentNode) (number : ℕ) → number < length (plan_nodes nodes) → (x : PlanNode) × (slice_get (plan_nodes nodes) number ≡ Some x)
    get-node nodes number less = at (plan_nodes nodes) number less
      where
        at : (plan : List PlanNode) (number : ℕ) → number < length plan → (x : PlanNode) × (slice_get plan number ≡ Some x)
        at [] number less = absurd (omega (arith, less))
        at (x ∷ xs) zero less = (x, refl)
        at (x ∷ xs) (suc number) less = at xs number (omega (arith, less))

pub path-ends_at_endpoint : PathEndsAtEndpoint
path-ends_at_endpoint nodes accepted manager address less is =
    let ends : Ends nodes (from nodes address (length (plan_nodes nodes)) (first_part nodes manager)) =
    ends-by nodes accepted address (length (plan_nodes nodes)) (first_part nodes manager) (manager-at nodes manager (node_at nodes manager).kind less refl is) (omega arith) in
    record { node = ends.node; at = ends.at; endpoint = ends.endpoint }

-- ---- one path a page

good-regions : (nodes : List DocumentNode) → IsAccepted nodes → (place : ℕ) → place < length nodes → list_any (λ (region : NamedRegion). is_bad_span region.base region.size) (node_at nodes place).region ≡ false
good-regions nodes accepted place less = by (list_any (λ (region : NamedRegion). is_bad_span region.base region.size) (node_at nodes place).region) refl (accepted-is_clean nodes accepted place less).regions_are_good
  where
    by : (b : Bool) → list_any (λ (region : NamedRegion). is_bad_span region.base region.size) (node_at nodes place).region ≡ b → has_bad_region nodes place ≡ false →
        list_any (λ (region : NamedRegion). is_bad_span region.base region.size) (node_at nodes place).region ≡ false
    by true f good = absurd cc
    by false f good = f

good-ported : (nodes : List DocumentNode) (node : DocumentNode) → list_any (λ (region : NamedRegion). is_bad_span region.base region.size) node.region ≡ false → list_any is_bad_region (ported_regions nodes node) ≡ false
good-ported nodes node e = go node.region e
  where
    ported : NamedRegion → Region
    ported region = record { base = region.base; size = region.size; port = place_in (targets_of nodes node) (unwrap_or (named nodes region.to) 0) }

    go : (regions : List NamedRegion) → list_any (λ (region : NamedRegion). is_bad_span region.base region.size) regions ≡ false → list_any is_bad_region (map (λ (region : NamedRegion). ported region) regions) ≡ false
    go [] e = refl
    go (r ∷ rs) e =
        let parts : (is_bad_span r.base r.size ≡ false) × (list_any (λ (region : NamedRegion). is_bad_span region.base region.size) rs ≡ false) =
        or_parts (is_bad_span r.base r.size) (list_any (λ (region : NamedRegion). is_bad_span region.base region.size) rs) e in
        or_from (is_bad_span r.base r.size) (list_any is_bad_region (map (λ (region : NamedRegion). ported region) rs)) parts.0 (go rs parts.1)

next-page : (nodes : List DocumentNode) → IsAccepted nodes → (one other : ℕ) (node : PlanNode) (p : Part) → node.document < length nodes → one / 4096 ≡ other / 4096 → next_by_part nodes one node p ≡ next_by_part nodes other node p
next-page nodes accepted one other node part.Demux less same =
    let bad : list_any (λ (region : NamedRegion). is_bad_span region.base region.size) (node_at nodes node.document).region ≡ false = good-regions nodes accepted node.document less in
    ap (λ port. slice_get node.lower (unwrap_or port (length (targets nodes node.document))))
    (page-port (ported_regions nodes (node_at nodes node.document)) one other (good-ported nodes (node_at nodes node.document) bad) same)
next-page nodes accepted one other node other_part less same = refl

page-by : (nodes : List DocumentNode) → IsAccepted nodes → (one other most number : ℕ) → one / 4096 ≡ other / 4096 → from nodes one most number ≡ from nodes other most number
unfolding path_from
page-by nodes accepted one other zero number same = refl
page-by nodes accepted one other (suc most) number same =
    let on : onward nodes one number ≡ onward nodes other number = both (slice_get (plan_nodes nodes) number) refl in
    elim (cases-Option (onward nodes one number)) [
      | inl stops ↦ path-stops nodes one most number stops ∙ sym (path-stops nodes other most number (sym on ∙ stops))
      | inr more ↦
          path-goes_on nodes one most number more.0 more.1 ∙ ap (λ path. number ∷ path) (page-by nodes accepted one other most more.0 same)
          ∙ sym (path-goes_on nodes other most number more.0 (sym on ∙ more.1))
    ]
  where
    both : (o : Option PlanNode) → slice_get (plan_nodes nodes) number ≡ o → option_and_then (next_part nodes one) (slice_get (plan_nodes nodes) number) ≡ option_and_then (next_part nodes other) (slice_get (plan_nodes nodes) number)
    both None at = ap (option_and_then (next_part nodes one)) at ∙ sym (ap (option_and_then (next_part nodes other)) at)
    both (Some node) at =
        let spot : Part_at nodes number node = part-at nodes number node at in
        let less : node.document < length nodes = omega (arith, spot.within, form-document nodes spot.place spot.inner node (node_at nodes spot.place).kind spot.form) in
        ap (option_and_then (next_part nodes one)) at ∙ next-page nodes accepted one other node node.part less same ∙ sym (ap (option_and_then (next_part nodes other)) at)

pub page-has_one_path : PageHasOnePath
page-has_one_path nodes accepted manager one other same = page-by nodes accepted one other (length (plan_nodes nodes)) (first_part nodes manager) same
