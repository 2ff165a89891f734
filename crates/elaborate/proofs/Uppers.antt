-- The plan nodes above another one.
use Rattle.std.proofs.Common.{◌≡◌, ◌<◌, ◌≤◌, ◌+◌, ◌*◌, ◌==◌, ℕ, zero, suc, Bool, true, false, cond, not, List, [], ◌∷◌, length, map, Some, refl, sym, ◌∙◌, ap, inl, inr, arith}
use Rattle.std.specs.Prelude.{slice_get, slice_index_or, nat_lt, if◌then◌else◌}
use Rattle.std.specs.List.{range_with_len}
use Rattle.std.proofs.lemmas.Bool.{and_cases, cases_eq, eq-eqb, false_from_ne_true, false≢true, ltb-false, ne_eqb, true≢false}
use Rattle.node_graph.specs.Graph.{is_in, nodes_below, numbers}
use Rattle.node_graph.specs.Order.{place_in, repeats}
use Rattle.node_graph.proofs.Levels.{in-back, in-front}
use Rattle.node_graph.proofs.Members.{in-cases, in-first, numbers-in, repeats-filter, repeats-range}
use Rattle.node_graph.proofs.Ways.{above-below, upper-known}
use Rattle.topology.proofs.AcceptedFacts.{accepted-is_clean, below-targets, graph-long, target-known}
use Rattle.topology.specs.Document.{DocumentNode, graph_of, is_manager, joins_links, node_at, uppers_of}
use Rattle.topology.specs.Refused.{IsAccepted}
use Rattle.topology_text.specs.declared.kind.Kind.{Kind}
use Rattle.topology_text.specs.declared.kind.Kind.TheVariants as kind
use Rattle.elaborate.specs.Laws.{NoneIsAbove, SomeIsAbove, is_first}
use Rattle.elaborate.specs.Plan.{PlanNode, demux_itself, entrance, entrances, first_part, input_demux, is_crossbar, itself, plan_graph, plan_nodes, split_part, target_mux, targets}
use Rattle.elaborate.specs.declared.part.Part.{Part}
use Rattle.elaborate.specs.declared.part.Part.TheVariants as part
use Rattle.elaborate.proofs.Forms.{Form, Part_at, get-behind, get-input, get-own, get-split, input_count, own_part, part-at, split_kind, target_count}
use Rattle.elaborate.proofs.Forms.Form.{Behind, Demux, DemuxError, Input, InputError, Own, Split, Target}
use Rattle.elaborate.proofs.LinkForms.{Entered, Leads, at-kind, exit_of, exit_by, is_behind, place-nth, place-within, target-upper}
use Rattle.elaborate.proofs.LinkForms.Leads.{Enters, Joins, Steps}
use Rattle.elaborate.proofs.Lists.{None-Some, Some-same, mapped-in, nth-in}
use Rattle.elaborate.proofs.PlanFacts.{Known, entered-target, known-link, target-at}

-- ---- below a plan node

pub node-below : (nodes : List DocumentNode) (upper lower : ℕ) (node : PlanNode) → slice_get (plan_nodes nodes) upper ≡ Some node → is_in node.lower lower ≡ true → is_in (nodes_below (plan_graph nodes) upper) lower ≡ true
node-below nodes upper lower node at there = go (plan_nodes nodes) upper at
  where
    go : (plan : List PlanNode) (upper : ℕ) → slice_get plan upper ≡ Some node → is_in (slice_index_or (map (λ (node : PlanNode). node.lower) plan) upper []) lower ≡ true
    go [] upper at = absurd (None-Some node at)
    go (x ∷ xs) zero at = ap (λ (n : PlanNode). is_in n.lower lower) (Some-same x node at) ∙ there
    go (x ∷ xs) (suc upper) at = go xs upper at

pub nth-place : (xs : List ℕ) (x : ℕ) → is_in xs x ≡ true → slice_index_or xs (place_in xs x) 0 ≡ x
nth-place [] x e = absurd (false≢true e)
nth-place (y ∷ ys) x e =
    elim (cases_eq y x) [
      | inl same ↦ ap (λ n. slice_index_or (y ∷ ys) n 0) (first (y == x) (place_in ys x) (eq-eqb y x same)) ∙ same
      | inr other ↦ elim (in-cases y ys x e) [
        | inl same ↦ absurd (other same)
        | inr there ↦ ap (λ n. slice_index_or (y ∷ ys) n 0) (later (y == x) (place_in ys x) (ne_eqb y x other)) ∙ nth-place ys x there
      ]
    ]
  where
    first : (b : Bool) (n : ℕ) → b ≡ true → cond (not b) (1 + n) 0 ≡ 0
    first true n e = refl
    first false n e = absurd (false≢true e)

    later : (b : Bool) (n : ℕ) → b ≡ false → cond (not b) (1 + n) 0 ≡ suc n
    later true n e = absurd (true≢false e)
    later false n e = omega arith

-- ---- from a document node to its target

pub record Exit (nodes : List DocumentNode) (place to : ℕ) : Type 0 where
  pub node : PlanNode
  pub at : slice_get (plan_nodes nodes) (first_part nodes place + exit_of nodes place to) ≡ Some node
  pub there : is_in node.lower (entrance nodes place to) ≡ true

at-exit : (nodes : List DocumentNode) (place to inner : ℕ) (node : PlanNode) (k : Kind) → (node_at nodes place).kind ≡ k → slice_get (plan_nodes nodes) (first_part nodes place + inner) ≡ Some node →
    exit_by k (input_count nodes place) (place_in (targets nodes place) to) ≡ inner → slice_get (plan_nodes nodes) (first_part nodes place + exit_of nodes place to) ≡ Some node
at-exit nodes place to inner node k is at exit =
    ap (λ n. slice_get (plan_nodes nodes) (first_part nodes place + n)) (ap (λ k. exit_by k (input_count nodes place) (place_in (targets nodes place) to)) is ∙ exit) ∙ at

enters-it : (nodes : List DocumentNode) (place to : ℕ) → is_in (targets nodes place) to ≡ true → is_in (entrances nodes place) (entrance nodes place to) ≡ true
enters-it nodes place to there = mapped-in (entrance nodes place) (targets nodes place) to there

exit-own : (nodes : List DocumentNode) (place to : ℕ) (k : Kind) (p : Part) → place < length nodes → (node_at nodes place).kind ≡ k → own_part k ≡ Some p → exit_by k (input_count nodes place) (place_in (targets nodes place) to) ≡ 0 → is_in (targets nodes place) to ≡ true → Exit nodes place to
exit-own nodes place to k p less is own none there =
    record {
      node = itself nodes place p;
      at = at-exit nodes place to 0 (itself nodes place p) k is (at-kind nodes place 0 (first_part nodes place + 0) (itself nodes place p) k less is (get-own nodes place p k own) refl) none;
      there = enters-it nodes place to there;
    }

exit-behind : (nodes : List DocumentNode) (place to : ℕ) (k : Kind) (p : Part) → place < length nodes → (node_at nodes place).kind ≡ k → split_kind k ≡ Some p → exit_by k (input_count nodes place) (place_in (targets nodes place) to) ≡ 1 → is_in (targets nodes place) to ≡ true → Exit nodes place to
exit-behind nodes place to k p less is split one there =
    record {
      node = itself nodes place p;
      at = at-exit nodes place to 1 (itself nodes place p) k is (at-kind nodes place 1 (first_part nodes place + 1) (itself nodes place p) k less is (get-behind nodes place p k split) refl) one;
      there = enters-it nodes place to there;
    }

exit-by : (nodes : List DocumentNode) (place to : ℕ) (k : Kind) → place < length nodes → (node_at nodes place).kind ≡ k → is_in (targets nodes place) to ≡ true → Exit nodes place to
exit-by nodes place to kind.Manager less is there = exit-own nodes place to kind.Manager part.Manager less is refl refl there
exit-by nodes place to kind.Memory less is there = exit-own nodes place to kind.Memory part.Memory less is refl refl there
exit-by nodes place to kind.LiteMemory less is there = exit-own nodes place to kind.LiteMemory part.LiteMemory less is refl refl there
exit-by nodes place to kind.Slice less is there = exit-own nodes place to kind.Slice part.Slice less is refl refl there
exit-by nodes place to kind.Mux less is there = exit-own nodes place to kind.Mux part.Mux less is refl refl there
exit-by nodes place to kind.Remap less is there = exit-own nodes place to kind.Remap part.Remap less is refl refl there
exit-by nodes place to kind.Up less is there = exit-own nodes place to kind.Up part.Up less is refl refl there
exit-by nodes place to kind.Down less is there = exit-behind nodes place to kind.Down part.Down less is refl refl there
exit-by nodes place to kind.Lite less is there = exit-behind nodes place to kind.Lite part.Lite less is refl refl there
exit-by nodes place to kind.Demux less is there =
    record {
      node = demux_itself nodes place;
      at = at-exit nodes place to 0 (demux_itself nodes place) kind.Demux is (at-kind nodes place 0 (first_part nodes place + 0) (demux_itself nodes place) kind.Demux less is refl refl) refl;
      there = in-front (entrances nodes place) ((first_part nodes place + 1) ∷ []) (entrance nodes place to) (enters-it nodes place to there);
    }
exit-by nodes place to kind.Crossbar less is there =
    let within : place_in (targets nodes place) to < target_count nodes place = place-within (targets nodes place) to there in
    record {
      node = target_mux nodes place (place_in (targets nodes place) to);
      at = at-exit nodes place to (2 * input_count nodes place + place_in (targets nodes place) to) (target_mux nodes place (place_in (targets nodes place) to)) kind.Crossbar is
          (target-at nodes place (place_in (targets nodes place) to) (first_part nodes place + (2 * input_count nodes place + place_in (targets nodes place) to)) less is within refl) refl;
      there = in-first (entrance nodes place (slice_index_or (targets nodes place) (place_in (targets nodes place) to) 0)) [] (entrance nodes place to) (ap (entrance nodes place) (nth-place (targets nodes place) to there));
    }

pub exit : (nodes : List DocumentNode) (place to : ℕ) → place < length nodes → is_in (targets nodes place) to ≡ true → Exit nodes place to
exit nodes place to less there = exit-by nodes place to (node_at nodes place).kind less refl there

-- an upper of a document node has it among its targets, so that a link leads from it to where it is entered
record Above (nodes : List DocumentNode) (number : ℕ) : Type 0 where
  upper : ℕ
  there : is_in (nodes_below (plan_graph nodes) upper) number ≡ true

from-upper : (nodes : List DocumentNode) (place upper number : ℕ) → is_in (uppers_of nodes place) upper ≡ true → entrance nodes upper place ≡ number → Above nodes number
from-upper nodes place upper number e is =
    let down : is_in (nodes_below (graph_of nodes) upper) place ≡ true = above-below (graph_of nodes) place upper e in
    let less : upper < length nodes = omega (arith, upper-known (graph_of nodes) upper place down, graph-long nodes) in
    let out : Exit nodes upper place = exit nodes upper place less (ap (λ (ts : List ℕ). is_in ts place) (sym (below-targets nodes upper less)) ∙ down) in
    record {
      upper = first_part nodes upper + exit_of nodes upper place;
      there = node-below nodes (first_part nodes upper + exit_of nodes upper place) number out.node out.at (ap (is_in out.node.lower) (sym is) ∙ out.there);
    }

-- a node that isn't a manager has an upper
some-upper : (nodes : List DocumentNode) → IsAccepted nodes → (place : ℕ) → place < length nodes → is_manager (node_at nodes place).kind ≡ false → 0 < length (uppers_of nodes place)
some-upper nodes accepted place less other =
    elim (and_cases (not (is_manager (node_at nodes place).kind)) (length (uppers_of nodes place) == 0) (accepted-is_clean nodes accepted place less).upper_is_there) [
      | inl no_test ↦ absurd (true≢false (ap not (sym other) ∙ no_test))
      | inr some ↦ go (length (uppers_of nodes place)) some
    ]
  where
    go : (n : ℕ) → (n == 0) ≡ false → 0 < n
    go zero e = absurd (true≢false e)
    go (suc n) e = omega arith

from-first : (nodes : List DocumentNode) → IsAccepted nodes → (place number : ℕ) (k : Kind) → place < length nodes → (node_at nodes place).kind ≡ k → is_manager k ≡ false → is_crossbar k ≡ false → first_part nodes place ≡ number → Above nodes number
from-first nodes accepted place number k less is not_manager single same =
    let some : 0 < length (uppers_of nodes place) = some-upper nodes accepted place less (ap is_manager is ∙ not_manager) in
    from-upper nodes place (slice_index_or (uppers_of nodes place) 0 0) number (nth-in (uppers_of nodes place) 0 some)
    (entered-first (is_crossbar (node_at nodes place).kind) (first_part nodes place + 2 * place_in (uppers_of nodes place) (slice_index_or (uppers_of nodes place) 0 0)) (first_part nodes place) (ap is_crossbar is ∙ single) ∙ same)
  where
    entered-first : (b : Bool) (x y : ℕ) → b ≡ false → (if b then x else y) ≡ y
    entered-first true x y e = absurd (true≢false e)
    entered-first false x y e = refl

repeats-uppers : (nodes : List DocumentNode) (place : ℕ) → repeats (uppers_of nodes place) ≡ false
unfolding numbers
repeats-uppers nodes place =
    repeats-filter (λ other. is_in (nodes_below (graph_of nodes) other) place) (range_with_len 0 (length (graph_of nodes))) (repeats-range 0 (length (graph_of nodes)))

from-input : (nodes : List DocumentNode) (place i number : ℕ) → (node_at nodes place).kind ≡ kind.Crossbar → i < input_count nodes place → first_part nodes place + 2 * i ≡ number → Above nodes number
from-input nodes place i number is less same =
    let port : place_in (uppers_of nodes place) (slice_index_or (uppers_of nodes place) i 0) ≡ i = place-nth (uppers_of nodes place) i (repeats-uppers nodes place) less in
    from-upper nodes place (slice_index_or (uppers_of nodes place) i 0) number (nth-in (uppers_of nodes place) i less)
    (entered-input (is_crossbar (node_at nodes place).kind) (first_part nodes place + 2 * place_in (uppers_of nodes place) (slice_index_or (uppers_of nodes place) i 0)) (first_part nodes place) (ap is_crossbar is)
    ∙ omega (arith, port, same))
  where
    entered-input : (b : Bool) (x y : ℕ) → b ≡ true → (if b then x else y) ≡ x
    entered-input true x y e = refl
    entered-input false x y e = absurd (false≢true e)

own-first : (k : Kind) (p : Part) → own_part k ≡ Some p → is_first p ≡ false → (is_manager k ≡ false) × (is_crossbar k ≡ false)
own-first kind.Manager p e f = absurd (true≢false (ap is_first (Some-same part.Manager p e) ∙ f))
own-first kind.Crossbar p e f = absurd (None-Some p e)
own-first other p e f = (refl, refl)

split-first : (k : Kind) (p : Part) → split_kind k ≡ Some p → (is_manager k ≡ false) × (is_crossbar k ≡ false)
split-first kind.Manager p e = absurd (None-Some p e)
split-first kind.Crossbar p e = absurd (None-Some p e)
split-first other p e = (refl, refl)

above-by : (nodes : List DocumentNode) → IsAccepted nodes → (place inner number : ℕ) (node : PlanNode) → place < length nodes → number ≡ first_part nodes place + inner → is_first node.part ≡ false → Form nodes place inner node (node_at nodes place).kind → Above nodes number
unfolding numbers
above-by nodes accepted place inner number node less sum other (Own p own first is) =
    let clean : (is_manager (node_at nodes place).kind ≡ false) × (is_crossbar (node_at nodes place).kind ≡ false) = own-first (node_at nodes place).kind p own (ap (λ (x : PlanNode). is_first x.part) (sym is) ∙ other) in
    from-first nodes accepted place number (node_at nodes place).kind less refl clean.0 clean.1 (omega (arith, sum, first))
above-by nodes accepted place inner number node less sum other (Split p split first is) =
    let clean : (is_manager (node_at nodes place).kind ≡ false) × (is_crossbar (node_at nodes place).kind ≡ false) = split-first (node_at nodes place).kind p split in
    from-first nodes accepted place number (node_at nodes place).kind less refl clean.0 clean.1 (omega (arith, sum, first))
above-by nodes accepted place inner number node less sum other (Behind p split first is) =
    record {
      upper = first_part nodes place;
      there = node-below nodes (first_part nodes place) number (split_part nodes place)
          (at-kind nodes place 0 (first_part nodes place) (split_part nodes place) (node_at nodes place).kind less refl (get-split nodes place p (node_at nodes place).kind split) (omega arith))
          (in-first (first_part nodes place + 1) [] number (omega (arith, sum, first)));
    }
above-by nodes accepted place inner number node less sum other (Demux k first is) = from-first nodes accepted place number kind.Demux less k refl refl (omega (arith, sum, first))
above-by nodes accepted place inner number node less sum other (DemuxError k first is) =
    record {
      upper = first_part nodes place;
      there = node-below nodes (first_part nodes place) number (demux_itself nodes place)
          (at-kind nodes place 0 (first_part nodes place) (demux_itself nodes place) kind.Demux less k refl (omega arith))
          (in-back (entrances nodes place) ((first_part nodes place + 1) ∷ []) number (in-first (first_part nodes place + 1) [] number (omega (arith, sum, first))));
    }
above-by nodes accepted place inner number node less sum other (Input i k within first is) = from-input nodes place i number k within (omega (arith, sum, first))
above-by nodes accepted place inner number node less sum other (InputError i k within first is) =
    record {
      upper = first_part nodes place + 2 * i;
      there = node-below nodes (first_part nodes place + 2 * i) number (input_demux nodes place i)
          (at-kind nodes place (2 * i + 0) (first_part nodes place + 2 * i) (input_demux nodes place i) kind.Crossbar less k (get-input nodes place i 0 (input_demux nodes place i) within refl) (omega arith))
          (in-back (map (λ j. first_part nodes place + 2 * input_count nodes place + j) (numbers (target_count nodes place))) ((first_part nodes place + 2 * i + 1) ∷ []) number
          (in-first (first_part nodes place + 2 * i + 1) [] number (omega (arith, sum, first))));
    }
above-by nodes accepted place inner number node less sum other (Target j k within first is) =
    let some : 0 < input_count nodes place = some-upper nodes accepted place less (ap is_manager k) in
    record {
      upper = first_part nodes place + 2 * 0;
      there = node-below nodes (first_part nodes place + 2 * 0) number (input_demux nodes place 0)
          (at-kind nodes place (2 * 0 + 0) (first_part nodes place + 2 * 0) (input_demux nodes place 0) kind.Crossbar less k (get-input nodes place 0 0 (input_demux nodes place 0) some refl) (omega arith))
          (in-front (map (λ j. first_part nodes place + 2 * input_count nodes place + j) (numbers (target_count nodes place))) ((first_part nodes place + 2 * 0 + 1) ∷ []) number
          (ap (is_in (map (λ j. first_part nodes place + 2 * input_count nodes place + j) (numbers (target_count nodes place)))) (omega (arith, sum, first))
          ∙ mapped-in (λ j. first_part nodes place + 2 * input_count nodes place + j) (numbers (target_count nodes place)) j (numbers-in (target_count nodes place) j within)));
    }

pub some-is_above : SomeIsAbove
some-is_above nodes accepted lower node at other =
    let spot : Part_at nodes lower node = part-at nodes lower node at in
    let found : Above nodes lower = above-by nodes accepted spot.place spot.inner lower node spot.within spot.sum other spot.form in
    (found.upper, found.there)

-- ---- none above a manager

first-behind : (p : Part) → is_behind p ≡ true → is_first p ≡ false
first-behind part.Manager e = absurd (false≢true e)
first-behind other e = refl

pub no_upper : (nodes : List DocumentNode) → IsAccepted nodes → (place upper : ℕ) → place < length nodes → is_manager (node_at nodes place).kind ≡ true → is_in (uppers_of nodes place) upper ≡ true → ⊥
no_upper nodes accepted place upper less manager there =
    elim (and_cases (not (joins_links (node_at nodes place).kind)) (nat_lt (if is_manager (node_at nodes place).kind then 0 else 1) (length (uppers_of nodes place))) (accepted-is_clean nodes accepted place less).uppers_are_few) [
      | inl no_test ↦ true≢false (ap not (sym (manager-joins (node_at nodes place).kind manager)) ∙ no_test)
      | inr few ↦ omega (arith, place-within (uppers_of nodes place) upper there, most (is_manager (node_at nodes place).kind) (length (uppers_of nodes place)) manager few)
    ]
  where
    manager-joins : (k : Kind) → is_manager k ≡ true → joins_links k ≡ false
    manager-joins kind.Manager e = refl
    manager-joins other e = absurd (false≢true e)

    most : (b : Bool) (n : ℕ) → b ≡ true → nat_lt (if b then 0 else 1) n ≡ false → n ≤ 0
    most true n e few = ltb-false 0 n few
    most false n e few = absurd (false≢true e)

none-above_by : (nodes : List DocumentNode) → IsAccepted nodes → (upper lower : ℕ) (node : PlanNode) (known : Known nodes upper lower) → slice_get (plan_nodes nodes) lower ≡ Some node → is_first node.part ≡ true → Leads nodes known.place known.inner known.node lower → ⊥
none-above_by nodes accepted upper lower node known at first (Enters to there is out) =
    let to_node : Entered nodes to lower = entered-target nodes known.place to lower known.within there is in
    no_upper nodes accepted to known.place (target-known nodes (node_at nodes known.place) to there)
    (sym to_node.first ∙ ap (λ (x : PlanNode). is_first x.part) (Some-same to_node.node node (sym to_node.at ∙ at)) ∙ first) (target-upper nodes known.place to known.within there)
none-above_by nodes accepted upper lower node known at first (Steps flat is behind) =
    true≢false (sym first ∙ ap (λ (x : PlanNode). is_first x.part) (Some-same node behind.node (sym at ∙ behind.at)) ∙ first-behind behind.node.part behind.behind)
none-above_by nodes accepted upper lower node known at first (Joins i j flat is within f less sum) =
    true≢false (sym first ∙ ap (λ (x : PlanNode). is_first x.part) (Some-same node (target_mux nodes known.place j) (sym at ∙ target-at nodes known.place j lower known.within is less sum)))

pub none-is_above : NoneIsAbove
none-is_above nodes accepted lower node at first upper =
    false_from_ne_true (is_in (nodes_below (plan_graph nodes) upper) lower)
    (λ e. let known : Known nodes upper lower = known-link nodes upper lower e in none-above_by nodes accepted upper lower node known at first known.leads)
