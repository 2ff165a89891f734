-- What holds of the links of a plan.
use Rattle.std.proofs.Common.{◌≡◌, ◌<◌, ◌≤◌, ◌+◌, ◌*◌, ◌==◌, ℕ, zero, suc, Bool, true, false, cond, not, List, [], ◌∷◌, length, map, Option, Some, refl, sym, ◌∙◌, ap, subst, inl, inr, arith, lit≤}
use Rattle.std.specs.Prelude.{nat_lt, slice_get, slice_index_or, if◌then◌else◌}
use Rattle.std.specs.Option.{option_map_or}
use Rattle.std.proofs.lemmas.Bool.{and_cases, cases_Bool, cases_eq, eq-eqb, false≢true, ltb-false, ne_eqb, true≢false}
use Rattle.std.proofs.lemmas.Option.{slice_get_within}
use Rattle.node_graph.specs.Graph.{depth_of, is_in, nodes_below}
use Rattle.node_graph.specs.Order.{place_in}
use Rattle.node_graph.proofs.Members.{in-cases}
use Rattle.node_graph.proofs.Ways.{links-lead_deeper, ranked-acyclic}
use Rattle.topology.proofs.AcceptedFacts.{accepted-is_acyclic, accepted-is_clean, below-targets, graph-long, target-known}
use Rattle.topology.specs.Document.{DocumentNode, graph_of, is_manager, joins_links, node_at, uppers_of}
use Rattle.topology.specs.Refused.{IsAccepted}
use Rattle.topology_text.specs.declared.kind.Kind.{Kind}
use Rattle.topology_text.specs.declared.kind.Kind.TheVariants as kind
use Rattle.elaborate.specs.Laws.{LowersAreNodes, OneIsAbove, PlanIsAcyclic, is_mux}
use Rattle.elaborate.specs.Plan.{PlanNode, entrance, first_part, is_crossbar, plan_graph, plan_nodes, target_mux, targets}
use Rattle.elaborate.specs.declared.part.Part.{Part}
use Rattle.elaborate.specs.declared.part.Part.TheVariants as part
use Rattle.elaborate.proofs.Forms.{Form, Part_at, get-target, part-at}
use Rattle.elaborate.proofs.Forms.Form.{Behind, Demux, DemuxError, Input, InputError, Own, Split, Target}
use Rattle.elaborate.proofs.LinkForms.{Entered, Leads, at-kind, entered, exit_of, is_behind, is_mux_kind, leads, step_of, target-upper}
use Rattle.elaborate.proofs.LinkForms.Leads.{Enters, Joins, Steps}
use Rattle.elaborate.proofs.Lists.{Some-same}

-- ---- a node below a plan node

record Link (nodes : List DocumentNode) (upper lower : ℕ) : Type 0 where
  node : PlanNode
  at : slice_get (plan_nodes nodes) upper ≡ Some node
  there : is_in node.lower lower ≡ true

below-node : (plan : List PlanNode) (upper lower : ℕ) → is_in (slice_index_or (map (λ (node : PlanNode). node.lower) plan) upper []) lower ≡ true → (node : PlanNode) × (slice_get plan upper ≡ Some node) × (is_in node.lower lower ≡ true)
below-node [] upper lower e = absurd (false≢true e)
below-node (x ∷ xs) zero lower e = (x, refl, e)
below-node (x ∷ xs) (suc upper) lower e = below-node xs upper lower e

pub form-document : (nodes : List DocumentNode) (place inner : ℕ) (node : PlanNode) (k : Kind) → Form nodes place inner node k → node.document ≡ place
form-document nodes place inner node k (Own p own first is) = ap (λ (x : PlanNode). x.document) is
form-document nodes place inner node k (Split p own first is) = ap (λ (x : PlanNode). x.document) is
form-document nodes place inner node k (Behind p own first is) = ap (λ (x : PlanNode). x.document) is
form-document nodes place inner node k (Demux own first is) = ap (λ (x : PlanNode). x.document) is
form-document nodes place inner node k (DemuxError own first is) = ap (λ (x : PlanNode). x.document) is
form-document nodes place inner node k (Input i own within first is) = ap (λ (x : PlanNode). x.document) is
form-document nodes place inner node k (InputError i own within first is) = ap (λ (x : PlanNode). x.document) is
form-document nodes place inner node k (Target j own within first is) = ap (λ (x : PlanNode). x.document) is

-- a link, with the form of its upper node and where it leads
pub record Known (nodes : List DocumentNode) (upper lower : ℕ) : Type 0 where
  pub place : ℕ
  pub inner : ℕ
  pub node : PlanNode
  pub within : place < length nodes
  pub at : slice_get (plan_nodes nodes) upper ≡ Some node
  pub sum : upper ≡ first_part nodes place + inner
  pub document : node.document ≡ place
  pub form : Form nodes place inner node (node_at nodes place).kind
  pub leads : Leads nodes place inner node lower

pub known-link : (nodes : List DocumentNode) (upper lower : ℕ) → is_in (nodes_below (plan_graph nodes) upper) lower ≡ true → Known nodes upper lower
known-link nodes upper lower e =
    let found : (node : PlanNode) × (slice_get (plan_nodes nodes) upper ≡ Some node) × (is_in node.lower lower ≡ true) = below-node (plan_nodes nodes) upper lower e in
    let spot : Part_at nodes upper found.0 = part-at nodes upper found.0 found.1 in
    record {
      place = spot.place;
      inner = spot.inner;
      node = found.0;
      within = spot.within;
      at = found.1;
      sum = spot.sum;
      document = form-document nodes spot.place spot.inner found.0 (node_at nodes spot.place).kind spot.form;
      form = spot.form;
      leads = leads nodes spot.place spot.inner lower found.0 spot.within spot.form found.2;
    }

-- ---- no cycle

rank_of : List DocumentNode → PlanNode → ℕ
rank_of nodes node = 2 * depth_of (graph_of nodes) node.document + step_of node.part

rank_at : List DocumentNode → ℕ → ℕ
rank_at nodes number = option_map_or (rank_of nodes) (slice_get (plan_nodes nodes) number) 0

rank-node : (nodes : List DocumentNode) (number : ℕ) (node : PlanNode) → slice_get (plan_nodes nodes) number ≡ Some node → rank_at nodes number ≡ 2 * depth_of (graph_of nodes) node.document + step_of node.part
unfolding rank_of rank_at
rank-node nodes number node at = ap (λ (o : Option PlanNode). option_map_or (rank_of nodes) o 0) at

step-small : (p : Part) → step_of p ≤ 1
step-small part.Error = lit≤ tt
step-small part.Down = lit≤ tt
step-small part.Lite = lit≤ tt
step-small part.Mux = lit≤ tt
step-small other = lit≤ tt

behind-step : (p : Part) → is_behind p ≡ true → step_of p ≡ 1
behind-step part.Error e = refl
behind-step part.Down e = refl
behind-step part.Lite e = refl
behind-step other e = absurd (false≢true e)

-- where a target of a document node is entered
pub entered-target : (nodes : List DocumentNode) (place to number : ℕ) → place < length nodes → is_in (targets nodes place) to ≡ true → number ≡ entrance nodes place to → Entered nodes to number
entered-target nodes place to number less there is =
    subst (Entered nodes to) (sym is) (entered nodes place to (target-known nodes (node_at nodes place) to there) (target-upper nodes place to less there))

-- the mux of a crossbar's target
pub target-at : (nodes : List DocumentNode) (place j number : ℕ) → place < length nodes → (node_at nodes place).kind ≡ kind.Crossbar → j < length (targets nodes place) → number ≡ first_part nodes place + (2 * length (uppers_of nodes place) + j) →
    slice_get (plan_nodes nodes) number ≡ Some (target_mux nodes place j)
target-at nodes place j number less is within sum =
    at-kind nodes place (2 * length (uppers_of nodes place) + j) number (target_mux nodes place j) kind.Crossbar less is (get-target nodes place j within) sum

rises-by : (nodes : List DocumentNode) (upper lower : ℕ) (known : Known nodes upper lower) → IsAccepted nodes → Leads nodes known.place known.inner known.node lower → rank_at nodes upper < rank_at nodes lower
rises-by nodes upper lower known accepted (Enters to there is exit) =
    let to_node : Entered nodes to lower = entered-target nodes known.place to lower known.within there is in
    let deeper : depth_of (graph_of nodes) known.place < depth_of (graph_of nodes) to =
    links-lead_deeper (graph_of nodes) (accepted-is_acyclic nodes accepted) known.place to
    (omega (arith, target-known nodes (node_at nodes known.place) to there, graph-long nodes)) (ap (λ (ts : List ℕ). is_in ts to) (below-targets nodes known.place known.within) ∙ there) in
    omega (
      arith,
      deeper,
      rank-node nodes upper known.node known.at,
      rank-node nodes lower to_node.node to_node.at,
      step-small known.node.part,
      ap (depth_of (graph_of nodes)) known.document,
      ap (depth_of (graph_of nodes)) to_node.document,
    )
rises-by nodes upper lower known accepted (Steps flat is behind) =
    omega (
      arith,
      rank-node nodes upper known.node known.at,
      rank-node nodes lower behind.node behind.at,
      flat,
      behind-step behind.node.part behind.behind,
      ap (depth_of (graph_of nodes)) known.document,
      ap (depth_of (graph_of nodes)) behind.document,
    )
rises-by nodes upper lower known accepted (Joins i j flat is within first less sum) =
    omega (
      arith,
      rank-node nodes upper known.node known.at,
      rank-node nodes lower (target_mux nodes known.place j) (target-at nodes known.place j lower known.within is less sum),
      flat,
      ap (depth_of (graph_of nodes)) known.document,
    )

rises : (nodes : List DocumentNode) → IsAccepted nodes → (upper lower : ℕ) → is_in (nodes_below (plan_graph nodes) upper) lower ≡ true → rank_at nodes upper < rank_at nodes lower
rises nodes accepted upper lower e = let known : Known nodes upper lower = known-link nodes upper lower e in rises-by nodes upper lower known accepted known.leads

pub plan-is_acyclic : PlanIsAcyclic
plan-is_acyclic nodes accepted = ranked-acyclic (plan_graph nodes) (rank_at nodes) (rises nodes accepted)

-- ---- below a plan node there are plan nodes

known-by : (nodes : List DocumentNode) (upper lower : ℕ) (known : Known nodes upper lower) → Leads nodes known.place known.inner known.node lower → lower < length (plan_nodes nodes)
known-by nodes upper lower known (Enters to there is exit) =
    let to_node : Entered nodes to lower = entered-target nodes known.place to lower known.within there is in slice_get_within (plan_nodes nodes) lower to_node.node to_node.at
known-by nodes upper lower known (Steps flat is behind) = slice_get_within (plan_nodes nodes) lower behind.node behind.at
known-by nodes upper lower known (Joins i j flat is within first less sum) =
    slice_get_within (plan_nodes nodes) lower (target_mux nodes known.place j) (target-at nodes known.place j lower known.within is less sum)

pub lowers-are_nodes : LowersAreNodes
lowers-are_nodes nodes upper lower e = let known : Known nodes upper lower = known-link nodes upper lower e in known-by nodes upper lower known known.leads

-- ---- one plan node above

one-long : (xs : List ℕ) (x y : ℕ) → length xs ≤ 1 → is_in xs x ≡ true → is_in xs y ≡ true → x ≡ y
one-long [] x y few a b = absurd (false≢true a)
one-long (z ∷ []) x y few a b = sym (only z x a) ∙ only z y b
  where
    only : (z x : ℕ) → is_in (z ∷ []) x ≡ true → z ≡ x
    only z x e = elim (in-cases z [] x e) [ inl same ↦ same | inr there ↦ absurd (false≢true there) ]
one-long (z ∷ w ∷ more) x y few a b = absurd (omega (arith, few))

same-place : (xs : List ℕ) (x y : ℕ) → is_in xs x ≡ true → is_in xs y ≡ true → place_in xs x ≡ place_in xs y → x ≡ y
same-place [] x y a b same = absurd (false≢true a)
same-place (z ∷ zs) x y a b same =
    elim (in-cases z zs x a) [
      | inl here ↦ elim (cases_eq z y) [
        | inl too ↦ sym here ∙ too
        | inr other ↦ absurd (omega (arith, same, at (z == x) (place_in zs x) (eq-eqb z x here), past (z == y) (place_in zs y) (ne_eqb z y other)))
      ]
      | inr there ↦ elim (in-cases z zs y b) [
        | inl here ↦ elim (cases_eq z x) [
          | inl too ↦ sym too ∙ here
          | inr other ↦ absurd (omega (arith, same, at (z == y) (place_in zs y) (eq-eqb z y here), past (z == x) (place_in zs x) (ne_eqb z x other)))
        ]
        | inr too ↦ elim (cases_eq z x) [
          | inl is ↦ elim (cases_eq z y) [
            | inl also ↦ sym is ∙ also
            | inr other ↦ absurd (omega (arith, same, at (z == x) (place_in zs x) (eq-eqb z x is), past (z == y) (place_in zs y) (ne_eqb z y other)))
          ]
          | inr not_x ↦ elim (cases_eq z y) [
            | inl is ↦ absurd (omega (arith, same, at (z == y) (place_in zs y) (eq-eqb z y is), past (z == x) (place_in zs x) (ne_eqb z x not_x)))
            | inr not_y ↦ same-place zs x y there too (omega (arith, same, past (z == x) (place_in zs x) (ne_eqb z x not_x), past (z == y) (place_in zs y) (ne_eqb z y not_y)))
          ]
        ]
      ]
    ]
  where
    at : (b : Bool) (n : ℕ) → b ≡ true → cond (not b) (1 + n) 0 ≡ 0
    at true n e = refl
    at false n e = absurd (false≢true e)

    past : (b : Bool) (n : ℕ) → b ≡ false → cond (not b) (1 + n) 0 ≡ 1 + n
    past true n e = absurd (true≢false e)
    past false n e = refl

-- only a mux or a crossbar has more than one upper
few-uppers : (nodes : List DocumentNode) → IsAccepted nodes → (place : ℕ) → place < length nodes → joins_links (node_at nodes place).kind ≡ false → length (uppers_of nodes place) ≤ 1
few-uppers nodes accepted place less single =
    elim (and_cases (not (joins_links (node_at nodes place).kind)) (nat_lt (if is_manager (node_at nodes place).kind then 0 else 1) (length (uppers_of nodes place))) (accepted-is_clean nodes accepted place less).uppers_are_few) [
      | inl no_test ↦ absurd (true≢false (ap not (sym single) ∙ no_test))
      | inr few ↦ most (is_manager (node_at nodes place).kind) (length (uppers_of nodes place)) few
    ]
  where
    most : (b : Bool) (n : ℕ) → nat_lt (if b then 0 else 1) n ≡ false → n ≤ 1
    most true n e = omega (arith, ltb-false 0 n e)
    most false n e = ltb-false 1 n e

joins-by : (k : Kind) → is_mux_kind k ≡ false → is_crossbar k ≡ false → joins_links k ≡ false
joins-by kind.Mux e f = absurd (true≢false e)
joins-by kind.Crossbar e f = absurd (true≢false f)
joins-by other e f = refl

entrance-place : (b : Bool) (first one other : ℕ) → b ≡ true → (if b then first + 2 * one else first) ≡ (if b then first + 2 * other else first) → one ≡ other
entrance-place true first one other e same = omega (arith, same)
entrance-place false first one other e same = absurd (false≢true e)

-- two nodes that enter a third at the same plan node are one
one-enters : (nodes : List DocumentNode) → IsAccepted nodes → (one other to : ℕ) → one < length nodes → other < length nodes → to < length nodes → is_in (targets nodes one) to ≡ true → is_in (targets nodes other) to ≡ true →
    is_mux_kind (node_at nodes to).kind ≡ false → entrance nodes one to ≡ entrance nodes other to → one ≡ other
one-enters nodes accepted one other to less_one less_other less one_in other_in not_mux same =
    elim (cases_Bool (is_crossbar (node_at nodes to).kind)) [
      | inl crossbar ↦
          same-place (uppers_of nodes to) one other (target-upper nodes one to less_one one_in) (target-upper nodes other to less_other other_in)
          (entrance-place (is_crossbar (node_at nodes to).kind) (first_part nodes to) (place_in (uppers_of nodes to) one) (place_in (uppers_of nodes to) other) crossbar same)
      | inr single ↦
          one-long (uppers_of nodes to) one other (few-uppers nodes accepted to less (joins-by (node_at nodes to).kind not_mux single)) (target-upper nodes one to less_one one_in)
          (target-upper nodes other to less_other other_in)
    ]

mux-at : (nodes : List DocumentNode) (place j lower : ℕ) (node : PlanNode) → place < length nodes → (node_at nodes place).kind ≡ kind.Crossbar → j < length (targets nodes place) → lower ≡ first_part nodes place + (2 * length (uppers_of nodes place) + j) →
    slice_get (plan_nodes nodes) lower ≡ Some node → true ≡ is_mux node.part
mux-at nodes place j lower node less is within sum at =
    ap (λ (x : PlanNode). is_mux x.part) (Some-same (target_mux nodes place j) node (sym (target-at nodes place j lower less is within sum) ∙ at))

one-above_by : (nodes : List DocumentNode) → IsAccepted nodes → (lower : ℕ) (node : PlanNode) → slice_get (plan_nodes nodes) lower ≡ Some node → is_mux node.part ≡ false → (one other : ℕ) (a : Known nodes one lower) (b : Known nodes other lower) →
    Leads nodes a.place a.inner a.node lower → Leads nodes b.place b.inner b.node lower → one ≡ other
one-above_by nodes accepted lower node at not_mux one other a b (Enters to there is exit) (Enters to_too there_too is_too exit_too) =
    let first : Entered nodes to lower = entered-target nodes a.place to lower a.within there is in
    let second : Entered nodes to_too lower = entered-target nodes b.place to_too lower b.within there_too is_too in
    let same_to : to_too ≡ to = sym second.document ∙ ap (λ (x : PlanNode). x.document) (Some-same second.node first.node (sym second.at ∙ first.at)) ∙ first.document in
    let is_node : first.node ≡ node = Some-same first.node node (sym first.at ∙ at) in
    let single : is_mux_kind (node_at nodes to).kind ≡ false = sym first.joint ∙ ap (λ (x : PlanNode). is_mux x.part) is_node ∙ not_mux in
    let there_b : is_in (targets nodes b.place) to ≡ true = ap (is_in (targets nodes b.place)) (sym same_to) ∙ there_too in
    let same_place : a.place ≡ b.place =
    one-enters nodes accepted a.place b.place to a.within b.within (target-known nodes (node_at nodes a.place) to there) there there_b single
    (sym is ∙ is_too ∙ ap (entrance nodes b.place) same_to) in
    let same_inner : a.inner ≡ b.inner = exit ∙ ap (λ p. exit_of nodes p to) same_place ∙ ap (exit_of nodes b.place) (sym same_to) ∙ sym exit_too in
    a.sum ∙ ap (λ p. first_part nodes p + a.inner) same_place ∙ ap (λ i. first_part nodes b.place + i) same_inner ∙ sym b.sum
one-above_by nodes accepted lower node at not_mux one other a b (Steps flat is behind) (Steps flat_too is_too behind_too) = omega (arith, is, is_too, a.sum, b.sum)
one-above_by nodes accepted lower node at not_mux one other a b (Enters to there is exit) (Steps flat_too is_too behind) =
    let first : Entered nodes to lower = entered-target nodes a.place to lower a.within there is in
    absurd (true≢false (sym behind.behind ∙ ap (λ (x : PlanNode). is_behind x.part) (Some-same behind.node first.node (sym behind.at ∙ first.at)) ∙ first.outer))
one-above_by nodes accepted lower node at not_mux one other a b (Steps flat is behind) (Enters to there is_too exit) =
    let first : Entered nodes to lower = entered-target nodes b.place to lower b.within there is_too in
    absurd (true≢false (sym behind.behind ∙ ap (λ (x : PlanNode). is_behind x.part) (Some-same behind.node first.node (sym behind.at ∙ first.at)) ∙ first.outer))
one-above_by nodes accepted lower node at not_mux one other a b (Joins i j flat is within first less sum) second = absurd (true≢false (mux-at nodes a.place j lower node a.within is less sum at ∙ not_mux))
one-above_by nodes accepted lower node at not_mux one other a b first (Joins i j flat is within f less sum) = absurd (true≢false (mux-at nodes b.place j lower node b.within is less sum at ∙ not_mux))

pub one-is_above : OneIsAbove
one-is_above nodes accepted lower node at not_mux one other e f =
    let a : Known nodes one lower = known-link nodes one lower e in
    let b : Known nodes other lower = known-link nodes other lower f in
    one-above_by nodes accepted lower node at not_mux one other a b a.leads b.leads
