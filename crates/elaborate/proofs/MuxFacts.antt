-- The plan nodes above a mux.
use Rattle.std.proofs.Common.{◌≡◌, ◌<◌, ◌≤◌, ◌+◌, ◌*◌, ℕ, Bool, true, false, List, [], Some, length, map, refl, sym, ◌∙◌, ap, subst, arith}
use Rattle.std.specs.Prelude.{slice_get, slice_index_or, if◌then◌else◌}
use Rattle.std.proofs.lemmas.Bool.{false≢true, true≢false}
use Rattle.std.proofs.lemmas.List.{length-map}
use Rattle.std.proofs.lemmas.List.FromFn.{length-map-range_with_len}
use Rattle.node_graph.specs.Graph.{is_in, nodes_below, numbers}
use Rattle.node_graph.specs.Order.{place_in, repeats}
use Rattle.node_graph.proofs.Members.{few-differ, numbers-in}
use Rattle.topology.specs.Document.{DocumentNode, node_at, uppers_of}
use Rattle.elaborate.specs.Laws.{is_mux}
use Rattle.elaborate.specs.LinkLaws.{MuxesHaveFewInputs}
use Rattle.elaborate.specs.Plan.{PlanNode, first_part, plan_graph, plan_nodes, target_mux}
use Rattle.elaborate.specs.declared.part.Part.{Part}
use Rattle.elaborate.specs.declared.part.Part.TheVariants as part
use Rattle.elaborate.proofs.Forms.{input_count}
use Rattle.elaborate.proofs.LinkForms.{Entered, Leads, exit_of, is_behind, is_mux_kind, place-within, target-upper}
use Rattle.elaborate.proofs.LinkForms.Leads.{Enters, Joins, Steps}
use Rattle.elaborate.proofs.Lists.{Some-same, in-mapped, mapped-in}
use Rattle.elaborate.proofs.Once.{repeats-mapped}
use Rattle.elaborate.proofs.PlanFacts.{Known, entered-target, known-link, target-at}
use Rattle.elaborate.proofs.Uppers.{nth-place}

-- some numbers of a list, of which none repeats
some-of : (list some : List ℕ) → repeats some ≡ false → ((x : ℕ) → is_in some x ≡ true → is_in list x ≡ true) → length some ≤ length list
some-of list some once there =
    subst (λ (n : ℕ). n ≤ length list) (length-map some (place_in list))
    (few-differ (length list) (map (place_in list) some)
    (λ place among. let found : (x : ℕ) × (is_in some x ≡ true) × (place_in list x ≡ place) = in-mapped (place_in list) some place among in
    subst (λ (n : ℕ). n < length list) found.2 (place-within list found.0 (there found.0 found.1)))
    (repeats-mapped (place_in list) some
    (λ x y one other same. sym (nth-place list x (there x one)) ∙ ap (λ n. slice_index_or list n 0) same ∙ nth-place list y (there y other)) once))

-- where the links to a mux begin: at the uppers of a mux of the document, or at the inputs of a crossbar
abbrev begins_at : List DocumentNode → ℕ → Bool → List ℕ
begins_at nodes place joint =
    if joint then map (λ upper. first_part nodes upper + exit_of nodes upper place) (uppers_of nodes place) else map (λ i. first_part nodes place + 2 * i) (numbers (input_count nodes place))

begins-long : (nodes : List DocumentNode) (place : ℕ) (joint : Bool) → length (begins_at nodes place joint) ≡ length (uppers_of nodes place)
unfolding numbers
begins-long nodes place true = length-map (uppers_of nodes place) (λ upper. first_part nodes upper + exit_of nodes upper place)
begins-long nodes place false = length-map-range_with_len (λ i. first_part nodes place + 2 * i) 0 (input_count nodes place)

mux-behind : (p : Part) → is_behind p ≡ true → is_mux p ≡ false
mux-behind part.Mux e = absurd (false≢true e)
mux-behind other e = refl

begins-by : (nodes : List DocumentNode) (upper number : ℕ) (node : PlanNode) (known : Known nodes upper number) → slice_get (plan_nodes nodes) number ≡ Some node → is_mux node.part ≡ true
    → Leads nodes known.place known.inner known.node number → is_in (begins_at nodes node.document (is_mux_kind (node_at nodes node.document).kind)) upper ≡ true
begins-by nodes upper number node known at mux (Enters to target is out) =
    let entry : Entered nodes to number = entered-target nodes known.place to number known.within target is in
    let same : entry.node ≡ node = Some-same entry.node node (sym entry.at ∙ at) in
    let document : to ≡ node.document = sym entry.document ∙ ap (λ (x : PlanNode). x.document) same in
    let joint : is_mux_kind (node_at nodes to).kind ≡ true = sym entry.joint ∙ ap (λ (x : PlanNode). is_mux x.part) same ∙ mux in
    let begin : first_part nodes known.place + exit_of nodes known.place to ≡ upper = sym (known.sum ∙ ap (λ (n : ℕ). first_part nodes known.place + n) out) in
    subst (λ (n : ℕ). is_in (begins_at nodes n (is_mux_kind (node_at nodes n).kind)) upper ≡ true) document
    (subst (λ (b : Bool). is_in (begins_at nodes to b) upper ≡ true) (sym joint)
    (subst (λ (n : ℕ). is_in (begins_at nodes to true) n ≡ true) begin
    (mapped-in (λ upper. first_part nodes upper + exit_of nodes upper to) (uppers_of nodes to) known.place (target-upper nodes known.place to known.within target))))
begins-by nodes upper number node known at mux (Steps flat is behind) =
    absurd (true≢false (sym mux ∙ ap (λ (x : PlanNode). is_mux x.part) (Some-same node behind.node (sym at ∙ behind.at)) ∙ mux-behind behind.node.part behind.behind))
begins-by nodes upper number node known at mux (Joins i j flat is within first less sum) =
    let same : target_mux nodes known.place j ≡ node = Some-same (target_mux nodes known.place j) node (sym (target-at nodes known.place j number known.within is less sum) ∙ at) in
    let begin : first_part nodes known.place + 2 * i ≡ upper = sym (known.sum ∙ ap (λ (n : ℕ). first_part nodes known.place + n) first) in
    subst (λ (n : ℕ). is_in (begins_at nodes n (is_mux_kind (node_at nodes n).kind)) upper ≡ true) (ap (λ (x : PlanNode). x.document) same)
    (subst (λ (b : Bool). is_in (begins_at nodes known.place b) upper ≡ true) (sym (ap is_mux_kind is))
    (subst (λ (n : ℕ). is_in (begins_at nodes known.place false) n ≡ true) begin
    (mapped-in (λ i. first_part nodes known.place + 2 * i) (numbers (input_count nodes known.place)) i (numbers-in (input_count nodes known.place) i within))))

pub muxes-have_few_inputs : MuxesHaveFewInputs
muxes-have_few_inputs nodes number node at mux above once below =
    subst (λ (n : ℕ). length above ≤ n) (begins-long nodes node.document (is_mux_kind (node_at nodes node.document).kind))
    (some-of (begins_at nodes node.document (is_mux_kind (node_at nodes node.document).kind)) above once
    (λ upper there. let known : Known nodes upper number = known-link nodes upper number (below upper there) in begins-by nodes upper number node known at mux known.leads))
