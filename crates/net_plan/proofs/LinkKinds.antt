-- What the links around a plan node are, by its document node.
use Rattle.std.proofs.Common.{◌≡◌, ◌<◌, ◌≤◌, ◌+◌, ◌*◌, ◌||◌, ℕ, zero, suc, Bool, true, false, not, List, [], ◌∷◌, length, map, Some, refl, sym, ◌∙◌, ap, subst, inl, inr, arith}
use Rattle.std.specs.Prelude.{nat_lt, slice_get, slice_index_or, if◌then◌else◌}
use Rattle.std.specs.List.{list_any}
use Rattle.std.proofs.lemmas.Bool.{and_cases, false≢true, ltb-false, or_parts, true≢false}
use Rattle.elaborate.proofs.Forms.{Form, input_count, own_part, split_kind}
use Rattle.elaborate.proofs.Forms.Form.{Behind, Demux, DemuxError, Input, InputError, Own, Split, Target}
use Rattle.elaborate.proofs.LinkForms.{Entered, Leads, exit_by, exit_of, is_behind, is_mux_kind, place-within, step_of, target-upper}
use Rattle.elaborate.proofs.LinkForms.Leads.{Enters, Joins, Steps}
use Rattle.elaborate.proofs.Lists.{None-Some, Some-same}
use Rattle.elaborate.proofs.PlanFacts.{Known, entered-target, known-link, target-at}
use Rattle.elaborate.proofs.Uppers.{nth-place}
use Rattle.elaborate.specs.Laws.{is_mux}
use Rattle.elaborate.specs.Plan.{PlanNode, entrance, first_part, is_crossbar, plan_link_at, plan_links, plan_node_at, plan_nodes, target_mux, targets}
use Rattle.elaborate.specs.declared.link.PlanLink.{PlanLink}
use Rattle.elaborate.specs.declared.part.Part.{Part}
use Rattle.elaborate.specs.declared.part.Part.TheVariants as part
use Rattle.net_opening.specs.PlanLinks.{cuts_bursts, form_of_link, links_into, links_out_of}
use Rattle.net_plan.proofs.LinkLists.{at-some}
use Rattle.net_plan.proofs.LinkPlaces.{LinkFacts, link-facts}
use Rattle.net_plan.proofs.NodeLinks.{into-is, leads-down, out-is}
use Rattle.node_graph.proofs.Members.{in-cases}
use Rattle.node_graph.specs.Graph.{is_in}
use Rattle.node_graph.specs.Order.{place_in}
use Rattle.node_shape.specs.LinkForm.{LinkForm}
use Rattle.topology.proofs.AcceptedFacts.{accepted-is_clean}
use Rattle.topology.specs.declared.link.LinkKind.{LinkKind}
use Rattle.topology.specs.Document.{DocumentNode, first_link, inputs_of, is_manager, joins_links, link_kind_of, no_link, node_at, uppers_of}
use Rattle.topology.specs.Refused.{IsAccepted}
use Rattle.topology_text.specs.declared.kind.Kind.{Kind}
use Rattle.topology_text.specs.declared.kind.Kind.TheVariants as kind

abbrev is_demux_kind : Kind → Bool
is_demux_kind kind.Demux = true
is_demux_kind other = false

abbrev is_lite_kind : Kind → Bool
is_lite_kind kind.Lite = true
is_lite_kind other = false

-- ---- forms

-- the form of a link, by whether it is below a splitter; and of one that isn't
abbrev pub form_under : Bool → LinkKind → LinkForm
form_under cuts link = record { lite = link.lite; bus = link.bus; id_width = link.id_width; single = link.lite || cuts }

abbrev pub plain_form : LinkKind → LinkForm
plain_form link = form_under false link

own-whole : (k : Kind) (p : Part) → own_part k ≡ Some p → cuts_bursts p ≡ false
own-whole kind.Manager p e = ap cuts_bursts (sym (Some-same part.Manager p e))
own-whole kind.Memory p e = ap cuts_bursts (sym (Some-same part.Memory p e))
own-whole kind.LiteMemory p e = ap cuts_bursts (sym (Some-same part.LiteMemory p e))
own-whole kind.Slice p e = ap cuts_bursts (sym (Some-same part.Slice p e))
own-whole kind.Mux p e = ap cuts_bursts (sym (Some-same part.Mux p e))
own-whole kind.Remap p e = ap cuts_bursts (sym (Some-same part.Remap p e))
own-whole kind.Up p e = ap cuts_bursts (sym (Some-same part.Up p e))
own-whole other p e = absurd (None-Some p e)

behind-whole : (k : Kind) (p : Part) → split_kind k ≡ Some p → cuts_bursts p ≡ false
behind-whole kind.Down p e = ap cuts_bursts (sym (Some-same part.Down p e))
behind-whole kind.Lite p e = ap cuts_bursts (sym (Some-same part.Lite p e))
behind-whole other p e = absurd (None-Some p e)

-- only a splitter cuts bursts
whole-by : (nodes : List DocumentNode) (place inner : ℕ) (node : PlanNode) (k : Kind) → ((p : Part) → split_kind k ≡ Some p → inner ≡ 0 → ⊥) → Form nodes place inner node k → cuts_bursts node.part ≡ false
whole-by nodes place inner node k outer (Own p own first is) = ap (λ (n : PlanNode). cuts_bursts n.part) is ∙ own-whole k p own
whole-by nodes place inner node k outer (Split p split first is) = absurd (outer p split first)
whole-by nodes place inner node k outer (Behind p split first is) = ap (λ (n : PlanNode). cuts_bursts n.part) is ∙ behind-whole k p split
whole-by nodes place inner node k outer (Demux own first is) = ap (λ (n : PlanNode). cuts_bursts n.part) is
whole-by nodes place inner node k outer (DemuxError own first is) = ap (λ (n : PlanNode). cuts_bursts n.part) is
whole-by nodes place inner node k outer (Input i own within first is) = ap (λ (n : PlanNode). cuts_bursts n.part) is
whole-by nodes place inner node k outer (InputError i own within first is) = ap (λ (n : PlanNode). cuts_bursts n.part) is
whole-by nodes place inner node k outer (Target j own within first is) = ap (λ (n : PlanNode). cuts_bursts n.part) is

-- ---- the links below a document node

split-exit : (k : Kind) (p : Part) (inputs port : ℕ) → split_kind k ≡ Some p → exit_by k inputs port ≡ 1
split-exit kind.Down p inputs port e = refl
split-exit kind.Lite p inputs port e = refl
split-exit other p inputs port e = absurd (None-Some p e)

exit-kind : (nodes : List DocumentNode) (place inner port : ℕ) (node : PlanNode) (k : Kind) → inner ≡ exit_by k (input_count nodes place) port → Form nodes place inner node k →
    node.link ≡ link_kind_of nodes place
exit-kind nodes place inner port node k exit (Own p own first is) = ap (λ (n : PlanNode). n.link) is
exit-kind nodes place inner port node k exit (Split p split first is) = absurd (omega (arith, first, exit, split-exit k p (input_count nodes place) port split))
exit-kind nodes place inner port node k exit (Behind p split first is) = ap (λ (n : PlanNode). n.link) is
exit-kind nodes place inner port node k exit (Demux own first is) = ap (λ (n : PlanNode). n.link) is
exit-kind nodes place inner port node k exit (DemuxError own first is) = absurd (omega (arith, first, exit, ap (λ k. exit_by k (input_count nodes place) port) own))
exit-kind nodes place inner port node k exit (Input i own within first is) = absurd (omega (arith, first, within, exit, ap (λ k. exit_by k (input_count nodes place) port) own))
exit-kind nodes place inner port node k exit (InputError i own within first is) = absurd (omega (arith, first, within, exit, ap (λ k. exit_by k (input_count nodes place) port) own))
exit-kind nodes place inner port node k exit (Target j own within first is) = ap (λ (n : PlanNode). n.link) is

-- whether the links below a plan node carry single beats
abbrev pub cuts_at : List DocumentNode → ℕ → Bool
cuts_at nodes number = cuts_bursts (plan_node_at nodes number).part

-- a link into a document node's first plan node comes from one of its uppers, and is what that one has below it; no splitter
-- stands above it
pub record Comes (nodes : List DocumentNode) (place number upper : ℕ) (link : LinkKind) : Type 0 where
  pub from : ℕ
  pub among : is_in (uppers_of nodes place) from ≡ true
  pub enters : number ≡ entrance nodes from place
  pub exits : upper ≡ first_part nodes from + exit_of nodes from place
  pub whole : cuts_at nodes upper ≡ false
  pub is : link ≡ link_kind_of nodes from

-- a link into a crossbar's mux comes from one of its inputs
pub record JoinsAt (nodes : List DocumentNode) (place upper : ℕ) (link : LinkKind) : Type 0 where
  pub input : ℕ
  pub within : input < input_count nodes place
  pub from : upper ≡ first_part nodes place + 2 * input
  pub whole : cuts_at nodes upper ≡ false
  pub is : link ≡ slice_index_or (inputs_of nodes place) input no_link

-- a link into the part behind a splitter comes from the splitter, and is the first link above their document node
pub record Stays (nodes : List DocumentNode) (place upper : ℕ) (link : LinkKind) : Type 0 where
  pub cut : cuts_at nodes upper ≡ true
  pub is : link ≡ first_link (inputs_of nodes place)

input-link : (nodes : List DocumentNode) (place inner i : ℕ) (node : PlanNode) (k : Kind) → k ≡ kind.Crossbar → i < input_count nodes place → inner ≡ 2 * i → Form nodes place inner node k → step_of node.part ≡ 0 →
    node.link ≡ slice_index_or (inputs_of nodes place) i no_link
input-link nodes place inner i node k is_crossbar less at (Own p own first is) flat = absurd (None-Some p (ap own_part (sym is_crossbar) ∙ own))
input-link nodes place inner i node k is_crossbar less at (Split p split first is) flat = absurd (None-Some p (ap split_kind (sym is_crossbar) ∙ split))
input-link nodes place inner i node k is_crossbar less at (Behind p split first is) flat = absurd (None-Some p (ap split_kind (sym is_crossbar) ∙ split))
input-link nodes place inner i node k is_crossbar less at (Demux own first is) flat = absurd (true≢false (ap is_demux_kind (sym own ∙ is_crossbar)))
input-link nodes place inner i node k is_crossbar less at (DemuxError own first is) flat = absurd (true≢false (ap is_demux_kind (sym own ∙ is_crossbar)))
input-link nodes place inner i node k is_crossbar less at (Input j own within first is) flat =
    let same : j ≡ i = omega (arith, at, first) in
    ap (λ (n : PlanNode). n.link) is ∙ ap (λ (n : ℕ). slice_index_or (inputs_of nodes place) n no_link) same
input-link nodes place inner i node k is_crossbar less at (InputError j own within first is) flat = absurd (omega (arith, flat, ap (λ (n : PlanNode). step_of n.part) is))
input-link nodes place inner i node k is_crossbar less at (Target j own within first is) flat = absurd (omega (arith, less, at, first))

-- the part before a Lite bridge
splitter : (nodes : List DocumentNode) (place inner : ℕ) (node : PlanNode) (k : Kind) → k ≡ kind.Lite → step_of node.part ≡ 0 → Form nodes place inner node k →
    (cuts_bursts node.part ≡ true) × (node.link ≡ first_link (inputs_of nodes place))
splitter nodes place inner node k lite flat (Own p own first is) = absurd (None-Some p (ap own_part (sym lite) ∙ own))
splitter nodes place inner node k lite flat (Split p split first is) = (ap (λ (n : PlanNode). cuts_bursts n.part) is, ap (λ (n : PlanNode). n.link) is)
splitter nodes place inner node k lite flat (Behind p split first is) =
    absurd (omega (arith, flat, ap (λ (n : PlanNode). step_of n.part) is, ap step_of (Some-same part.Lite p (ap split_kind (sym lite) ∙ split))))
splitter nodes place inner node k lite flat (Demux own first is) = absurd (true≢false (sym (ap is_lite_kind lite) ∙ ap is_lite_kind own))
splitter nodes place inner node k lite flat (DemuxError own first is) = absurd (true≢false (sym (ap is_lite_kind lite) ∙ ap is_lite_kind own))
splitter nodes place inner node k lite flat (Input i own within first is) = absurd (true≢false (sym (ap is_lite_kind lite) ∙ ap is_lite_kind own))
splitter nodes place inner node k lite flat (InputError i own within first is) = absurd (true≢false (sym (ap is_lite_kind lite) ∙ ap is_lite_kind own))
splitter nodes place inner node k lite flat (Target j own within first is) = absurd (true≢false (sym (ap is_lite_kind lite) ∙ ap is_lite_kind own))

module _ (nodes : List DocumentNode) where
  -- the form of a link that isn't below a splitter
  pub form-plain : (link : ℕ) → cuts_at nodes (plan_link_at nodes link).upper ≡ false → form_of_link nodes link ≡ plain_form (plan_link_at nodes link).link
  form-plain link whole = ap (λ (b : Bool). form_under b (plan_link_at nodes link).link) whole

  plan-node : (number : ℕ) (node : PlanNode) → slice_get (plan_nodes nodes) number ≡ Some node → plan_node_at nodes number ≡ node
  plan-node number node at = at-some (plan_nodes nodes) number node (record { part = part.Slice; document = 0; name = []; lower = []; link = no_link }) at

  -- a link below a plan node is what the plan node says
  pub link-below : (number link : ℕ) (node : PlanNode) → slice_get (plan_nodes nodes) number ≡ Some node → is_in (links_out_of nodes number) link ≡ true → (plan_link_at nodes link).link ≡ node.link
  link-below number link node at there =
      let is = out-is nodes number link there in
      let facts : LinkFacts nodes link = link-facts nodes link is.0 in
      ap (λ (l : PlanLink). l.link) facts.is ∙ ap (λ (n : PlanNode). n.link) (Some-same facts.node node (sym facts.at ∙ ap (slice_get (plan_nodes nodes)) is.1 ∙ at))

  -- and so is its form
  pub form-below : (number link : ℕ) (node : PlanNode) → slice_get (plan_nodes nodes) number ≡ Some node → is_in (links_out_of nodes number) link ≡ true →
      form_of_link nodes link ≡ form_under (cuts_bursts node.part) node.link
  form-below number link node at there =
      ap (λ (n : ℕ). form_under (cuts_at nodes n) (plan_link_at nodes link).link) (out-is nodes number link there).1
      ∙ ap (λ (n : PlanNode). form_under (cuts_bursts n.part) (plan_link_at nodes link).link) (plan-node number node at)
      ∙ ap (form_under (cuts_bursts node.part)) (link-below number link node at there)

  upper-known : (link : ℕ) (less : link < length (plan_links nodes)) (known : Known nodes (plan_link_at nodes link).upper (plan_link_at nodes link).lower) → (plan_link_at nodes link).link ≡ known.node.link
  upper-known link less known =
      let facts : LinkFacts nodes link = link-facts nodes link less in
      ap (λ (l : PlanLink). l.link) facts.is ∙ ap (λ (n : PlanNode). n.link) (Some-same facts.node known.node (sym facts.at ∙ known.at))

  comes-by : (number link : ℕ) (node : PlanNode) → slice_get (plan_nodes nodes) number ≡ Some node → (place : ℕ) → node.document ≡ place → is_behind node.part ≡ false → (is_mux node.part ≡ true → (node_at nodes place).kind ≡ kind.Crossbar → ⊥) →
      (upper : ℕ) (known : Known nodes upper number) → (plan_link_at nodes link).link ≡ known.node.link → Leads nodes known.place known.inner known.node number → Comes nodes place number upper (plan_link_at nodes link).link
  comes-by number link node at place document outer single upper known same (Enters to there is exit) =
      let entry : Entered nodes to number = entered-target nodes known.place to number known.within there is in
      let same_to : to ≡ place = sym entry.document ∙ ap (λ (n : PlanNode). n.document) (Some-same entry.node node (sym entry.at ∙ at)) ∙ document in
      record {
        from = known.place;
        among = ap (λ (k : ℕ). is_in (uppers_of nodes k) known.place) (sym same_to) ∙ target-upper nodes known.place to known.within there;
        enters = is ∙ ap (entrance nodes known.place) same_to;
        exits = known.sum ∙ ap (λ (n : ℕ). first_part nodes known.place + n) exit ∙ ap (λ (k : ℕ). first_part nodes known.place + exit_of nodes known.place k) same_to;
        whole = ap (λ (n : PlanNode). cuts_bursts n.part) (plan-node upper known.node known.at)
            ∙ whole-by nodes known.place known.inner known.node (node_at nodes known.place).kind
            (λ p split first. omega (arith, first, exit, split-exit (node_at nodes known.place).kind p (input_count nodes known.place) (place_in (targets nodes known.place) to) split))
            known.form;
        is = same ∙ exit-kind nodes known.place known.inner (place_in (targets nodes known.place) to) known.node (node_at nodes known.place).kind exit known.form;
      }
  comes-by number link node at place document outer single upper known same (Steps flat is behind) =
      absurd (true≢false (sym behind.behind ∙ ap (λ (n : PlanNode). is_behind n.part) (Some-same behind.node node (sym behind.at ∙ at)) ∙ outer))
  comes-by number link node at place document outer single upper known same (Joins i j flat is_crossbar within first less sum) =
      let there : target_mux nodes known.place j ≡ node = Some-same (target_mux nodes known.place j) node (sym (target-at nodes known.place j number known.within is_crossbar less sum) ∙ at) in
      let same_place : known.place ≡ place = ap (λ (n : PlanNode). n.document) there ∙ document in
      absurd (single (ap (λ (n : PlanNode). is_mux n.part) (sym there)) (ap (λ (k : ℕ). (node_at nodes k).kind) (sym same_place) ∙ is_crossbar))

  -- a link into the first part of a document node
  pub comes : (number link : ℕ) (node : PlanNode) → slice_get (plan_nodes nodes) number ≡ Some node → (place : ℕ) → node.document ≡ place → is_behind node.part ≡ false → (is_mux node.part ≡ true → (node_at nodes place).kind ≡ kind.Crossbar → ⊥) →
      is_in (links_into nodes number) link ≡ true → Comes nodes place number (plan_link_at nodes link).upper (plan_link_at nodes link).link
  comes number link node at place document outer single there =
      let is = into-is nodes number link there in
      let known : Known nodes (plan_link_at nodes link).upper (plan_link_at nodes link).lower = known-link nodes (plan_link_at nodes link).upper (plan_link_at nodes link).lower (leads-down nodes link is.0) in
      let same = upper-known link is.0 known in
      subst (λ (lower : ℕ). (known : Known nodes (plan_link_at nodes link).upper lower) → (plan_link_at nodes link).link ≡ known.node.link → Comes nodes place number (plan_link_at nodes link).upper (plan_link_at nodes link).link) (sym is.1)
      (λ known same. comes-by number link node at place document outer single (plan_link_at nodes link).upper known same known.leads)
      known same

  joins-by : (number link : ℕ) (node : PlanNode) → slice_get (plan_nodes nodes) number ≡ Some node → (place : ℕ) → node.document ≡ place → is_mux node.part ≡ true → (node_at nodes place).kind ≡ kind.Crossbar →
      (upper : ℕ) (known : Known nodes upper number) → (plan_link_at nodes link).link ≡ known.node.link → Leads nodes known.place known.inner known.node number → JoinsAt nodes place upper (plan_link_at nodes link).link
  joins-by number link node at place document mux crossbar upper known same (Enters to there is exit) =
      let entry : Entered nodes to number = entered-target nodes known.place to number known.within there is in
      let same_node : entry.node ≡ node = Some-same entry.node node (sym entry.at ∙ at) in
      let same_to : to ≡ place = sym entry.document ∙ ap (λ (n : PlanNode). n.document) same_node ∙ document in
      absurd (true≢false (sym mux ∙ ap (λ (n : PlanNode). is_mux n.part) (sym same_node) ∙ entry.joint ∙ ap (λ (k : ℕ). is_mux_kind (node_at nodes k).kind) same_to ∙ ap is_mux_kind crossbar))
  joins-by number link node at place document mux crossbar upper known same (Steps flat is behind) =
      absurd (both node.part (ap (λ (n : PlanNode). is_behind n.part) (sym (Some-same behind.node node (sym behind.at ∙ at))) ∙ behind.behind) mux)
    where
      both : (p : Part) → is_behind p ≡ true → is_mux p ≡ true → ⊥
      both part.Mux a b = true≢false (sym a)
      both other a b = true≢false (sym b)
  joins-by number link node at place document mux crossbar upper known same (Joins i j flat is_crossbar within first less sum) =
      let there : target_mux nodes known.place j ≡ node = Some-same (target_mux nodes known.place j) node (sym (target-at nodes known.place j number known.within is_crossbar less sum) ∙ at) in
      let same_place : known.place ≡ place = ap (λ (n : PlanNode). n.document) there ∙ document in
      let link_is : known.node.link ≡ slice_index_or (inputs_of nodes known.place) i no_link =
      input-link nodes known.place known.inner i known.node (node_at nodes known.place).kind is_crossbar within first known.form flat in
      record {
        input = i;
        within = subst (λ (k : ℕ). i < input_count nodes k) same_place within;
        from = known.sum ∙ ap (λ (k : ℕ). first_part nodes k + known.inner) same_place ∙ ap (λ (n : ℕ). first_part nodes place + n) first;
        whole = ap (λ (n : PlanNode). cuts_bursts n.part) (plan-node upper known.node known.at)
            ∙ whole-by nodes known.place known.inner known.node (node_at nodes known.place).kind (λ p split first. None-Some p (ap split_kind (sym is_crossbar) ∙ split)) known.form;
        is = same ∙ link_is ∙ ap (λ (k : ℕ). slice_index_or (inputs_of nodes k) i no_link) same_place;
      }

  -- a link into a mux of a crossbar
  pub joins : (number link : ℕ) (node : PlanNode) → slice_get (plan_nodes nodes) number ≡ Some node → (place : ℕ) → node.document ≡ place → is_mux node.part ≡ true → (node_at nodes place).kind ≡ kind.Crossbar →
      is_in (links_into nodes number) link ≡ true → JoinsAt nodes place (plan_link_at nodes link).upper (plan_link_at nodes link).link
  joins number link node at place document mux crossbar there =
      let is = into-is nodes number link there in
      let known : Known nodes (plan_link_at nodes link).upper (plan_link_at nodes link).lower = known-link nodes (plan_link_at nodes link).upper (plan_link_at nodes link).lower (leads-down nodes link is.0) in
      let same = upper-known link is.0 known in
      subst (λ (lower : ℕ). (known : Known nodes (plan_link_at nodes link).upper lower) → (plan_link_at nodes link).link ≡ known.node.link → JoinsAt nodes place (plan_link_at nodes link).upper (plan_link_at nodes link).link) (sym is.1)
      (λ known same. joins-by number link node at place document mux crossbar (plan_link_at nodes link).upper known same known.leads)
      known same

  stays-by : (number link place : ℕ) (node : PlanNode) → slice_get (plan_nodes nodes) number ≡ Some node → node.document ≡ place → is_behind node.part ≡ true → (node_at nodes place).kind ≡ kind.Lite →
      (upper : ℕ) (known : Known nodes upper number) → (plan_link_at nodes link).link ≡ known.node.link → Leads nodes known.place known.inner known.node number → Stays nodes place upper (plan_link_at nodes link).link
  stays-by number link place node at document behind lite upper known same (Enters to there is exit) =
      let entry : Entered nodes to number = entered-target nodes known.place to number known.within there is in
      absurd (true≢false (sym behind ∙ ap (λ (n : PlanNode). is_behind n.part) (Some-same node entry.node (sym at ∙ entry.at)) ∙ entry.outer))
  stays-by number link place node at document behind lite upper known same (Steps flat is there) =
      let same_place : known.place ≡ place = sym there.document ∙ ap (λ (n : PlanNode). n.document) (Some-same there.node node (sym there.at ∙ at)) ∙ document in
      let cut : (cuts_bursts known.node.part ≡ true) × (known.node.link ≡ first_link (inputs_of nodes known.place)) =
      splitter nodes known.place known.inner known.node (node_at nodes known.place).kind (ap (λ (k : ℕ). (node_at nodes k).kind) same_place ∙ lite) flat known.form in
      record {
        cut = ap (λ (n : PlanNode). cuts_bursts n.part) (plan-node upper known.node known.at) ∙ cut.0;
        is = same ∙ cut.1 ∙ ap (λ (k : ℕ). first_link (inputs_of nodes k)) same_place;
      }
  stays-by number link place node at document behind lite upper known same (Joins i j flat is_crossbar within first less sum) =
      let there : target_mux nodes known.place j ≡ node = Some-same (target_mux nodes known.place j) node (sym (target-at nodes known.place j number known.within is_crossbar less sum) ∙ at) in
      absurd (true≢false (sym behind ∙ ap (λ (n : PlanNode). is_behind n.part) (sym there)))

  -- a link into a Lite bridge
  pub stays : (number link place : ℕ) (node : PlanNode) → slice_get (plan_nodes nodes) number ≡ Some node → node.document ≡ place → is_behind node.part ≡ true → (node_at nodes place).kind ≡ kind.Lite →
      is_in (links_into nodes number) link ≡ true → Stays nodes place (plan_link_at nodes link).upper (plan_link_at nodes link).link
  stays number link place node at document behind lite there =
      let is = into-is nodes number link there in
      let known : Known nodes (plan_link_at nodes link).upper (plan_link_at nodes link).lower = known-link nodes (plan_link_at nodes link).upper (plan_link_at nodes link).lower (leads-down nodes link is.0) in
      let same = upper-known link is.0 known in
      subst (λ (lower : ℕ). (known : Known nodes (plan_link_at nodes link).upper lower) → (plan_link_at nodes link).link ≡ known.node.link → Stays nodes place (plan_link_at nodes link).upper (plan_link_at nodes link).link) (sym is.1)
      (λ known same. stays-by number link place node at document behind lite (plan_link_at nodes link).upper known same known.leads)
      known same

-- ---- inputs

few-uppers : (nodes : List DocumentNode) → IsAccepted nodes → (place : ℕ) → place < length nodes → joins_links (node_at nodes place).kind ≡ false → length (uppers_of nodes place) ≤ 1
few-uppers nodes accepted place less single =
    elim (and_cases (not (joins_links (node_at nodes place).kind)) (nat_lt (if is_manager (node_at nodes place).kind then 0 else 1) (length (uppers_of nodes place))) (accepted-is_clean nodes accepted place less).uppers_are_few) [
      | inl no_test ↦ absurd (true≢false (ap not (sym single) ∙ no_test))
      | inr few ↦ most (is_manager (node_at nodes place).kind) (length (uppers_of nodes place)) few
    ]
  where
    most : (b : Bool) (n : ℕ) → nat_lt (if b then 0 else 1) n ≡ false → n ≤ 1
    most true n e = omega (arith, ltb-false 0 n e)
    most false n e = ltb-false 1 n e

first-only : (nodes : List DocumentNode) (xs : List ℕ) (x : ℕ) → length xs ≤ 1 → is_in xs x ≡ true → first_link (map (link_kind_of nodes) xs) ≡ link_kind_of nodes x
first-only nodes [] x few there = absurd (false≢true there)
first-only nodes (y ∷ []) x few there = elim (in-cases y [] x there) [ inl here ↦ ap (link_kind_of nodes) here | inr more ↦ absurd (false≢true more) ]
first-only nodes (y ∷ z ∷ more) x few there = absurd (omega (arith, few))

-- the one input of a node that doesn't join links
pub first-input : (nodes : List DocumentNode) → IsAccepted nodes → (place number upper : ℕ) (link : LinkKind) → place < length nodes → joins_links (node_at nodes place).kind ≡ false → Comes nodes place number upper link → link ≡ first_link (inputs_of nodes place)
first-input nodes accepted place number upper link less single from =
    from.is ∙ sym (first-only nodes (uppers_of nodes place) from.from (few-uppers nodes accepted place less single) from.among)

nth-made : (nodes : List DocumentNode) (xs : List ℕ) (i : ℕ) → i < length xs → slice_index_or (map (link_kind_of nodes) xs) i no_link ≡ link_kind_of nodes (slice_index_or xs i 0)
nth-made nodes [] i less = absurd (omega (arith, less))
nth-made nodes (x ∷ xs) zero less = refl
nth-made nodes (x ∷ xs) (suc i) less = nth-made nodes xs i (omega (arith, less))

-- an input by its number
pub nth-input : (nodes : List DocumentNode) (place i : ℕ) → i < input_count nodes place → slice_index_or (inputs_of nodes place) i no_link ≡ link_kind_of nodes (slice_index_or (uppers_of nodes place) i 0)
nth-input nodes place i less = nth-made nodes (uppers_of nodes place) i less

crossbar-place : (b : Bool) (first place i : ℕ) → b ≡ true → first + 2 * i ≡ (if b then first + 2 * place else first) → place ≡ i
crossbar-place true first place i e same = omega (arith, same)
crossbar-place false first place i e same = absurd (false≢true e)

-- the input of a crossbar's demux
pub own-input : (nodes : List DocumentNode) (place i upper : ℕ) (link : LinkKind) → (node_at nodes place).kind ≡ kind.Crossbar → Comes nodes place (first_part nodes place + 2 * i) upper link → link ≡ slice_index_or (inputs_of nodes place) i no_link
own-input nodes place i upper link crossbar from =
    let same : place_in (uppers_of nodes place) from.from ≡ i =
    crossbar-place (is_crossbar (node_at nodes place).kind) (first_part nodes place) (place_in (uppers_of nodes place) from.from) i (ap is_crossbar crossbar) from.enters in
    let less : i < input_count nodes place = subst (λ (n : ℕ). n < input_count nodes place) same (place-within (uppers_of nodes place) from.from from.among) in
    from.is
    ∙ ap (link_kind_of nodes) (sym (nth-place (uppers_of nodes place) from.from from.among) ∙ ap (λ (n : ℕ). slice_index_or (uppers_of nodes place) n 0) same)
    ∙ sym (nth-input nodes place i less)

-- what holds of no input holds of none of them
pub no-input : (nodes : List DocumentNode) (p : LinkKind → Bool) (xs : List ℕ) (x : ℕ) → list_any p (map (link_kind_of nodes) xs) ≡ false → is_in xs x ≡ true → p (link_kind_of nodes x) ≡ false
no-input nodes p [] x e there = absurd (false≢true there)
no-input nodes p (y ∷ ys) x e there =
    let parts = or_parts (p (link_kind_of nodes y)) (list_any p (map (link_kind_of nodes) ys)) e in
    elim (in-cases y ys x there) [ inl here ↦ ap (λ (k : ℕ). p (link_kind_of nodes k)) (sym here) ∙ parts.0 | inr more ↦ no-input nodes p ys x parts.1 more ]
