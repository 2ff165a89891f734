-- The links of a document that can run, and of its plan: their buses are ones that there are, and those that speak AXI4-Lite
-- have 4 or 8 bytes and no IDs.
use Rattle.std.proofs.Common.{◌≡◌, ◌<◌, ◌≤◌, ◌==◌, ◌||◌, ◌&&◌, [], ◌∷◌, ℕ, zero, suc, Bool, true, false, not, List, length, map, Some, refl, sym, ap, ◌∙◌, subst, inl, inr, arith}
use Rattle.std.specs.Prelude.{slice_get, slice_index_or}
use Rattle.std.proofs.lemmas.Bool.{eqb-true, false≢true, not-false, or_cases, or_parts, true≢false}
use Rattle.axi_beats.specs.Bus.{IsBusWidth, is_bus_width}
use Rattle.elaborate.proofs.Forms.{Form, Part_at, part-at}
use Rattle.elaborate.proofs.Forms.Form.{Behind, Demux, DemuxError, Input, InputError, Own, Split, Target}
use Rattle.elaborate.proofs.Lists.{None-Some, nth-in}
use Rattle.elaborate.proofs.Sizes.{upper-inside}
use Rattle.elaborate.specs.Plan.{PlanNode, plan_link_at, plan_links}
use Rattle.elaborate.specs.Unbuilt.{is_unbuilt}
use Rattle.elaborate.specs.declared.link.PlanLink.{PlanLink}
use Rattle.net_opening.specs.PlanLinks.{form_of_link}
use Rattle.net_plan.proofs.LinkKinds.{cuts_at, nth-input}
use Rattle.net_plan.proofs.LinkPlaces.{LinkFacts, link-facts}
use Rattle.net_plan.proofs.PartLemmas.{formed-at, is-built, split-lite}
use Rattle.net_plan.proofs.SoundParts.{handed}
use Rattle.net_plan.specs.PlanLaws.{CanRun}
use Rattle.node_graph.proofs.Members.{in-first}
use Rattle.node_graph.proofs.Ways.{above-below, links-lead_deeper}
use Rattle.node_graph.specs.Graph.{depth_of, is_in}
use Rattle.node_shape.specs.LinkForm.{IsWordForm, LinkForm}
use Rattle.topology.proofs.AcceptedFacts.{accepted-is_acyclic, accepted-is_clean, graph-long}
use Rattle.topology.proofs.LinkWidths.{accepted-are_narrow}
use Rattle.topology.specs.Document.{DocumentNode, first_link, graph_of, inputs_of, is_manager, link_below, link_kind_of, node_at, uppers_of}
use Rattle.topology.specs.Fits.{any_lite_of, protocol_differs_at}
use Rattle.topology.specs.declared.link.LinkKind.{LinkKind}
use Rattle.topology_text.specs.Form.{table_form}
use Rattle.topology_text.specs.Formed.{IsFormed, IsNumberAt}
use Rattle.topology_text.specs.Shape.{bus_limits}
use Rattle.topology_text.specs.declared.kind.Kind.{Kind}
use Rattle.topology_text.specs.declared.kind.Kind.TheVariants as kind

-- what a link is by its protocol: its bus is one that there is, and on AXI4-Lite it has at most 8 bytes, and no IDs
pub record FitsProtocol (link : LinkKind) : Type 0 where
  pub width : IsBusWidth link.bus
  pub no_ids : link.lite ≡ true → link.id_width ≡ 0
  pub narrow : link.lite ≡ true → link.bus ≤ 8

-- the same of a form, and that its IDs have at most 16 bits
pub record IsPlanForm (form : LinkForm) : Type 0 where
  pub width : IsBusWidth form.bus
  pub ids : form.id_width ≤ 16
  pub words : form.lite ≡ true → IsWordForm form
  pub narrow : form.lite ≡ true → form.bus ≤ 8

-- the kinds that name the bus below them
abbrev pub names_bus : Kind → Bool
names_bus kind.Manager = true
names_bus kind.Up = true
names_bus other = false

bus-some : (k : Kind) (bus : ℕ) → names_bus k ≡ true → IsNumberAt (table_form k).bus bus_limits bus → 4 ≤ bus
unfolding table_form
bus-some kind.Manager bus named within = within.0
bus-some kind.Up bus named within = within.0
bus-some other bus named within = absurd (false≢true named)

pub width-of : (bus : ℕ) → 4 ≤ bus → (bus == 0 || is_bus_width bus) ≡ true → IsBusWidth bus
width-of bus some is = elim (or_cases (bus == 0) (is_bus_width bus) is) [ inl none ↦ absurd (omega (arith, some, eqb-true bus 0 none)) | inr width ↦ width ]

-- the first of some links
first-fits : (f : ℕ → LinkKind) (xs : List ℕ) → 0 < length xs → ((x : ℕ) → is_in xs x ≡ true → FitsProtocol (f x)) → FitsProtocol (first_link (map f xs))
first-fits f [] some each = absurd (omega (arith, some))
first-fits f (x ∷ xs) some each = each x (in-first x xs x refl)

-- it speaks AXI4 where none of them speaks AXI4-Lite
pub first-full : (links : List LinkKind) → any_lite_of links ≡ false → (first_link links).lite ≡ false
first-full [] none = refl
first-full (link ∷ links) none = (or_parts link.lite (any_lite_of links) none).0

-- a node that isn't loose has an upper, where it is no manager
has-upper : (k : Kind) (uppers : List ℕ) → is_manager k ≡ false → (not (is_manager k) && length uppers == 0) ≡ false → 0 < length uppers
has-upper k (x ∷ xs) other loose = omega arith
has-upper k [] other loose = let never : true ≡ false = sym (ap (λ (b : Bool). not b && true) other) ∙ loose in absurd (cc)

-- one that speaks AXI4
full-fits : (link : LinkKind) → link.lite ≡ false → IsBusWidth link.bus → FitsProtocol link
full-fits link full width = record { width = width; no_ids = λ lite. absurd (true≢false (sym lite ∙ full)); narrow = λ lite. absurd (true≢false (sym lite ∙ full)) }

-- the bus above a Lite bridge
narrow-bus : (bus : ℕ) → (bus == 4 || bus == 8) ≡ true → bus ≤ 8
narrow-bus bus is = elim (or_cases (bus == 4) (bus == 8) is) [ inl four ↦ omega (arith, eqb-true bus 4 four) | inr eight ↦ omega (arith, eqb-true bus 8 eight) ]

-- what is below a node
below-fits : (k : Kind) (node : DocumentNode) (links : List LinkKind) → is_unbuilt k ≡ false → (names_bus k ≡ true → IsBusWidth node.bus) → protocol_differs_at links k ≡ false →
    (is_manager k ≡ false → FitsProtocol (first_link links)) → FitsProtocol (link_below k node links)
below-fits kind.Manager node links built own protocol above = full-fits (link_below kind.Manager node links) refl (own refl)
below-fits kind.Memory node links built own protocol above = above refl
below-fits kind.Slice node links built own protocol above = above refl
below-fits kind.Demux node links built own protocol above = above refl
below-fits kind.Mux node links built own protocol above = full-fits (link_below kind.Mux node links) (first-full links protocol) (above refl).width
below-fits kind.Crossbar node links built own protocol above = full-fits (link_below kind.Crossbar node links) (first-full links protocol) (above refl).width
below-fits kind.LiteMemory node links built own protocol above = above refl
below-fits kind.Remap node links built own protocol above = full-fits (link_below kind.Remap node links) (first-full links protocol) (above refl).width
below-fits kind.Up node links built own protocol above = full-fits (link_below kind.Up node links) (first-full links protocol) (own refl)
below-fits kind.Down node links built own protocol above = absurd (cc)
below-fits kind.Lite node links built own protocol above =
    let bus = not-false ((first_link links).bus == 4 || (first_link links).bus == 8) (or_parts (any_lite_of links) (not ((first_link links).bus == 4 || (first_link links).bus == 8)) protocol).1 in
    record { width = (above refl).width; no_ids = λ lite. refl; narrow = λ lite. narrow-bus (first_link links).bus bus }

module _ (nodes : List DocumentNode) (run : CanRun nodes) where
  pub own-bus : (place : ℕ) → place < length nodes → names_bus (node_at nodes place).kind ≡ true → IsBusWidth (node_at nodes place).bus
  own-bus place less named =
      let node = node_at nodes place in
      let formed : IsFormed node = formed-at nodes run place less in
      width-of node.bus (bus-some node.kind node.bus named formed.bus) formed.bus_is_width

  has-inputs : (place : ℕ) → place < length nodes → is_manager (node_at nodes place).kind ≡ false → 0 < length (uppers_of nodes place)
  has-inputs place less other = has-upper (node_at nodes place).kind (uppers_of nodes place) other (accepted-is_clean nodes run.accepted place less).upper_is_there

  fits-next : (place : ℕ) → place < length nodes → ((upper : ℕ) → is_in (uppers_of nodes place) upper ≡ true → FitsProtocol (link_kind_of nodes upper)) → FitsProtocol (link_kind_of nodes place)
  fits-next place less above =
      let node = node_at nodes place in
      subst FitsProtocol (sym (handed nodes run place node.kind less refl))
      (below-fits node.kind node (inputs_of nodes place) (is-built nodes run place less) (own-bus place less) (accepted-is_clean nodes run.accepted place less).protocols_fit
      (λ other. first-fits (link_kind_of nodes) (uppers_of nodes place) (has-inputs place less other) above))

  fits-above : (depth place : ℕ) → depth_of (graph_of nodes) place < depth → place < length nodes → FitsProtocol (link_kind_of nodes place)
  fits-above zero place shallow less = absurd (omega (arith, shallow))
  fits-above (suc depth) place shallow less =
      fits-next place less (λ upper there.
      let deeper : depth_of (graph_of nodes) upper < depth_of (graph_of nodes) place =
      links-lead_deeper (graph_of nodes) (accepted-is_acyclic nodes run.accepted) upper place (omega (arith, less, graph-long nodes)) (above-below (graph_of nodes) place upper there) in
      fits-above depth upper (omega (arith, deeper, shallow)) (upper-inside nodes place upper there))

  -- what is below a node, and the first link above it
  pub link-fits : (place : ℕ) → place < length nodes → FitsProtocol (link_kind_of nodes place)
  link-fits place less = fits-above (suc (depth_of (graph_of nodes) place)) place (omega arith) less

  pub input-fits : (place : ℕ) → place < length nodes → is_manager (node_at nodes place).kind ≡ false → FitsProtocol (first_link (inputs_of nodes place))
  input-fits place less other =
      first-fits (link_kind_of nodes) (uppers_of nodes place) (has-inputs place less other)
      (λ upper there. link-fits upper (upper-inside nodes place upper there))

  -- ---- links of the plan

  -- a link of the plan is what is below some node of the document
  pub record IsBelow (link : LinkKind) : Type 0 where
    pub place : ℕ
    pub within : place < length nodes
    pub is : link ≡ link_kind_of nodes place

  first-below : (uppers : List ℕ) → 0 < length uppers → ((upper : ℕ) → is_in uppers upper ≡ true → upper < length nodes) → IsBelow (first_link (map (link_kind_of nodes) uppers))
  first-below [] some inside = absurd (omega (arith, some))
  first-below (x ∷ xs) some inside = record { place = x; within = inside x (in-first x xs x refl); is = refl }

  below-by : (place inner port : ℕ) (node : PlanNode) (lower : ℕ) → place < length nodes → Form nodes place inner node (node_at nodes place).kind → slice_get node.lower port ≡ Some lower → IsBelow node.link
  below-by place inner port node lower less (Own p own first is) at = record { place = place; within = less; is = ap (λ (n : PlanNode). n.link) is }
  below-by place inner port node lower less (Split p split first is) at =
      let lite = split-lite (node_at nodes place).kind p split (is-built nodes run place less) in
      subst IsBelow (sym (ap (λ (n : PlanNode). n.link) is)) (first-below (uppers_of nodes place) (has-inputs place less (ap is_manager lite.0)) (upper-inside nodes place))
  below-by place inner port node lower less (Behind p split first is) at = record { place = place; within = less; is = ap (λ (n : PlanNode). n.link) is }
  below-by place inner port node lower less (Demux own first is) at = record { place = place; within = less; is = ap (λ (n : PlanNode). n.link) is }
  below-by place inner port node lower less (DemuxError own first is) at = absurd (None-Some lower (sym (ap (λ (n : PlanNode). slice_get n.lower port) is) ∙ at))
  below-by place inner port node lower less (Input i own within first is) at = record {
    place = slice_index_or (uppers_of nodes place) i 0;
    within = upper-inside nodes place (slice_index_or (uppers_of nodes place) i 0) (nth-in (uppers_of nodes place) i within);
    is = ap (λ (n : PlanNode). n.link) is ∙ nth-input nodes place i within;
  }
  below-by place inner port node lower less (InputError i own within first is) at = absurd (None-Some lower (sym (ap (λ (n : PlanNode). slice_get n.lower port) is) ∙ at))
  below-by place inner port node lower less (Target j own within first is) at = record { place = place; within = less; is = ap (λ (n : PlanNode). n.link) is }

  pub link-below_node : (link : ℕ) → link < length (plan_links nodes) → IsBelow (plan_link_at nodes link).link
  link-below_node link less =
      let facts : LinkFacts nodes link = link-facts nodes link less in
      let spot : Part_at nodes (plan_link_at nodes link).upper facts.node = part-at nodes (plan_link_at nodes link).upper facts.node facts.at in
      subst IsBelow (sym (ap (λ (l : PlanLink). l.link) facts.is)) (below-by spot.place spot.inner facts.port facts.node (plan_link_at nodes link).lower spot.within spot.form facts.at_port)

  lite-single : (lite cuts : Bool) → lite ≡ true → (lite || cuts) ≡ true
  lite-single true cuts is = refl
  lite-single false cuts is = absurd (false≢true is)

  -- what each link of the plan is by its protocol
  pub lite-forms : (link : ℕ) → link < length (plan_links nodes) → IsPlanForm (form_of_link nodes link)
  lite-forms link less =
      let below : IsBelow (plan_link_at nodes link).link = link-below_node link less in
      let fits : FitsProtocol (plan_link_at nodes link).link = subst FitsProtocol (sym below.is) (link-fits below.place below.within) in
      record {
        width = fits.width;
        ids = omega (arith, accepted-are_narrow nodes run.accepted run.formed below.place below.within, ap (λ (l : LinkKind). l.id_width) below.is);
        words = λ lite. record { single = lite-single (plan_link_at nodes link).link.lite (cuts_at nodes (plan_link_at nodes link).upper) lite; no_ids = fits.no_ids lite };
        narrow = fits.narrow;
      }
