-- The way of a transaction ends at the target that its address has in the plan, which is a memory of AXI4 or AXI4-Lite or an
-- error subordinate.
use Rattle.std.proofs.Common.{◌≡◌, ◌<◌, ℕ, true, List, length, Option, Some, None, refl, sym, ◌∙◌, ap, subst, inl, inr, arith}
use Rattle.std.specs.Prelude.{◌⊎◌, slice_get}
use Rattle.std.specs.Option.{option_map_or}
use Rattle.std.proofs.lemmas.Bool.{false≢true}
use Rattle.std.proofs.lemmas.Option.{slice_get_past, slice_get_within}
use Rattle.axi_trail.specs.Schedule.{Share}
use Rattle.demux_node.proofs.AnswerLemmas.{lower-at, port_of_parts-within}
use Rattle.demux_node.specs.DemuxTrail.{port_of_parts}
use Rattle.elaborate.proofs.Lists.{None-Some, Some-same}
use Rattle.elaborate.proofs.PathFacts.{onward, path-ends_at_endpoint}
use Rattle.elaborate.specs.Laws.{is_first}
use Rattle.elaborate.specs.Path.{next_by_part, target_of}
use Rattle.elaborate.specs.PathLaws.{EndsAtEndpoint, is_endpoint}
use Rattle.elaborate.specs.Plan.{PlanNode, plan_link_at, plan_links, plan_node_at, plan_nodes}
use Rattle.elaborate.specs.declared.part.Part.{Part}
use Rattle.elaborate.specs.declared.part.Part.TheVariants as part
use Rattle.manager_node.specs.ManagerState.{ManagerState}
use Rattle.manager_node.specs.ManagerTrail.{item_origin}
use Rattle.net_due.proofs.WayForms.{end-stops, end-there}
use Rattle.net_history.proofs.EndLemmas.{end-known}
use Rattle.net_history.proofs.ItemLemmas.{among}
use Rattle.net_history.proofs.RoundLemmas.{IsItem}
use Rattle.net_history.specs.Due.{of_target, way_end, way_target}
use Rattle.net_kinds.specs.NodeKind.{KindName, NodeState, StateOf, node_kind}
use Rattle.net_model.specs.Network.{Network}
use Rattle.net_model.specs.declared.net_link.NetLink.{NetLink}
use Rattle.net_opening.specs.Opening.{opening, state_at, state_by_part}
use Rattle.net_opening.specs.PlanLinks.{form_of_link, links_into}
use Rattle.net_opening.specs.States.{demux_at, manager_at}
use Rattle.net_plan.proofs.LineLemmas.{comes-to}
use Rattle.net_plan.proofs.LinkLists.{some-at}
use Rattle.net_plan.proofs.NodeLinks.{is-into, none-into}
use Rattle.net_plan.proofs.OnceLemmas.{Started}
use Rattle.net_plan.proofs.OpeningSound.{openings-are_sound}
use Rattle.net_plan.proofs.OpeningWired.{link-is, node-at, node-is, within}
use Rattle.net_plan.proofs.PartLemmas.{LowersSuit, lowers-suit}
use Rattle.net_plan.proofs.WayEnds.{below-is, lower-known, onward-is}
use Rattle.net_plan.specs.PlanLaws.{CanRun}
use Rattle.net_runs.proofs.ContractFacts.{at-some}
use Rattle.net_ways.specs.Sound.{IsSound}
use Rattle.net_ways.specs.Ways.{Hop}
use Rattle.node_core.specs.Acted.{Acted, opened}
use Rattle.node_graph.specs.Graph.{is_in}
use Rattle.node_shape.specs.LinkForm.{LinkForm}
use Rattle.node_shape.specs.Way.{Origin, Way}
use Rattle.plan_traffic.specs.Accepted.{IsTraffic, Suits}
use Rattle.plan_traffic.specs.Scripts.{script_item}
use Rattle.plan_traffic.specs.Traffic.{TrafficItem}
use Rattle.topology.specs.Document.{DocumentNode, is_manager, node_at}

module _ (nodes : List DocumentNode) (items : List TrafficItem) (run : CanRun nodes) where
  -- where a node sends a transaction no further, the path of any address ends
  stops-by : (number : ℕ) (node : PlanNode) (p : Part) (share : Share) (address : ℕ) → LowersSuit p node.lower → (is_first p ≡ true → ⊥) → node_kind.begins (state_by_part nodes items number p) →
      (node_kind.way (state_by_part nodes items number p)).goes_on share ≡ None → next_by_part nodes address node p ≡ None
  stops-by number node part.Manager share address suits other begins e = absurd (other refl)
  stops-by number node part.Memory share address suits other begins e = slice_get_past node.lower 0 (omega (arith, suits))
  stops-by number node part.Error share address suits other begins e = slice_get_past node.lower 0 (omega (arith, suits))
  stops-by number node part.LiteMemory share address suits other begins e = slice_get_past node.lower 0 (omega (arith, suits))
  stops-by number node part.Mux share address suits other begins e = absurd (None-Some _ (sym e))
  stops-by number node part.Slice share address suits other begins e = absurd (None-Some _ (sym e))
  stops-by number node part.Demux share address suits other begins e =
      let shape = (demux_at nodes number).shape in
      absurd (None-Some _ (sym e ∙ lower-at shape (port_of_parts shape share.parts) (port_of_parts-within shape begins.shape share.parts)))
  stops-by number node part.Remap share address suits other begins e = absurd (None-Some _ (sym e))
  stops-by number node part.Split share address suits other begins e = absurd (None-Some _ (sym e))
  stops-by number node part.Up share address suits other begins e = absurd (None-Some _ (sym e))
  stops-by number node part.Down share address suits other begins e = absurd suits
  stops-by number node part.Lite share address suits other begins e = absurd (None-Some _ (sym e))

  path-stops_below : (link : ℕ) (share : Share) (address : ℕ) → link < length (plan_links nodes) → node_kind.begins (state_at nodes items (plan_link_at nodes link).lower) →
      (node_kind.way (state_at nodes items (plan_link_at nodes link).lower)).goes_on share ≡ None → onward nodes address (plan_link_at nodes link).lower ≡ None
  path-stops_below link share address less begins stops =
      let number : ℕ = (plan_link_at nodes link).lower in
      let node : PlanNode = plan_node_at nodes (plan_link_at nodes link).lower in
      let at = node-at nodes items number (lower-known nodes items run link less) in
      let above : is_in (links_into nodes number) link ≡ true = is-into nodes number link less refl in
      onward-is nodes items run address number node at
      ∙ stops-by number node node.part share address (lowers-suit nodes run number node at)
      (λ first. false≢true (sym (ap (λ (links : List ℕ). is_in links link) (none-into nodes run.accepted number node at first)) ∙ above)) begins stops

-- the parts that answer
endpoint-is : (p : Part) → is_endpoint p ≡ true → (p ≡ part.Memory) ⊎ ((p ≡ part.LiteMemory) ⊎ (p ≡ part.Error))
endpoint-is part.Memory e = inl refl
endpoint-is part.LiteMemory e = inr (inl refl)
endpoint-is part.Error e = inr (inr refl)
endpoint-is part.Manager e = absurd (false≢true e)
endpoint-is part.Mux e = absurd (false≢true e)
endpoint-is part.Demux e = absurd (false≢true e)
endpoint-is part.Slice e = absurd (false≢true e)
endpoint-is part.Remap e = absurd (false≢true e)
endpoint-is part.Split e = absurd (false≢true e)
endpoint-is part.Up e = absurd (false≢true e)
endpoint-is part.Down e = absurd (false≢true e)
endpoint-is part.Lite e = absurd (false≢true e)

-- a transaction of the traffic at its manager in the network: the manager's plan node, and its place in the script and in
-- the traffic
pub record IsPlanned (nodes : List DocumentNode) (items : List TrafficItem) (number inner : ℕ) (item : TrafficItem) : Type 0 where
  pub less : number < length (plan_nodes nodes)
  pub first : is_first (plan_node_at nodes number).part ≡ true
  pub place : ℕ
  pub at : slice_get items place ≡ Some item
  pub manager : item.manager ≡ (plan_node_at nodes number).document
  pub own : IsItem (opening nodes items) number (manager_at nodes number items) inner (script_item item)

module _ (nodes : List DocumentNode) (items : List TrafficItem) (run : CanRun nodes) (traffic : IsTraffic nodes items) (number inner : ℕ) (item : TrafficItem) (planned : IsPlanned nodes items number inner item) where
  abbrev net : Network NodeState
  net = opening nodes items

  abbrev forms : ℕ → LinkForm
  forms = form_of_link nodes

  abbrev pub sound : IsSound node_kind (opening nodes items) (form_of_link nodes)
  sound = openings-are_sound nodes items run traffic

  abbrev s : ManagerState
  s = manager_at nodes number items

  abbrev pub starts : Origin
  starts = item_origin s.bus s.lower (script_item item)

  abbrev pub end : Hop
  end = way_end net forms starts

  abbrev pub target : ℕ
  target = target_of nodes item.manager item.txn.request.addr

  end-less : end.link < length (plan_links nodes)
  end-less = within nodes items end.link (end-known net forms sound starts (among net forms sound number s inner (script_item item) planned.own))

  pub target-is : way_target net forms starts ≡ target
  target-is =
      let from : Started nodes items starts = record {
        number = number;
        less = planned.less;
        first = planned.first;
        item = item;
        place = planned.place;
        at = planned.at;
        manager = planned.manager;
        is = refl;
      } in
      let below = lower-known nodes items run end.link end-less in
      let stops = ap (λ (w : Way). w.goes_on end.share) (sym (below-is nodes items run end.link below)) ∙ end-stops net forms sound number s inner (script_item item) planned.own in
      let begins =
      at-some (λ (a : Acted NodeState). node_kind.begins a.state) (slice_get net.nodes (plan_link_at nodes end.link).lower) (opened (state_at nodes items (plan_link_at nodes end.link).lower))
      (node-is nodes items (plan_link_at nodes end.link).lower below) (sound.begins (plan_link_at nodes end.link).lower) in
      let path = path-stops_below nodes items run end.link end.share item.txn.request.addr end-less begins stops in
      let come = comes-to nodes items run traffic starts from end.link end.share (end-there net forms sound number s inner (script_item item) planned.own) path in
      ap (λ (l : NetLink). l.lower) (link-is nodes items end.link) ∙ sym come.0

  -- ---- the plan node there

  pub suits : Suits nodes item
  suits =
      let within = slice_get_within items planned.place item planned.at in
      subst (Suits nodes) (Some-same _ _ (sym (some-at items planned.place item within) ∙ planned.at)) (traffic.suit planned.place item within)

  ends : EndsAtEndpoint nodes item.manager item.txn.request.addr
  ends =
      let less : item.manager < length nodes = slice_get_within nodes item.manager suits.node suits.is_node in
      let same : node_at nodes item.manager ≡ suits.node = Some-same _ _ (sym (some-at nodes item.manager _ less) ∙ suits.is_node) in
      path-ends_at_endpoint nodes run.accepted item.manager item.txn.request.addr less (ap (λ (n : DocumentNode). is_manager n.kind) same ∙ suits.manager)

  pub target-less : target < length (plan_nodes nodes)
  target-less = slice_get_within (plan_nodes nodes) target ends.node ends.at

  pub target-kind : ((plan_node_at nodes target).part ≡ part.Memory) ⊎ (((plan_node_at nodes target).part ≡ part.LiteMemory) ⊎ ((plan_node_at nodes target).part ≡ part.Error))
  target-kind =
      let at = node-at nodes items target target-less in
      let same : ends.node ≡ plan_node_at nodes target = Some-same ends.node (plan_node_at nodes target) (sym ends.at ∙ at) in
      endpoint-is (plan_node_at nodes target).part (ap (λ (n : PlanNode). is_endpoint n.part) (sym same) ∙ ends.endpoint)

  -- what is of the node where it ends is of the target
  pub at-target : {Y : Type 0} (other : Y) (of_node : (name : KindName) → StateOf name → Y) (p : Part) → (plan_node_at nodes target).part ≡ p →
      of_target net forms other of_node starts ≡ of_node (state_by_part nodes items target p).kind (state_by_part nodes items target p).state
  at-target other of_node p is =
      ap (λ (k : ℕ). option_map_or (λ (a : Acted NodeState). of_node a.state.kind a.state.state) (slice_get net.nodes k) other) target-is
      ∙ ap (λ (o : Option (Acted NodeState)). option_map_or (λ (a : Acted NodeState). of_node a.state.kind a.state.state) o other) (node-is nodes items target target-less)
      ∙ ap (λ (q : Part). of_node (state_by_part nodes items target q).kind (state_by_part nodes items target q).state) is
