-- The way of a transaction follows the path of its address, whole or in parts, so that it ends at its target.
use Rattle.std.proofs.Common.{◌≡◌, ◌<◌, ◌≤◌, ◌+◌, ◌-◌, ◌*◌, ◌==◌, ℕ, zero, suc, Bool, true, false, cond, List, [], ◌∷◌, length, map, Option, Some, None, refl, sym, ◌∙◌, ap, subst, inl, inr, arith}
use Rattle.std.specs.Prelude.{slice_get, slice_index_or, unwrap_or, ◌⊎◌}
use Rattle.std.specs.Option.{option_and_then, option_map_or}
use Rattle.std.specs.List.{list_any, range_with_len}
use Rattle.std.proofs.lemmas.Bool.{eqb-true, true≢false}
use Rattle.std.proofs.lemmas.List.{length-append, length-map}
use Rattle.std.proofs.lemmas.List.FromFn.{length-map-range_with_len, length-range_with_len}
use Rattle.std.proofs.lemmas.List.Elements.{All-head}
use Rattle.std.proofs.lemmas.Option.{slice_get_within}
use Rattle.address_map.proofs.PortLemmas.{page-port}
use Rattle.address_map.specs.Regions.{is_bad_region, serving_port}
use Rattle.axi_beats.specs.Bus.{IsBusWidth}
use Rattle.axi_beats.specs.declared.beat.Addr.{Addr}
use Rattle.axi_trail.specs.Schedule.{Share}
use Rattle.elaborate.proofs.Forms.{Form, Part_at, own_part, part-at}
use Rattle.elaborate.proofs.Forms.Form.{Behind, Demux, DemuxError, Input, InputError, Own, Split, Target}
use Rattle.elaborate.proofs.Lists.{None-Some, Some-same}
use Rattle.elaborate.proofs.PathFacts.{last-later, onward, onward-below, path-goes_on, path-stops}
use Rattle.elaborate.proofs.PlanFacts.{form-document, lowers-are_nodes, plan-is_acyclic}
use Rattle.elaborate.specs.Laws.{is_first, is_mux}
use Rattle.elaborate.specs.Path.{next_by_part, path_from, port_at_demux, ported_regions}
use Rattle.elaborate.specs.Plan.{PlanNode, entrance, entrances, first_part, plan_graph, plan_link_at, plan_links, plan_node_at, plan_nodes}
use Rattle.elaborate.specs.declared.link.PlanLink.{PlanLink}
use Rattle.elaborate.specs.declared.part.Part.{Part}
use Rattle.elaborate.specs.declared.part.Part.TheVariants as part
use Rattle.net_kinds.specs.NodeKind.{NodeState, node_kind}
use Rattle.net_model.specs.declared.net_link.NetLink.{NetLink}
use Rattle.net_opening.specs.Opening.{opening, state_at, state_by_part}
use Rattle.demux_node.specs.DemuxTrail.{port_of_parts}
use Rattle.net_opening.specs.PlanLinks.{link_into, link_out_of, links_into, links_out_of}
use Rattle.net_opening.specs.States.{demux_at, lite_at}
use Rattle.net_plan.proofs.BurstParts.{AreOfBurst, IsOfBurst, of-cut, of-words}
use Rattle.net_plan.proofs.LinkLists.{range-at, some-at}
use Rattle.net_plan.proofs.LinkPlaces.{link-by_port, link-there, link_down, links-out, links_before}
use Rattle.net_plan.proofs.LinkProtocols.{lite-forms}
use Rattle.net_plan.proofs.NodeLinks.{into-is, leads-down, one-into}
use Rattle.net_plan.proofs.OpeningWired.{link-is, node-at, node-is}
use Rattle.net_plan.proofs.PartLemmas.{LowersSuit, is-built, lowers-suit, split-lite}
use Rattle.net_plan.proofs.SoundParts.{ports-are_good}
use Rattle.net_plan.specs.PlanLaws.{CanRun}
use Rattle.net_ways.specs.Ways.{Hop, hop_at_end, hop_before, share_on, way_at, way_below, way_from}
use Rattle.node_core.specs.Acted.{Acted}
use Rattle.node_graph.proofs.Members.{in-first}
use Rattle.node_graph.proofs.Ways.{depths-are_small, links-lead_deeper}
use Rattle.node_graph.specs.Graph.{depth_of, is_in, nodes_below, numbers}
use Rattle.node_shape.specs.Way.{Way, onto, start_here}
use Rattle.plan_traffic.specs.Traffic.{TrafficItem}
use Rattle.topology.specs.Document.{DocumentNode, node_at, targets_of, uppers_of}
use Rattle.topology_text.specs.declared.kind.Kind.{Kind}
use Rattle.topology_text.specs.declared.kind.Kind.TheVariants as kind

abbrev is_demux : Part → Bool
is_demux part.Demux = true
is_demux other = false

-- the last number of a list
abbrev pub last_of : List ℕ → ℕ
last_of list = slice_index_or list (length list - 1) 0

share-cases : (link : ℕ) (hop : Hop) (rest : List Hop) (share : Share) → share_on link (hop ∷ rest) ≡ Some share → ((hop.link ≡ link) × (share ≡ hop.share)) ⊎ (share_on link rest ≡ Some share)
share-cases link hop rest share e = go (hop.link == link) refl e
  where
    go : (b : Bool) → (hop.link == link) ≡ b → cond b (Some hop.share) (share_on link rest) ≡ Some share → ((hop.link ≡ link) × (share ≡ hop.share)) ⊎ (share_on link rest ≡ Some share)
    go true is e = inl (eqb-true hop.link link is, sym (Some-same hop.share share e))
    go false is e = inr e

pub some-path : (nodes : List DocumentNode) (address left node : ℕ) → 0 < left → 0 < length (path_from nodes (plan_nodes nodes) address left node)
unfolding path_from
some-path nodes address zero node some = absurd (omega (arith, some))
some-path nodes address (suc left) node some = omega arith

none-last : Unit {0} → 1 - 1 ≡ 0
none-last u = omega arith

last-alone : (x : ℕ) → last_of (x ∷ []) ≡ x
last-alone x = ap (λ k. slice_index_or (x ∷ []) k 0) (none-last tt)

module _ (nodes : List DocumentNode) (items : List TrafficItem) (run : CanRun nodes) where
  -- ---- where a node sends a transaction on

  pub onward-is : (address number : ℕ) (node : PlanNode) → slice_get (plan_nodes nodes) number ≡ Some node → onward nodes address number ≡ next_by_part nodes address node node.part
  onward-is address number node at = ap (option_and_then (λ node. next_by_part nodes address node node.part)) at

  -- the link of a port leads to the plan node of the port
  port-leads : (number port next : ℕ) (node : PlanNode) → slice_get (plan_nodes nodes) number ≡ Some node → slice_get (links_out_of nodes number) port ≡ Some next →
      (slice_get node.lower port ≡ Some (plan_link_at nodes next).lower) × (next < length (plan_links nodes))
  port-leads number port next node at there =
      let in_range : slice_get (range_with_len (links_before (plan_nodes nodes) number) (length node.lower)) port ≡ Some next = ap (λ xs. slice_get xs port) (sym (links-out nodes number node at)) ∙ there in
      let less : port < length node.lower =
      omega (arith, slice_get_within (range_with_len (links_before (plan_nodes nodes) number) (length node.lower)) port next in_range, length-range_with_len (links_before (plan_nodes nodes) number) (length node.lower)) in
      let same : links_before (plan_nodes nodes) number + port ≡ next = Some-same (links_before (plan_nodes nodes) number + port) next (sym (range-at (links_before (plan_nodes nodes) number) (length node.lower) port less) ∙ in_range) in
      let lower : slice_get node.lower port ≡ Some (slice_index_or node.lower port 0) = some-at node.lower port 0 less in (
        lower
            ∙ ap (λ (l : PlanLink). Some l.lower) (sym (link-by_port nodes number port (slice_index_or node.lower port 0) node at lower))
            ∙ ap (λ (k : ℕ). Some (plan_link_at nodes k).lower) same,
        subst (λ (k : ℕ). k < length (plan_links nodes)) same
            (slice_get_within (plan_links nodes) (links_before (plan_nodes nodes) number + port) (link_down nodes number node (slice_index_or node.lower port 0)) (link-there nodes number port (slice_index_or node.lower port 0) node at lower)),
      )

  pub first-leads : (number next : ℕ) (node : PlanNode) → slice_get (plan_nodes nodes) number ≡ Some node → length node.lower ≡ 1 → Some (link_out_of nodes number) ≡ Some next →
      (slice_get node.lower 0 ≡ Some (plan_link_at nodes next).lower) × (next < length (plan_links nodes))
  first-leads number next node at long there =
      let out : length (links_out_of nodes number) ≡ 1 = ap length (links-out nodes number node at) ∙ length-range_with_len (links_before (plan_nodes nodes) number) (length node.lower) ∙ long in
      port-leads number 0 next node at (some-at (links_out_of nodes number) 0 0 (omega (arith, out)) ∙ there)

  demux-port : (a b : ℕ) (o : Option ℕ) → a ≡ b → unwrap_or o a ≡ unwrap_or o b
  demux-port a b o same = ap (unwrap_or o) same

  -- the port of what is carried of a burst at a demux is that of the burst's address
  pub burst-port : (number : ℕ) (node : PlanNode) (parts : List Addr) (request : Addr) → slice_get (plan_nodes nodes) number ≡ Some node → plan_node_at nodes number ≡ node →
      length node.lower ≡ suc (length (targets_of nodes (node_at nodes node.document))) → AreOfBurst request parts →
      port_of_parts (demux_at nodes number).shape parts ≡ port_at_demux nodes (node_at nodes node.document) request.addr
  burst-port number node [] request at is long are = absurd (omega (arith, are.some))
  burst-port number node (part ∷ parts) request at is long are =
      let out : length (links_out_of nodes number) ≡ length node.lower = ap length (links-out nodes number node at) ∙ length-range_with_len (links_before (plan_nodes nodes) number) (length node.lower) in
      let last : length (links_out_of nodes number) - 1 ≡ length (targets_of nodes (node_at nodes node.document)) = omega (arith, out, long) in
      let spot : Part_at nodes number node = part-at nodes number node at in
      let document : node.document ≡ spot.place = form-document nodes spot.place spot.inner node (node_at nodes spot.place).kind spot.form in
      let good : list_any is_bad_region (ported_regions nodes (node_at nodes node.document)) ≡ false = ports-are_good nodes run.accepted node.document (omega (arith, document, spot.within)) in
      ap (λ (k : ℕ). unwrap_or (serving_port (ported_regions nodes (node_at nodes k)) part.addr) (length (links_out_of nodes number) - 1)) (ap (λ (n : PlanNode). n.document) is)
      ∙ ap (unwrap_or (serving_port (ported_regions nodes (node_at nodes node.document)) part.addr)) last
      ∙ ap (λ (port : Option ℕ). unwrap_or port (length (targets_of nodes (node_at nodes node.document))))
      (page-port (ported_regions nodes (node_at nodes node.document)) part.addr request.addr good (All-head (IsOfBurst request) part parts are.each).same_page)

  goes-by : (number next : ℕ) (node : PlanNode) (p : Part) (share : Share) (request : Addr) → slice_get (plan_nodes nodes) number ≡ Some node → plan_node_at nodes number ≡ node → node.part ≡ p → AreOfBurst request share.parts →
      LowersSuit p node.lower → (p ≡ part.Demux → length node.lower ≡ suc (length (targets_of nodes (node_at nodes node.document)))) →
      (node_kind.way (state_by_part nodes items number p)).goes_on share ≡ Some next →
      (next_by_part nodes request.addr node p ≡ Some (plan_link_at nodes next).lower) × (next < length (plan_links nodes))
  goes-by number next node part.Manager share request at is is_part parts suits long e = absurd (None-Some next e)
  goes-by number next node part.Memory share request at is is_part parts suits long e = absurd (None-Some next e)
  goes-by number next node part.Error share request at is is_part parts suits long e = absurd (None-Some next e)
  goes-by number next node part.Mux share request at is is_part parts suits long e = first-leads number next node at suits e
  goes-by number next node part.Slice share request at is is_part parts suits long e = first-leads number next node at suits e
  goes-by number next node part.Demux share request at is is_part parts suits long e =
      port-leads number (port_at_demux nodes (node_at nodes node.document) request.addr) next node at
      (ap (slice_get (links_out_of nodes number)) (sym (burst-port number node share.parts request at is (long refl) parts)) ∙ e)
  goes-by number next node part.LiteMemory share request at is is_part parts suits long e = absurd (None-Some next e)
  goes-by number next node part.Remap share request at is is_part parts suits long e = first-leads number next node at suits e
  goes-by number next node part.Split share request at is is_part parts suits long e = first-leads number next node at suits e
  goes-by number next node part.Up share request at is is_part parts suits long e = first-leads number next node at suits e
  goes-by number next node part.Down share request at is is_part parts suits long e = absurd suits
  goes-by number next node part.Lite share request at is is_part parts suits long e = first-leads number next node at suits e

  -- the bus around a Lite bridge is one that there is
  bridge-bus : (number : ℕ) → slice_get (plan_nodes nodes) number ≡ Some (plan_node_at nodes number) → (plan_node_at nodes number).part ≡ part.Lite → IsBusWidth (lite_at nodes number).shape.bus
  bridge-bus number at is =
      let alone = one-into nodes run.accepted number (plan_node_at nodes number) at (ap is_first is) (ap is_mux is) in
      let into : is_in (links_into nodes number) (link_into nodes number) ≡ true = ap (λ xs. is_in xs (link_into nodes number)) (sym alone) ∙ in-first (link_into nodes number) [] (link_into nodes number) refl in
      (lite-forms nodes run (link_into nodes number) (into-is nodes number (link_into nodes number) into).0).width

  -- what a node sends on of a burst are parts of it
  cut-by : (number : ℕ) (p : Part) (share : Share) (request : Addr) → (p ≡ part.Lite → IsBusWidth (lite_at nodes number).shape.bus) → AreOfBurst request share.parts →
      AreOfBurst request ((node_kind.way (state_by_part nodes items number p)).cut share).parts
  cut-by number part.Manager share request bus are = are
  cut-by number part.Memory share request bus are = are
  cut-by number part.Error share request bus are = are
  cut-by number part.Mux share request bus are = are
  cut-by number part.Demux share request bus are = are
  cut-by number part.Slice share request bus are = are
  cut-by number part.LiteMemory share request bus are = are
  cut-by number part.Remap share request bus are = are
  cut-by number part.Split share request bus are = of-cut request share.parts are
  cut-by number part.Up share request bus are = are
  cut-by number part.Down share request bus are = are
  cut-by number part.Lite share request bus are = of-words (lite_at nodes number).shape.bus request share.parts (bus refl) are

  abbrev pub below : ℕ → Way
  below link = way_below node_kind (opening nodes items) link

  pub below-is : (link : ℕ) → (plan_link_at nodes link).lower < length (plan_nodes nodes) → below link ≡ node_kind.way (state_at nodes items (plan_link_at nodes link).lower)
  below-is link less =
      ap (λ (k : ℕ). way_at node_kind (opening nodes items).nodes k) (ap (λ (l : NetLink). l.lower) (link-is nodes items link))
      ∙ ap (λ (o : Option (Acted NodeState)). option_map_or (λ (n : Acted NodeState). node_kind.way n.state) o (start_here [])) (node-is nodes items (plan_link_at nodes link).lower less)

  -- a demux has a port for each target, and one more
  own-demux : (k : Kind) (p : Part) → own_part k ≡ Some p → p ≡ part.Demux → ⊥
  own-demux kind.Manager p own is = true≢false (ap is_demux (sym is ∙ sym (Some-same part.Manager p own)))
  own-demux kind.Memory p own is = true≢false (ap is_demux (sym is ∙ sym (Some-same part.Memory p own)))
  own-demux kind.LiteMemory p own is = true≢false (ap is_demux (sym is ∙ sym (Some-same part.LiteMemory p own)))
  own-demux kind.Slice p own is = true≢false (ap is_demux (sym is ∙ sym (Some-same part.Slice p own)))
  own-demux kind.Mux p own is = true≢false (ap is_demux (sym is ∙ sym (Some-same part.Mux p own)))
  own-demux kind.Remap p own is = true≢false (ap is_demux (sym is ∙ sym (Some-same part.Remap p own)))
  own-demux kind.Up p own is = true≢false (ap is_demux (sym is ∙ sym (Some-same part.Up p own)))
  own-demux other p own is = None-Some p own

  ports-by : (place inner : ℕ) (node : PlanNode) → place < length nodes → Form nodes place inner node (node_at nodes place).kind → node.part ≡ part.Demux → length node.lower ≡ suc (length (targets_of nodes (node_at nodes place)))
  unfolding numbers
  ports-by place inner node less (Own p own first is) demux = absurd (own-demux (node_at nodes place).kind p own (sym (ap (λ (n : PlanNode). n.part) is) ∙ demux))
  ports-by place inner node less (Split p split first is) demux = absurd (true≢false (ap is_demux (sym demux ∙ ap (λ (n : PlanNode). n.part) is)))
  ports-by place inner node less (Behind p split first is) demux =
      absurd (true≢false (ap is_demux (sym demux ∙ ap (λ (n : PlanNode). n.part) is ∙ (split-lite (node_at nodes place).kind p split (is-built nodes run place less)).1)))
  ports-by place inner node less (Demux own first is) demux =
      omega (arith, ap (λ (n : PlanNode). length n.lower) is, length-append (entrances nodes place) ((first_part nodes place + 1) ∷ []), length-map (targets_of nodes (node_at nodes place)) (entrance nodes place))
  ports-by place inner node less (DemuxError own first is) demux = absurd (true≢false (ap is_demux (sym demux ∙ ap (λ (n : PlanNode). n.part) is)))
  ports-by place inner node less (Input i own within first is) demux =
      omega (
        arith,
        ap (λ (n : PlanNode). length n.lower) is,
        length-append (map (λ j. first_part nodes place + 2 * length (uppers_of nodes place) + j) (numbers (length (targets_of nodes (node_at nodes place))))) ((first_part nodes place + 2 * i + 1) ∷ []),
        length-map-range_with_len (λ j. first_part nodes place + 2 * length (uppers_of nodes place) + j) 0 (length (targets_of nodes (node_at nodes place))),
      )
  ports-by place inner node less (InputError i own within first is) demux = absurd (true≢false (ap is_demux (sym demux ∙ ap (λ (n : PlanNode). n.part) is)))
  ports-by place inner node less (Target j own within first is) demux = absurd (true≢false (ap is_demux (sym demux ∙ ap (λ (n : PlanNode). n.part) is)))

  pub ports-long : (number : ℕ) (node : PlanNode) → slice_get (plan_nodes nodes) number ≡ Some node → node.part ≡ part.Demux → length node.lower ≡ suc (length (targets_of nodes (node_at nodes node.document)))
  ports-long number node at demux =
      let spot : Part_at nodes number node = part-at nodes number node at in
      ports-by spot.place spot.inner node spot.within spot.form demux
      ∙ ap (λ (k : ℕ). suc (length (targets_of nodes (node_at nodes k)))) (sym (form-document nodes spot.place spot.inner node (node_at nodes spot.place).kind spot.form))

  pub lower-known : (link : ℕ) → link < length (plan_links nodes) → (plan_link_at nodes link).lower < length (plan_nodes nodes)
  lower-known link less = lowers-are_nodes nodes (plan_link_at nodes link).upper (plan_link_at nodes link).lower (leads-down nodes link less)

  -- a transaction, or what is carried of it, goes on where the path of its address does
  pub step : (link next : ℕ) (share : Share) (request : Addr) → link < length (plan_links nodes) → AreOfBurst request share.parts → (below link).goes_on share ≡ Some next →
      (onward nodes request.addr (plan_link_at nodes link).lower ≡ Some (plan_link_at nodes next).lower) × (next < length (plan_links nodes))
  step link next share request less parts goes =
      let number : ℕ = (plan_link_at nodes link).lower in
      let known = lower-known link less in
      let node : PlanNode = plan_node_at nodes (plan_link_at nodes link).lower in
      let at = node-at nodes items (plan_link_at nodes link).lower known in
      let on = goes-by (plan_link_at nodes link).lower next (plan_node_at nodes (plan_link_at nodes link).lower) (plan_node_at nodes (plan_link_at nodes link).lower).part share request at refl refl parts
      (lowers-suit nodes run (plan_link_at nodes link).lower (plan_node_at nodes (plan_link_at nodes link).lower) at)
      (ports-long (plan_link_at nodes link).lower (plan_node_at nodes (plan_link_at nodes link).lower) at)
      (ap (λ (w : Way). w.goes_on share) (sym (below-is link known)) ∙ goes) in
      (onward-is request.addr (plan_link_at nodes link).lower (plan_node_at nodes (plan_link_at nodes link).lower) at ∙ on.0, on.1)

  -- and what goes on are parts of it
  pub cut-of_burst : (link : ℕ) (share : Share) (request : Addr) → link < length (plan_links nodes) → AreOfBurst request share.parts → AreOfBurst request ((below link).cut share).parts
  cut-of_burst link share request less are =
      let at = node-at nodes items (plan_link_at nodes link).lower (lower-known link less) in
      subst (λ (w : Way). AreOfBurst request (w.cut share).parts) (sym (below-is link (lower-known link less)))
      (cut-by (plan_link_at nodes link).lower (plan_node_at nodes (plan_link_at nodes link).lower).part share request (bridge-bus (plan_link_at nodes link).lower at) are)

  abbrev pub depth_at : ℕ → ℕ
  depth_at number = depth_of (plan_graph nodes) number

  pub deeper : (upper lower : ℕ) → lower < length (plan_nodes nodes) → is_in (nodes_below (plan_graph nodes) upper) lower ≡ true → depth_at upper < depth_at lower
  deeper upper lower known there =
      links-lead_deeper (plan_graph nodes) (plan-is_acyclic nodes run.accepted) upper lower (omega (arith, known, length-map (plan_nodes nodes) (λ (node : PlanNode). node.lower))) there

  pub shallow : (number : ℕ) → number < length (plan_nodes nodes) → depth_at number < length (plan_nodes nodes)
  shallow number known =
      omega (
        arith,
        length-map (plan_nodes nodes) (λ (node : PlanNode). node.lower),
        depths-are_small (plan_graph nodes) (plan-is_acyclic nodes run.accepted) number (omega (arith, known, length-map (plan_nodes nodes) (λ (node : PlanNode). node.lower))),
      )

  -- what a link at the end of a way carries are parts of the request, and the path ends below it
  abbrev pub EndsFrom : Bool → ℕ → ℕ → Addr → Type 0
  EndsFrom write left to request =
      (link most : ℕ) (share found : Share) → link < length (plan_links nodes) → AreOfBurst request share.parts → share_on to (way_from node_kind (opening nodes items) write left link share) ≡ Some found →
      onward nodes request.addr (plan_link_at nodes to).lower ≡ None → length (plan_nodes nodes) ≤ depth_at (plan_link_at nodes link).lower + most →
      (last_of (path_from nodes (plan_nodes nodes) request.addr most (plan_link_at nodes link).lower) ≡ (plan_link_at nodes to).lower) × AreOfBurst request found.parts

  pub from-ends : (write : Bool) (left link : ℕ) (share : Share) → (below link).goes_on share ≡ None → way_from node_kind (opening nodes items) write (suc left) link share ≡ hop_at_end (below link) write link share ∷ []
  unfolding way_from
  from-ends write left link share none =
      ap (λ (o : Option ℕ). option_map_or
      (λ next. hop_before (below link) write link share (way_from node_kind (opening nodes items) write left next (onto next ((below link).cut share)))
      ∷ way_from node_kind (opening nodes items) write left next (onto next ((below link).cut share)))
      o (hop_at_end (below link) write link share ∷ [])) none

  pub from-next : (write : Bool) (left link next : ℕ) (share : Share) → (below link).goes_on share ≡ Some next →
      way_from node_kind (opening nodes items) write (suc left) link share
      ≡ hop_before (below link) write link share (way_from node_kind (opening nodes items) write left next (onto next ((below link).cut share)))
      ∷ way_from node_kind (opening nodes items) write left next (onto next ((below link).cut share))
  unfolding way_from
  from-next write left link next share some =
      ap (λ (o : Option ℕ). option_map_or
      (λ next. hop_before (below link) write link share (way_from node_kind (opening nodes items) write left next (onto next ((below link).cut share)))
      ∷ way_from node_kind (opening nodes items) write left next (onto next ((below link).cut share)))
      o (hop_at_end (below link) write link share ∷ [])) some

  path-stopped : (address most number to : ℕ) → number ≡ to → onward nodes address to ≡ None → 0 < most → last_of (path_from nodes (plan_nodes nodes) address most number) ≡ to
  path-stopped address zero number to same none some = absurd (omega (arith, some))
  path-stopped address (suc most) number to same none some =
      ap last_of (path-stops nodes address most number (ap (onward nodes address) same ∙ none)) ∙ last-alone number ∙ same

  ends-step : (write : Bool) (left to : ℕ) (request : Addr) → EndsFrom write left to request → EndsFrom write (suc left) to request
  ends-step write left to request again link zero share found less parts there none enough = absurd (omega (arith, enough, shallow (plan_link_at nodes link).lower (lower-known link less)))
  ends-step write left to request again link (suc most) share found less parts there none enough = go ((below link).goes_on share) refl
    where
      go : (o : Option ℕ) → (below link).goes_on share ≡ o →
          (last_of (path_from nodes (plan_nodes nodes) request.addr (suc most) (plan_link_at nodes link).lower) ≡ (plan_link_at nodes to).lower) × AreOfBurst request found.parts
      go None ends =
          elim (share-cases to (hop_at_end (below link) write link share) [] found (ap (share_on to) (sym (from-ends write left link share ends)) ∙ there)) [
            | inl here ↦ (
              path-stopped request.addr (suc most) (plan_link_at nodes link).lower (plan_link_at nodes to).lower (ap (λ (k : ℕ). (plan_link_at nodes k).lower) here.0) none (omega arith),
              subst (λ (s : Share). AreOfBurst request s.parts) (sym here.1) parts,
            )
            | inr further ↦ absurd (None-Some found further)
          ]
      go (Some next) goes =
          let on = step link next share request less parts goes in
          let rest = way_from node_kind (opening nodes items) write left next (onto next ((below link).cut share)) in
          elim (share-cases to (hop_before (below link) write link share (way_from node_kind (opening nodes items) write left next (onto next ((below link).cut share))))
          (way_from node_kind (opening nodes items) write left next (onto next ((below link).cut share))) found (ap (share_on to) (sym (from-next write left link next share goes)) ∙ there)) [
            | inl here ↦ absurd (None-Some (plan_link_at nodes next).lower (sym none ∙ ap (λ (k : ℕ). onward nodes request.addr (plan_link_at nodes k).lower) (sym here.0) ∙ on.0))
            | inr further ↦
                let down = deeper (plan_link_at nodes link).lower (plan_link_at nodes next).lower (lower-known next on.1) (onward-below nodes request.addr (plan_link_at nodes link).lower (plan_link_at nodes next).lower on.0) in
                let end = again next most (onto next ((below link).cut share)) found on.1 (cut-of_burst link share request less parts) further none (omega (arith, enough, down)) in
                let some : 0 < most = omega (arith, enough, down, shallow (plan_link_at nodes next).lower (lower-known next on.1)) in (
                  ap last_of (path-goes_on nodes request.addr most (plan_link_at nodes link).lower (plan_link_at nodes next).lower on.0)
                      ∙ last-later (plan_link_at nodes link).lower (path_from nodes (plan_nodes nodes) request.addr most (plan_link_at nodes next).lower)
                      (some-path nodes request.addr most (plan_link_at nodes next).lower some)
                      ∙ end.0,
                  end.1,
                )
          ]

  pub ends-from : (write : Bool) (left to : ℕ) (request : Addr) → EndsFrom write left to request
  unfolding way_from
  ends-from write zero to request link most share found less parts there none enough = absurd (None-Some found there)
  ends-from write (suc left) to request link most share found less parts there none enough = ends-step write left to request (ends-from write left to request) link most share found less parts there none enough
