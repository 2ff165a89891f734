-- The links around each node of a plan's network are as its kind wants them, where memories keep the lines of what comes to them.
use Rattle.std.proofs.Common.{◌≡◌, ◌<◌, ◌≤◌, ◌+◌, ◌*◌, ◌^◌, ◌==◌, ◌||◌, ℕ, suc, Bool, true, false, cond, not, List, [], ◌∷◌, length, map, Some, refl, sym, ◌∙◌, ap, subst, arith}
use Rattle.std.specs.Prelude.{All, slice_get, slice_index_or}
use Rattle.std.proofs.lemmas.Bool.{eqb-true, not-false, or_parts, true≢false}
use Rattle.std.proofs.lemmas.List.{length-map}
use Rattle.std.proofs.lemmas.List.Elements.{All-cons, All-map, All-nil}
use Rattle.std.proofs.lemmas.List.FromFn.{length-range_with_len}
use Rattle.elaborate.proofs.Forms.{Form, input_count, own_part}
use Rattle.elaborate.proofs.Forms.Form.{Behind, Demux, DemuxError, Input, InputError, Own, Split, Target}
use Rattle.elaborate.proofs.LinkForms.{exit_of, is_behind}
use Rattle.elaborate.proofs.Lists.{None-Some, Some-same, mapped-in, nth-in}
use Rattle.elaborate.specs.Laws.{is_first, is_mux}
use Rattle.elaborate.specs.Plan.{PlanNode, first_part, plan_link_at, plan_node_at, plan_nodes}
use Rattle.elaborate.specs.Unbuilt.{is_unbuilt}
use Rattle.elaborate.specs.declared.part.Part.{Part}
use Rattle.elaborate.specs.declared.part.Part.TheVariants as part
use Rattle.manager_node.specs.Script.{ScriptItem}
use Rattle.memory_node.specs.MemoryArea.{MemoryArea}
use Rattle.memory_node.specs.MemoryState.{AreLinesAmong}
use Rattle.net_kinds.specs.NodeKind.{node_kind}
use Rattle.net_opening.specs.Opening.{state_by_part}
use Rattle.net_opening.specs.PlanLinks.{cuts_bursts, form_of_link, link_into, link_out_of, links_into, links_out_of}
use Rattle.plan_traffic.specs.Scripts.{script_item}
use Rattle.net_opening.specs.States.{document_node_of, lite_memory_at, memory_at}
use Rattle.net_opening.specs.Touched.{lines_touched}
use Rattle.net_plan.proofs.LinkKinds.{Comes, JoinsAt, Stays, comes, first-input, form-below, form-plain, form_under, joins, nth-input, own-input, plain_form, stays}
use Rattle.net_plan.proofs.LinkLists.{at-some}
use Rattle.net_plan.proofs.LinkProtocols.{first-full}
use Rattle.net_plan.proofs.NodeLinks.{into-is, into-once, one-into, one-out, same-link}
use Rattle.net_plan.proofs.PartLemmas.{LowersSuit, is-built, lowers-suit, split-lite}
use Rattle.net_plan.proofs.SoundParts.{handed, same-bus, sound-demux, sound-mux}
use Rattle.net_plan.proofs.WidthLemmas.{no-longer}
use Rattle.net_plan.specs.PlanLaws.{CanRun}
use Rattle.axi_trail.specs.Schedule.{Schedule}
use Rattle.node_graph.proofs.Members.{in-first, numbers-in}
use Rattle.node_graph.specs.Graph.{is_in, numbers}
use Rattle.node_shape.specs.LinkForm.{LinkForm}
use Rattle.plan_traffic.specs.Accepted.{IsTraffic, Suits, items_of_manager}
use Rattle.plan_traffic.specs.Traffic.{TrafficItem}
use Rattle.topology.proofs.AcceptedFacts.{accepted-is_clean}
use Rattle.topology.specs.Document.{DocumentNode, first_link, inputs_of, joins_links, link_kind_of, node_at, node_of_kind, uppers_of}
use Rattle.topology.specs.Fits.{any_lite_of, bus_differs_at, protocol_differs_at}
use Rattle.topology.specs.declared.link.LinkKind.{LinkKind}
use Rattle.topology_text.specs.declared.kind.Kind.{Kind}
use Rattle.topology_text.specs.declared.kind.Kind.TheVariants as kind
use Rattle.up_node.specs.UpTrail.{on_wider}

-- what holds of each transaction holds of those of a manager
pub of-manager : (Q P : TrafficItem → Type 0) (manager : ℕ) (items : List TrafficItem) → All Q items → ((item : TrafficItem) → Q item → item.manager ≡ manager → P item) → All P (items_of_manager manager items)
of-manager Q P manager [] all each = All-nil P
of-manager Q P manager (item ∷ more) all each =
    go (item.manager == manager) refl (of-manager Q P manager more (λ i d less. all (suc i) d (omega (arith, less))) each)
  where
    go : (b : Bool) → (item.manager == manager) ≡ b → All P (items_of_manager manager more) → All P (cond b (item ∷ items_of_manager manager more) (items_of_manager manager more))
    go true is rest = All-cons P item (items_of_manager manager more) (each item (all 0 item (omega arith)) (eqb-true item.manager manager is)) rest
    go false is rest = rest

pub manager-is : (nodes : List DocumentNode) (place : ℕ) (item : TrafficItem) (suits : Suits nodes item) → item.manager ≡ place → suits.node ≡ node_at nodes place
manager-is nodes place item suits same = sym (at-some nodes place suits.node (node_of_kind [] kind.Slice) (ap (slice_get nodes) (sym same) ∙ suits.is_node))

module _ (nodes : List DocumentNode) (items : List TrafficItem) (schedules : ℕ → Schedule) (number : ℕ) where
  -- the writes that come to a memory of this area lie on lines that it keeps
  abbrev pub KeepsOwnLines : MemoryArea → Type 0
  KeepsOwnLines area = (t : ℕ) → All (AreLinesAmong area (lines_touched nodes items number)) ((schedules (link_into nodes number)).writes t).parts

  -- so it is of a plan node, if it is a memory
  pub record KeepItsLines (p : Part) : Type 0 where
    pub memory : p ≡ part.Memory → KeepsOwnLines (memory_at nodes number items).area
    pub lite_memory : p ≡ part.LiteMemory → KeepsOwnLines (lite_memory_at nodes number items).area

module _ (nodes : List DocumentNode) (items : List TrafficItem) (run : CanRun nodes) (traffic : IsTraffic nodes items) (schedules : ℕ → Schedule) (number place inner : ℕ) (node : PlanNode)
    (at : slice_get (plan_nodes nodes) number ≡ Some node) (document : node.document ≡ place) (node_is : plan_node_at nodes number ≡ node) (within : place < length nodes) where
  abbrev pub SoundAs : Part → Type 0
  SoundAs p = node_kind.is_sound (form_of_link nodes) schedules (state_by_part nodes items number p)

  document_is : (plan_node_at nodes number).document ≡ place
  document_is = ap (λ (n : PlanNode). n.document) node_is ∙ document

  pub into-there : is_first node.part ≡ false → is_mux node.part ≡ false → is_in (links_into nodes number) (link_into nodes number) ≡ true
  into-there first mux = ap (λ xs. is_in xs (link_into nodes number)) (sym (one-into nodes run.accepted number node at first mux)) ∙ in-first (link_into nodes number) [] (link_into nodes number) refl

  out-there : length node.lower ≡ 1 → is_in (links_out_of nodes number) (link_out_of nodes number) ≡ true
  out-there long = ap (λ xs. is_in xs (link_out_of nodes number)) (sym (one-out nodes run.accepted number node at long)) ∙ in-first (link_out_of nodes number) [] (link_out_of nodes number) refl

  -- the link above a part that has one
  above-comes : is_first node.part ≡ false → is_mux node.part ≡ false → is_behind node.part ≡ false → Comes nodes place number (plan_link_at nodes (link_into nodes number)).upper (plan_link_at nodes (link_into nodes number)).link
  above-comes first mux outer =
      comes nodes number (link_into nodes number) node at place document outer (λ is_mux_part crossbar. true≢false (sym is_mux_part ∙ mux)) (into-there first mux)

  pub above-first : is_first node.part ≡ false → is_mux node.part ≡ false → is_behind node.part ≡ false → joins_links (node_at nodes place).kind ≡ false →
      (plan_link_at nodes (link_into nodes number)).link ≡ first_link (inputs_of nodes place)
  above-first first mux outer single =
      first-input nodes run.accepted place number (plan_link_at nodes (link_into nodes number)).upper (plan_link_at nodes (link_into nodes number)).link within single (above-comes first mux outer)

  -- its form, and that of the one link below
  above-form : is_first node.part ≡ false → is_mux node.part ≡ false → is_behind node.part ≡ false → joins_links (node_at nodes place).kind ≡ false →
      form_of_link nodes (link_into nodes number) ≡ plain_form (first_link (inputs_of nodes place))
  above-form first mux outer single =
      form-plain nodes (link_into nodes number) (above-comes first mux outer).whole ∙ ap plain_form (above-first first mux outer single)

  below-form : (p : Part) (link : LinkKind) → node.part ≡ p → length node.lower ≡ 1 → node.link ≡ link → form_of_link nodes (link_out_of nodes number) ≡ form_under (cuts_bursts p) link
  below-form p link is long same =
      form-below nodes number (link_out_of nodes number) node at (out-there long) ∙ ap (λ (q : Part). form_under (cuts_bursts q) node.link) is ∙ ap (form_under (cuts_bursts p)) same

  one-below : (p : Part) → node.part ≡ p → LowersSuit p node.lower
  one-below p is = subst (λ (p : Part). LowersSuit p node.lower) is (lowers-suit nodes run number node at)

  as-slice : node.part ≡ part.Slice → (node_at nodes place).kind ≡ kind.Slice → node.link ≡ link_kind_of nodes place → SoundAs part.Slice
  as-slice is own link_is =
      below-form part.Slice (first_link (inputs_of nodes place)) is (one-below part.Slice is) (link_is ∙ handed nodes run place kind.Slice within own)
      ∙ sym (above-form (ap is_first is) (ap is_mux is) (ap is_behind is) (ap joins_links own))

  as-remap : node.part ≡ part.Remap → (node_at nodes place).kind ≡ kind.Remap → node.link ≡ link_kind_of nodes place → SoundAs part.Remap
  as-remap is own link_is =
      let over = above-form (ap is_first is) (ap is_mux is) (ap is_behind is) (ap joins_links own) in
      let form : form_of_link nodes (link_out_of nodes number) ≡ plain_form (record (first_link (inputs_of nodes place)) { id_width = (node_at nodes place).id_width }) =
      below-form part.Remap (record (first_link (inputs_of nodes place)) { id_width = (node_at nodes place).id_width }) is (one-below part.Remap is) (link_is ∙ handed nodes run place kind.Remap within own) in
      record {
        alike = record {
          lite = ap (λ (f : LinkForm). f.lite) form ∙ sym (ap (λ (f : LinkForm). f.lite) over);
          bus = ap (λ (f : LinkForm). f.bus) form ∙ sym (ap (λ (f : LinkForm). f.bus) over);
          single = ap (λ (f : LinkForm). f.single) form ∙ sym (ap (λ (f : LinkForm). f.single) over);
        };
        width = ap (λ (f : LinkForm). f.id_width) form ∙ ap (λ (k : ℕ). (node_at nodes k).id_width) (sym document_is);
      }

  as-up : node.part ≡ part.Up → (node_at nodes place).kind ≡ kind.Up → node.link ≡ link_kind_of nodes place → SoundAs part.Up
  as-up is own link_is =
      let over : form_of_link nodes (link_into nodes number) ≡ plain_form (first_link (inputs_of nodes place)) = above-form (ap is_first is) (ap is_mux is) (ap is_behind is) (ap joins_links own) in
      let form : form_of_link nodes (link_out_of nodes number) ≡ plain_form (record (first_link (inputs_of nodes place)) { bus = (node_at nodes place).bus }) =
      below-form part.Up (record (first_link (inputs_of nodes place)) { bus = (node_at nodes place).bus }) is (one-below part.Up is) (link_is ∙ handed nodes run place kind.Up within own) in
      record {
        full = ap (λ (f : LinkForm). f.lite) over
            ∙ first-full (inputs_of nodes place) (ap (protocol_differs_at (inputs_of nodes place)) (sym own) ∙ (accepted-is_clean nodes run.accepted place within).protocols_fit);
        narrow = refl;
        below = form ∙ ap (λ (k : ℕ). on_wider (node_at nodes k).bus (plain_form (first_link (inputs_of nodes place)))) (sym document_is)
            ∙ ap (on_wider (document_node_of nodes number).bus) (sym over);
      }

  -- the link above a document node that becomes a splitter and a Lite bridge speaks AXI4
  bridge-full : (node_at nodes place).kind ≡ kind.Lite → (first_link (inputs_of nodes place)).lite ≡ false
  bridge-full own =
      first-full (inputs_of nodes place)
      (or_parts (any_lite_of (inputs_of nodes place)) (not ((first_link (inputs_of nodes place)).bus == 4 || (first_link (inputs_of nodes place)).bus == 8))
      (ap (protocol_differs_at (inputs_of nodes place)) (sym own) ∙ (accepted-is_clean nodes run.accepted place within).protocols_fit)).0

  as-split : node.part ≡ part.Split → (node_at nodes place).kind ≡ kind.Lite → node.link ≡ first_link (inputs_of nodes place) → SoundAs part.Split
  as-split is own link_is =
      let over = above-form (ap is_first is) (ap is_mux is) (ap is_behind is) (ap joins_links own) in
      let form = below-form part.Split (first_link (inputs_of nodes place)) is (one-below part.Split is) link_is in
      record {
        above = ap (λ (f : LinkForm). f.lite) over ∙ bridge-full own;
        below = ap (λ (f : LinkForm). f.lite) form ∙ bridge-full own;
        bus = ap (λ (f : LinkForm). f.bus) form ∙ sym (ap (λ (f : LinkForm). f.bus) over);
        id_width = ap (λ (f : LinkForm). f.id_width) form ∙ sym (ap (λ (f : LinkForm). f.id_width) over);
      }

  as-lite : node.part ≡ part.Lite → (node_at nodes place).kind ≡ kind.Lite → node.link ≡ link_kind_of nodes place → SoundAs part.Lite
  as-lite is own link_is =
      let from : Stays nodes place (plan_link_at nodes (link_into nodes number)).upper (plan_link_at nodes (link_into nodes number)).link =
      stays nodes number (link_into nodes number) place node at document (ap is_behind is) own (into-there (ap is_first is) (ap is_mux is)) in
      let over : form_of_link nodes (link_into nodes number) ≡ form_under true (first_link (inputs_of nodes place)) =
      ap (λ (b : Bool). form_under b (plan_link_at nodes (link_into nodes number)).link) from.cut ∙ ap (form_under true) from.is in
      let form = below-form part.Lite (record { lite = true; bus = (first_link (inputs_of nodes place)).bus; id_width = 0 }) is (one-below part.Lite is) (link_is ∙ handed nodes run place kind.Lite within own) in
      record {
        full = ap (λ (f : LinkForm). f.lite) over ∙ bridge-full own;
        single = ap (λ (f : LinkForm). f.single) over ∙ ap (λ (b : Bool). b || true) (bridge-full own);
        bus_above = refl;
        lite = ap (λ (f : LinkForm). f.lite) form;
        bus_below = ap (λ (f : LinkForm). f.bus) form ∙ sym (ap (λ (l : LinkKind). l.bus) from.is);
      }

  as-demux : node.part ≡ part.Demux → node.link ≡ (plan_link_at nodes (link_into nodes number)).link → SoundAs part.Demux
  as-demux is same =
      sound-demux nodes run number node at (ap cuts_bursts is) place within document_is (above-comes (ap is_first is) (ap is_mux is) (ap is_behind is)).whole same

  few-inputs : (ys : List ℕ) → ((link : ℕ) → is_in (links_into nodes number) link ≡ true → is_in ys (plan_link_at nodes link).upper ≡ true) → length (links_into nodes number) ≤ length ys
  few-inputs ys among =
      no-longer (λ link. (plan_link_at nodes link).upper) (links_into nodes number) ys among
      (λ one other one_in other_in same.
      let first = into-is nodes number one one_in in
      let second = into-is nodes number other other_in in
      same-link nodes one other first.0 second.0 same (first.1 ∙ sym second.1))
      (into-once nodes number)

  pub mux-input : node.part ≡ part.Mux → (node_at nodes place).kind ≡ kind.Mux → (link : ℕ) → is_in (links_into nodes number) link ≡ true → Comes nodes place number (plan_link_at nodes link).upper (plan_link_at nodes link).link
  mux-input is own link there =
      comes nodes number link node at place document (ap is_behind is) (λ mux crossbar. true≢false (ap is_mux_itself (sym own ∙ crossbar))) there
    where
      is_mux_itself : Kind → Bool
      is_mux_itself kind.Mux = true
      is_mux_itself other = false

  pub mux-few : node.part ≡ part.Mux → (node_at nodes place).kind ≡ kind.Mux → length (links_into nodes number) ≤ length (uppers_of nodes place)
  mux-few is own =
      let exits = map (λ upper. first_part nodes upper + exit_of nodes upper place) (uppers_of nodes place) in
      omega (
        arith,
        length-map (uppers_of nodes place) (λ upper. first_part nodes upper + exit_of nodes upper place),
        few-inputs (map (λ upper. first_part nodes upper + exit_of nodes upper place) (uppers_of nodes place)) (λ link there.
            let from = mux-input is own link there in
            ap (is_in (map (λ upper. first_part nodes upper + exit_of nodes upper place) (uppers_of nodes place))) from.exits
            ∙ mapped-in (λ upper. first_part nodes upper + exit_of nodes upper place) (uppers_of nodes place) from.from from.among),
      )

  as-mux : node.part ≡ part.Mux → (node_at nodes place).kind ≡ kind.Mux → node.link ≡ link_kind_of nodes place → SoundAs part.Mux
  as-mux is own link_is =
      let long : LowersSuit part.Mux node.lower = one-below part.Mux is in
      let clean = accepted-is_clean nodes run.accepted place within in
      sound-mux nodes run number node at (ap cuts_bursts is) place within (link_is ∙ handed nodes run place kind.Mux within own)
      (ap (bus_differs_at (node_at nodes place) (inputs_of nodes place)) (sym own) ∙ clean.widths_fit) (ap (protocol_differs_at (inputs_of nodes place)) (sym own) ∙ clean.protocols_fit) (out-there long) (mux-few is own)
      (λ link there. let from = mux-input is own link there in record { upper = from.from; whole = from.whole; among = from.among; is = from.is })

  pub crossbar-input : node.part ≡ part.Mux → (node_at nodes place).kind ≡ kind.Crossbar → (link : ℕ) → is_in (links_into nodes number) link ≡ true → JoinsAt nodes place (plan_link_at nodes link).upper (plan_link_at nodes link).link
  crossbar-input is own link there = joins nodes number link node at place document (ap is_mux is) own there

  numbers-long : (count : ℕ) → length (numbers count) ≡ count
  unfolding numbers
  numbers-long count = length-range_with_len 0 count

  pub crossbar-few : node.part ≡ part.Mux → (node_at nodes place).kind ≡ kind.Crossbar → length (links_into nodes number) ≤ length (uppers_of nodes place)
  crossbar-few is own =
      omega (
        arith,
        length-map (numbers (input_count nodes place)) (λ input. first_part nodes place + 2 * input),
        numbers-long (input_count nodes place),
        few-inputs (map (λ input. first_part nodes place + 2 * input) (numbers (input_count nodes place))) (λ link there.
            let from = crossbar-input is own link there in
            ap (is_in (map (λ input. first_part nodes place + 2 * input) (numbers (input_count nodes place)))) from.from
            ∙ mapped-in (λ input. first_part nodes place + 2 * input) (numbers (input_count nodes place)) from.input (numbers-in (input_count nodes place) from.input from.within)),
      )

  as-target : node.part ≡ part.Mux → (node_at nodes place).kind ≡ kind.Crossbar → node.link ≡ link_kind_of nodes place → SoundAs part.Mux
  as-target is own link_is =
      let long : LowersSuit part.Mux node.lower = one-below part.Mux is in
      let clean = accepted-is_clean nodes run.accepted place within in
      sound-mux nodes run number node at (ap cuts_bursts is) place within (link_is ∙ handed nodes run place kind.Crossbar within own)
      (ap (bus_differs_at (node_at nodes place) (inputs_of nodes place)) (sym own) ∙ clean.widths_fit) (ap (protocol_differs_at (inputs_of nodes place)) (sym own) ∙ clean.protocols_fit) (out-there long) (crossbar-few is own)
      (λ link there.
      let from = crossbar-input is own link there in
      record {
        upper = slice_index_or (uppers_of nodes place) from.input 0;
        whole = from.whole;
        among = nth-in (uppers_of nodes place) from.input from.within;
        is = from.is ∙ nth-input nodes place from.input from.within;
      })

  as-manager : node.part ≡ part.Manager → (node_at nodes place).kind ≡ kind.Manager → node.link ≡ link_kind_of nodes place → SoundAs part.Manager
  as-manager is own link_is =
      let form : form_of_link nodes (link_out_of nodes number) ≡ plain_form (record { lite = false; bus = (node_at nodes place).bus; id_width = (node_at nodes place).id_width }) =
      below-form part.Manager (record { lite = false; bus = (node_at nodes place).bus; id_width = (node_at nodes place).id_width }) is (one-below part.Manager is)
      (link_is ∙ handed nodes run place kind.Manager within own) in
      record {
        axi = ap (λ (f : LinkForm). f.lite) form;
        bus = ap (λ (f : LinkForm). f.bus) form ∙ ap (λ (k : ℕ). (node_at nodes k).bus) (sym document_is);
        bursts = ap (λ (f : LinkForm). f.single) form;
        ids = All-map (λ (item : ScriptItem). item.txn.request.id < 2 ^ (form_of_link nodes (link_out_of nodes number)).id_width) script_item
            (items_of_manager (plan_node_at nodes number).document items)
            (of-manager (Suits nodes) (λ (item : TrafficItem). item.txn.request.id < 2 ^ (form_of_link nodes (link_out_of nodes number)).id_width) (plan_node_at nodes number).document items traffic.suit
            (λ item suits same.
            subst (λ (w : ℕ). item.txn.request.id < 2 ^ w)
            (ap (λ (n : DocumentNode). n.id_width) (manager-is nodes place item suits (same ∙ document_is)) ∙ sym (ap (λ (f : LinkForm). f.id_width) form)) suits.id));
      }

  as-memory : node.part ≡ part.Memory → (node_at nodes place).kind ≡ kind.Memory → KeepsOwnLines nodes items schedules number (memory_at nodes number items).area → SoundAs part.Memory
  as-memory is own lines =
      let clean = accepted-is_clean nodes run.accepted place within in
      let form : form_of_link nodes (link_into nodes number) ≡ plain_form (first_link (inputs_of nodes place)) = above-form (ap is_first is) (ap is_mux is) (ap is_behind is) (ap joins_links own) in
      record {
        full = ap (λ (f : LinkForm). f.lite) form ∙ first-full (inputs_of nodes place) (ap (protocol_differs_at (inputs_of nodes place)) (sym own) ∙ clean.protocols_fit);
        bus = ap (λ (f : LinkForm). f.bus) form
            ∙ sym (same-bus nodes run number node at (node_at nodes place).bus (first_link (inputs_of nodes place)).bus (ap (bus_differs_at (node_at nodes place) (inputs_of nodes place)) (sym own) ∙ clean.widths_fit))
            ∙ ap (λ (k : ℕ). (node_at nodes k).bus) (sym document_is);
        lines = lines;
      }

  as-lite_memory : node.part ≡ part.LiteMemory → (node_at nodes place).kind ≡ kind.LiteMemory → KeepsOwnLines nodes items schedules number (lite_memory_at nodes number items).area → SoundAs part.LiteMemory
  as-lite_memory is own lines =
      let clean = accepted-is_clean nodes run.accepted place within in
      let form : form_of_link nodes (link_into nodes number) ≡ plain_form (first_link (inputs_of nodes place)) = above-form (ap is_first is) (ap is_mux is) (ap is_behind is) (ap joins_links own) in
      let first : (first_link (inputs_of nodes place)).lite ≡ true = not-false (first_link (inputs_of nodes place)).lite (ap (protocol_differs_at (inputs_of nodes place)) (sym own) ∙ clean.protocols_fit) in
      record {
        lite = ap (λ (f : LinkForm). f.lite) form ∙ first;
        single = ap (λ (f : LinkForm). f.single) form ∙ ap (λ (b : Bool). b || false) first;
        bus = refl;
        lines = lines;
      }

  as-own : (k : Kind) → (node_at nodes place).kind ≡ k → is_unbuilt k ≡ false → (p : Part) → own_part k ≡ Some p → node.part ≡ p → node.link ≡ link_kind_of nodes place → KeepItsLines nodes items schedules number node.part → SoundAs p
  as-own kind.Manager own built p own_is is link_is lines = let same = Some-same part.Manager p own_is in subst SoundAs same (as-manager (is ∙ sym same) own link_is)
  as-own kind.Memory own built p own_is is link_is lines = let same = Some-same part.Memory p own_is in subst SoundAs same (as-memory (is ∙ sym same) own (lines.memory (is ∙ sym same)))
  as-own kind.Slice own built p own_is is link_is lines = let same = Some-same part.Slice p own_is in subst SoundAs same (as-slice (is ∙ sym same) own link_is)
  as-own kind.Mux own built p own_is is link_is lines = let same = Some-same part.Mux p own_is in subst SoundAs same (as-mux (is ∙ sym same) own link_is)
  as-own kind.LiteMemory own built p own_is is link_is lines = let same = Some-same part.LiteMemory p own_is in subst SoundAs same (as-lite_memory (is ∙ sym same) own (lines.lite_memory (is ∙ sym same)))
  as-own kind.Remap own built p own_is is link_is lines = let same = Some-same part.Remap p own_is in subst SoundAs same (as-remap (is ∙ sym same) own link_is)
  as-own kind.Up own built p own_is is link_is lines = let same = Some-same part.Up p own_is in subst SoundAs same (as-up (is ∙ sym same) own link_is)
  as-own other own built p own_is is link_is lines = absurd (None-Some p own_is)

  pub sound-by : number ≡ first_part nodes place + inner → Form nodes place inner node (node_at nodes place).kind → KeepItsLines nodes items schedules number node.part → SoundAs node.part
  unfolding numbers
  sound-by sum (Own p own first is) lines =
      subst SoundAs (sym (ap (λ (n : PlanNode). n.part) is))
      (as-own (node_at nodes place).kind refl (is-built nodes run place within) p own (ap (λ (n : PlanNode). n.part) is) (ap (λ (n : PlanNode). n.link) is) lines)
  sound-by sum (Split p split first is) lines =
      let lite = split-lite (node_at nodes place).kind p split (is-built nodes run place within) in
      subst SoundAs (sym (ap (λ (n : PlanNode). n.part) is)) (as-split (ap (λ (n : PlanNode). n.part) is) lite.0 (ap (λ (n : PlanNode). n.link) is))
  sound-by sum (Behind p split first is) lines =
      let lite = split-lite (node_at nodes place).kind p split (is-built nodes run place within) in
      let is_part : node.part ≡ part.Lite = ap (λ (n : PlanNode). n.part) is ∙ lite.1 in subst SoundAs (sym is_part) (as-lite is_part lite.0 (ap (λ (n : PlanNode). n.link) is))
  sound-by sum (Demux own first is) lines =
      let is_part : node.part ≡ part.Demux = ap (λ (n : PlanNode). n.part) is in
      subst SoundAs (sym is_part)
      (as-demux is_part
      (ap (λ (n : PlanNode). n.link) is ∙ handed nodes run place kind.Demux within own ∙ sym (above-first (ap is_first is_part) (ap is_mux is_part) (ap is_behind is_part) (ap joins_links own))))
  sound-by sum (DemuxError own first is) lines = subst SoundAs (sym (ap (λ (n : PlanNode). n.part) is)) tt
  sound-by sum (Input i own less first is) lines =
      let is_part : node.part ≡ part.Demux = ap (λ (n : PlanNode). n.part) is in
      let here : number ≡ first_part nodes place + 2 * i = sum ∙ ap (λ (n : ℕ). first_part nodes place + n) first in
      let from = above-comes (ap is_first is_part) (ap is_mux is_part) (ap is_behind is_part) in
      let above = own-input nodes place i (plan_link_at nodes (link_into nodes number)).upper (plan_link_at nodes (link_into nodes number)).link own
      (subst (λ (n : ℕ). Comes nodes place n (plan_link_at nodes (link_into nodes number)).upper (plan_link_at nodes (link_into nodes number)).link) here from) in
      subst SoundAs (sym is_part) (as-demux is_part (ap (λ (n : PlanNode). n.link) is ∙ sym above))
  sound-by sum (InputError i own less first is) lines = subst SoundAs (sym (ap (λ (n : PlanNode). n.part) is)) tt
  sound-by sum (Target j own less first is) lines =
      let is_part : node.part ≡ part.Mux = ap (λ (n : PlanNode). n.part) is in subst SoundAs (sym is_part) (as-target is_part own (ap (λ (n : PlanNode). n.link) is))
