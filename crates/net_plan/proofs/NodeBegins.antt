-- Each node of a plan's network begins as its kind does.
use Rattle.std.proofs.Common.{◌≡◌, ◌≢◌, ◌<◌, ◌≤◌, ◌+◌, ◌*◌, ◌%◌, ◌^◌, ◌++◌, ◌==◌, ◌||◌, ◌&&◌, ℕ, zero, suc, Bool, true, false, cond, not, List, [], ◌∷◌, length, map, take, Option, Some, None, refl, sym, ◌∙◌, ap, subst, arith}
use Rattle.std.specs.Prelude.{All, AllPairs, IfSome, filter, flat_map, fold, nat_lt, slice_get, slice_index_or, unwrap_or, if◌then◌else◌}
use Rattle.std.specs.List.{list_any}
use Rattle.std.proofs.lemmas.Bool.{eq-eqb, eqb-true, false≢true, leb-false, ltb-false, ltb-true, not-false, or_parts, true≢false}
use Rattle.std.proofs.lemmas.List.FromFn.{length-map-range_with_len}
use Rattle.std.proofs.lemmas.Option.{slice_get_within}
use Rattle.std.proofs.lemmas.List.{get_or-map, length-append, length-map}
use Rattle.std.proofs.lemmas.List.Elements.{All-cons, All-map, All-nil}
use Rattle.std.proofs.lemmas.List.Kept.{AllPairs-cons, AllPairs-filter}
use Rattle.axi_trail.specs.Schedule.{Schedule, no_share}
use Rattle.axi_beats.specs.Bus.{IsBusWidth}
use Rattle.elaborate.proofs.Forms.{Form, own_part}
use Rattle.elaborate.proofs.Forms.Form.{Behind, Demux, DemuxError, Input, InputError, Own, Split, Target}
use Rattle.elaborate.proofs.Lists.{None-Some, Some-same, nth-in}
use Rattle.elaborate.proofs.Sizes.{small}
use Rattle.elaborate.proofs.LinkForms.{is_behind}
use Rattle.elaborate.specs.Laws.{is_first, is_mux}
use Rattle.elaborate.specs.Path.{ported_regions}
use Rattle.elaborate.specs.Plan.{PlanNode, entrance, entrances, first_part, plan_link_at, plan_node_at, plan_nodes, targets}
use Rattle.elaborate.specs.Unbuilt.{is_unbuilt}
use Rattle.elaborate.specs.declared.part.Part.{Part}
use Rattle.elaborate.specs.declared.part.Part.TheVariants as part
use Rattle.address_map.specs.Regions.{is_bad_span}
use Rattle.address_map.specs.declared.region.Region.{Region}
use Rattle.burst_address.specs.Legal.{IsLegal}
use Rattle.manager_node.specs.Script.{CanPush, IsScript, ScriptItem}
use Rattle.memory_node.specs.MemoryArea.{IsMemoryArea, IsRangeOf}
use Rattle.net_kinds.specs.NodeKind.{node_kind}
use Rattle.net_opening.specs.Opening.{state_by_part}
use Rattle.net_opening.specs.PlanLinks.{link_into, links_into, links_out_of}
use Rattle.plan_traffic.specs.Scripts.{script_item, script_of}
use Rattle.net_opening.specs.States.{area_of_node, area_on, memory_range}
use Rattle.net_opening.specs.Touched.{among, is_write_to, lines_of_burst, lines_touched, upwards}
use Rattle.net_plan.proofs.LinkKinds.{nth-input}
use Rattle.net_plan.proofs.LinkLists.{at-some, made-from}
use Rattle.net_plan.proofs.LinkProtocols.{input-fits, lite-forms, names_bus, own-bus, width-of}
use Rattle.net_plan.proofs.NodeLinks.{into-is, out-long, some-into}
use Rattle.net_plan.proofs.NodeSound.{above-first, crossbar-few, crossbar-input, into-there, manager-is, mux-few, mux-input, of-manager}
use Rattle.net_plan.proofs.PartLemmas.{formed-at, is-built, split-lite}
use Rattle.net_plan.proofs.SoundParts.{IsInput, handed, some-in}
use Rattle.net_plan.proofs.WidthLemmas.{widest-most, widest-of}
use Rattle.net_plan.specs.PlanLaws.{CanRun}
use Rattle.node_graph.specs.Graph.{is_in, numbers}
use Rattle.node_graph.specs.Order.{place_in}
use Rattle.plan_traffic.proofs.ScriptLemmas.{can-push}
use Rattle.plan_traffic.specs.Accepted.{AreInOrder, IsTraffic, Suits, items_of_manager}
use Rattle.plan_traffic.specs.Traffic.{TrafficItem}
use Rattle.topology.proofs.AcceptedFacts.{accepted-is_clean}
use Rattle.topology.specs.Document.{DocumentNode, NamedRegion, first_link, input_digits, inputs_of, is_manager, is_memory, joins_links, link_kind_of, named, node_at, uppers_of, widest}
use Rattle.topology.specs.Fits.{bus_differs_at}
use Rattle.topology.specs.Refused.{is_bad_range}
use Rattle.topology.specs.declared.link.LinkKind.{LinkKind}
use Rattle.topology_text.specs.Form.{table_form}
use Rattle.topology_text.specs.Formed.{IsFormed, IsNumberAt}
use Rattle.topology_text.specs.Shape.{bus_limits, id_width_limits}
use Rattle.topology_text.specs.declared.kind.Kind.{Kind}
use Rattle.topology_text.specs.declared.kind.Kind.TheVariants as kind
use Rattle.topology_text.specs.declared.kind.Span.{Span}

-- nothing to carry
empty_schedule : Schedule
empty_schedule = record { id_width = 0; writes = λ number. no_share; reads = λ number. no_share }

-- ---- keys

remap-width : (width : ℕ) → IsNumberAt (table_form kind.Remap).id_width id_width_limits width → width ≤ 16
unfolding table_form
remap-width width within = within.1

memory-bus : (bus : ℕ) → IsNumberAt (table_form kind.Memory).bus bus_limits bus → 4 ≤ bus
unfolding table_form
memory-bus bus within = within.0

-- ---- lists

place-most : (xs : List ℕ) (x : ℕ) → place_in xs x ≤ length xs
place-most [] x = omega arith
place-most (y ∷ ys) x = go (y == x) (place_in ys x) (length ys) (place-most ys x)
  where
    go : (b : Bool) (n m : ℕ) → n ≤ m → cond (not b) (1 + n) 0 ≤ suc m
    go true n m le = omega arith
    go false n m le = omega (arith, le)

none-bad : {X : Type 0} (p : X → Bool) (P : X → Type 0) (xs : List X) → ((x : X) → p x ≡ false → P x) → list_any p xs ≡ false → All P xs
none-bad p P [] each e = All-nil P
none-bad p P (x ∷ xs) each e = let parts = or_parts (p x) (list_any p xs) e in All-cons P x xs (each x parts.0) (none-bad p P xs each parts.1)

-- numbers that rise, and of which none stands twice
all-below : (number : ℕ) (xs : List ℕ) (more : ℕ) → number < more → All (λ x. number < x) xs → All (λ x. number < x) (among xs more)
all-below number [] more less all = All-cons (λ x. number < x) more [] less (All-nil (λ x. number < x))
all-below number (least ∷ xs) more less all = go (all-below number xs more less (λ i d within. all (suc i) d (omega (arith, within)))) (more == least) (nat_lt more least)
  where
    head : number < least
    head = all 0 least (omega arith)

    go : All (λ x. number < x) (among xs more) → (a b : Bool) → All (λ x. number < x) (if a then least ∷ xs else if b then more ∷ least ∷ xs else least ∷ among xs more)
    go rest true b = all
    go rest false true = All-cons (λ x. number < x) more (least ∷ xs) less all
    go rest false false = All-cons (λ x. number < x) least (among xs more) head rest

among-rises : (xs : List ℕ) (more : ℕ) → AllPairs (λ (a b : ℕ). a < b) xs → AllPairs (λ (a b : ℕ). a < b) (among xs more)
among-rises [] more rises = AllPairs-cons (λ (a b : ℕ). a < b) more [] (All-nil (λ x. more < x)) rises
among-rises (least ∷ xs) more rises =
    go (among-rises xs more (λ i j d lt within. rises (suc i) (suc j) d (omega (arith, lt)) (omega (arith, within)))) (more == least) (nat_lt more least) refl refl
  where
    above : All (λ x. least < x) xs
    above = λ i d within. rises 0 (suc i) d (omega arith) (omega (arith, within))

    go : AllPairs (λ (a b : ℕ). a < b) (among xs more) → (a b : Bool) → (more == least) ≡ a → nat_lt more least ≡ b → AllPairs (λ (a b : ℕ). a < b) (if a then least ∷ xs else if b then more ∷ least ∷ xs else least ∷ among xs more)
    go rest true b same less = rises
    go rest false true same less =
        let lower : more < least = ltb-true more least less in
        AllPairs-cons (λ (a b : ℕ). a < b) more (least ∷ xs)
        (All-cons (λ x. more < x) least xs lower (λ i d within. omega (arith, lower, above i d within))) rises
    go rest false false same less =
        let higher : least < more = omega (arith, ltb-false more least less, differs) in
        AllPairs-cons (λ (a b : ℕ). a < b) least (among xs more) (all-below least xs more higher above) rest
      where
        differs : more ≢ least
        differs e = true≢false (sym (eq-eqb more least e) ∙ same)

folds-rise : (xs numbers : List ℕ) → AllPairs (λ (a b : ℕ). a < b) xs → AllPairs (λ (a b : ℕ). a < b) (fold among xs numbers)
folds-rise xs [] rises = rises
folds-rise xs (n ∷ numbers) rises = folds-rise (among xs n) numbers (among-rises xs n rises)

pub upwards-rises : (numbers : List ℕ) → AllPairs (λ (a b : ℕ). a < b) (upwards numbers)
upwards-rises numbers = folds-rise [] numbers (λ i j d lt within. absurd (omega (arith, lt, within)))

-- ---- scripts

-- an element that is kept, with its place before
record Kept {X : Type 0} (p : X → Bool) (xs : List X) (n : ℕ) (x : X) : Type 0 where
  place : ℕ
  at : slice_get xs place ≡ Some x
  passes : p x ≡ true
  before : filter p (take place xs) ≡ take n (filter p xs)

kept-at : {X : Type 0} (p : X → Bool) (xs : List X) (n : ℕ) (x : X) → slice_get (filter p xs) n ≡ Some x → Kept p xs n x
kept-at p [] n x e = absurd (None-Some x e)
kept-at {X = X} p (y ∷ ys) n x e = go (kept-at p ys) (p y) refl n e
  where
    go : ((n : ℕ) (x : X) → slice_get (filter p ys) n ≡ Some x → Kept p ys n x) → (b : Bool) → p y ≡ b → (n : ℕ) → slice_get (cond b (y ∷ filter p ys) (filter p ys)) n ≡ Some x → Kept p (y ∷ ys) n x
    go kept true is zero e = let same = Some-same y x e in record { place = 0; at = e; passes = ap p (sym same) ∙ is; before = refl }
    go kept true is (suc n) e =
        let more : Kept p ys n x = kept n x e in
        record {
          place = suc more.place;
          at = more.at;
          passes = more.passes;
          before = ap (λ b. cond b (y ∷ filter p (take more.place ys)) (filter p (take more.place ys))) is ∙ ap (λ zs. y ∷ zs) more.before
              ∙ sym (ap (λ b. take (suc n) (cond b (y ∷ filter p ys) (filter p ys))) is);
        }
    go kept false is n e =
        let more : Kept p ys n x = kept n x e in
        record {
          place = suc more.place;
          at = more.at;
          passes = more.passes;
          before = ap (λ b. cond b (y ∷ filter p (take more.place ys)) (filter p (take more.place ys))) is ∙ more.before
              ∙ sym (ap (λ b. take n (cond b (y ∷ filter p ys) (filter p ys))) is);
        }

take-made : {X Y : Type 0} (f : X → Y) (xs : List X) (n : ℕ) → map f (take n xs) ≡ take n (map f xs)
take-made f xs zero = refl
take-made f [] (suc n) = refl
take-made f (x ∷ xs) (suc n) = ap (λ ys. f x ∷ ys) (take-made f xs n)

pub is-script : (nodes : List DocumentNode) (items : List TrafficItem) → IsTraffic nodes items → (place : ℕ) → IsScript (script_of items place)
is-script nodes items traffic place n = go (slice_get (script_of items place) n) refl
  where
    go : (o : Option ScriptItem) → slice_get (script_of items place) n ≡ o → IfSome o (λ item. CanPush (take n (script_of items place)) item.txn item.bytes)
    go None e = tt
    go (Some s) e =
        let found = made-from script_item (items_of_manager place items) n s e in
        let kept : Kept (λ (item : TrafficItem). item.manager == place) items n found.0 = kept-at (λ (item : TrafficItem). item.manager == place) items n found.0 found.1 in
        let push : CanPush (script_of (take kept.place items) place) found.0.txn found.0.bytes =
        can-push items kept.place place found.0 (nodes, traffic) (slice_get_within items kept.place found.0 kept.at) (at-some items kept.place found.0 found.0 kept.at)
        (eqb-true found.0.manager place kept.passes) in
        subst (λ (script : List ScriptItem). CanPush script s.txn s.bytes) (ap (map script_item) kept.before ∙ take-made script_item (items_of_manager place items) n)
        (subst (λ (i : ScriptItem). CanPush (script_of (take kept.place items) place) i.txn i.bytes) (sym found.2) push)

pub number-at : (before items : List TrafficItem) → AreInOrder before items → (i : ℕ) (d : TrafficItem) → i < length items → (slice_index_or items i d).txn.number ≡ length before + i + 1
number-at before [] order i d less = absurd (omega (arith, less))
number-at before (item ∷ more) order zero d less = omega (arith, order.0.number)
number-at before (item ∷ more) order (suc i) d less =
    omega (arith, number-at (before ++ item ∷ []) more order.1 i d (omega (arith, less)), length-append before (item ∷ []))

pub numbers-rise : (nodes : List DocumentNode) (items : List TrafficItem) → IsTraffic nodes items → AllPairs (λ (a b : TrafficItem). a.txn.number < b.txn.number) items
numbers-rise nodes items traffic = λ i j d lt within.
    omega (arith, lt, within, number-at [] items traffic.in_order i d (omega (arith, lt, within)), number-at [] items traffic.in_order j d within)

pub script-rises : (nodes : List DocumentNode) (items : List TrafficItem) → IsTraffic nodes items → (place : ℕ) → AllPairs (λ (a b : ScriptItem). a.txn.number < b.txn.number) (script_of items place)
script-rises nodes items traffic place = λ i j d lt within.
    let own = items_of_manager place items in
    let item : TrafficItem = record { manager = 0; txn = d.txn; bytes = d.bytes } in
    let long : length (script_of items place) ≡ length (items_of_manager place items) = length-map (items_of_manager place items) script_item in
    let kept = AllPairs-filter (λ (a b : TrafficItem). a.txn.number < b.txn.number) (λ (item : TrafficItem). item.manager == place) items (numbers-rise nodes items traffic) in
    let less : (slice_index_or (items_of_manager place items) i item).txn.number < (slice_index_or (items_of_manager place items) j item).txn.number = kept i j item lt (omega (arith, within, long)) in
    omega (
      arith,
      less,
      ap (λ (s : ScriptItem). s.txn.number) (get_or-map script_item (items_of_manager place items) i item d (omega (arith, lt, within, long))),
      ap (λ (s : ScriptItem). s.txn.number) (get_or-map script_item (items_of_manager place items) j item d (omega (arith, within, long))),
    )

-- ---- nodes

good-span : (base size : ℕ) → is_bad_span base size ≡ false → (base % 4096 ≡ 0) × (size % 4096 ≡ 0) × (base + size ≤ 2 ^ 63)
good-span base size e =
    let one = or_parts (size == 0 || not (base % 4096 == 0) || not (size % 4096 == 0)) (nat_lt (2 ^ 63) (base + size)) e in
    let two = or_parts (size == 0 || not (base % 4096 == 0)) (not (size % 4096 == 0)) one.0 in
    let three = or_parts (size == 0) (not (base % 4096 == 0)) two.0 in (
      eqb-true (base % 4096) 0 (not-false (base % 4096 == 0) three.1),
      eqb-true (size % 4096) 0 (not-false (size % 4096 == 0) two.1),
      ltb-false (2 ^ 63) (base + size) one.1,
    )

good-range : (bus : ℕ) (node : DocumentNode) (range : Span) → is_bad_range node.base node.size range ≡ false → IsRangeOf (area_on bus node) (memory_range range)
good-range bus node range e =
    let one = or_parts (range.size == 0 || not (range.base % 128 == 0) || not (range.size % 128 == 0) || nat_lt range.base node.base) (nat_lt (node.base + node.size) (range.base + range.size)) e in
    let two = or_parts (range.size == 0 || not (range.base % 128 == 0) || not (range.size % 128 == 0)) (nat_lt range.base node.base) one.0 in
    let three = or_parts (range.size == 0 || not (range.base % 128 == 0)) (not (range.size % 128 == 0)) two.0 in
    let four = or_parts (range.size == 0) (not (range.base % 128 == 0)) three.0 in
    record {
      base = eqb-true (range.base % 128) 0 (not-false (range.base % 128 == 0) four.1);
      size = eqb-true (range.size % 128) 0 (not-false (range.size % 128 == 0) three.1);
      from = ltb-false range.base node.base two.1;
      to = ltb-false (node.base + node.size) (range.base + range.size) one.1;
    }

and-right : (a b : Bool) → a ≡ true → (a && b) ≡ false → b ≡ false
and-right true b e f = f
and-right false b e f = absurd (false≢true e)

module _ (nodes : List DocumentNode) (items : List TrafficItem) (run : CanRun nodes) (traffic : IsTraffic nodes items) (number place inner : ℕ) (node : PlanNode)
    (at : slice_get (plan_nodes nodes) number ≡ Some node) (document : node.document ≡ place) (node_is : plan_node_at nodes number ≡ node) (within : place < length nodes) where
  abbrev pub BeginsAs : Part → Type 0
  BeginsAs p = node_kind.begins (state_by_part nodes items number p)

  document_is : (plan_node_at nodes number).document ≡ place
  document_is = ap (λ (n : PlanNode). n.document) node_is ∙ document

  area : (bus : ℕ) → IsBusWidth bus → is_memory (node_at nodes place).kind ≡ true → IsMemoryArea (area_on bus (node_at nodes place))
  area bus width own =
      let bad = (accepted-is_clean nodes run.accepted place within).regions_are_good in
      let node : DocumentNode = node_at nodes place in
      let bad_regions = list_any (λ (region : NamedRegion). is_bad_span region.base region.size) (node_at nodes place).region in
      let bad_area = is_memory (node_at nodes place).kind && is_bad_span (node_at nodes place).base (node_at nodes place).size in
      let bad_read_only = list_any (is_bad_range (node_at nodes place).base (node_at nodes place).size) (node_at nodes place).read_only in
      let bad_hole = list_any (is_bad_range (node_at nodes place).base (node_at nodes place).size) (node_at nodes place).hole in
      let holes = or_parts (bad_regions || bad_area || bad_read_only) bad_hole bad in
      let kept = or_parts (bad_regions || bad_area) bad_read_only holes.0 in
      let two = or_parts bad_regions bad_area kept.0 in
      let span = good-span (node_at nodes place).base (node_at nodes place).size
      (and-right (is_memory (node_at nodes place).kind) (is_bad_span (node_at nodes place).base (node_at nodes place).size) own two.1) in
      record {
        bus = width;
        base = span.0;
        size = span.1;
        end = span.2;
        read_only = All-map (IsRangeOf (area_on bus (node_at nodes place))) memory_range (node_at nodes place).read_only
            (none-bad (is_bad_range (node_at nodes place).base (node_at nodes place).size) (λ (r : Span). IsRangeOf (area_on bus (node_at nodes place)) (memory_range r)) (node_at nodes place).read_only
            (good-range bus (node_at nodes place)) kept.1);
        hole = All-map (IsRangeOf (area_on bus (node_at nodes place))) memory_range (node_at nodes place).hole
            (none-bad (is_bad_range (node_at nodes place).base (node_at nodes place).size) (λ (r : Span). IsRangeOf (area_on bus (node_at nodes place)) (memory_range r)) (node_at nodes place).hole
            (good-range bus (node_at nodes place)) holes.1);
      }

  -- the bus of a memory of AXI4
  memory-width : (node_at nodes place).kind ≡ kind.Memory → IsBusWidth (node_at nodes place).bus
  memory-width own =
      let formed : IsFormed (node_at nodes place) = formed-at nodes run place within in
      width-of (node_at nodes place).bus (memory-bus (node_at nodes place).bus (subst (λ (k : Kind). IsNumberAt (table_form k).bus bus_limits (node_at nodes place).bus) own formed.bus)) formed.bus_is_width

  as-memory : (node_at nodes place).kind ≡ kind.Memory → BeginsAs part.Memory
  as-memory own = record {
    area = subst (λ (k : ℕ). IsMemoryArea (area_of_node (node_at nodes k))) (sym document_is) (area (node_at nodes place).bus (memory-width own) (ap is_memory own));
    accept = (node_at nodes (plan_node_at nodes number).document).accept;
    give = (node_at nodes (plan_node_at nodes number).document).give;
    touched = lines_touched nodes items number;
    ascending = upwards-rises (flat_map (λ (item : TrafficItem). lines_of_burst item.txn.request) (filter (is_write_to nodes items number) items));
    is_new = refl;
  }

  -- the bus of the link above a part that has one
  bus-above : is_first node.part ≡ false → is_mux node.part ≡ false → IsBusWidth (plan_link_at nodes (link_into nodes number)).link.bus
  bus-above first mux =
      (lite-forms nodes run (link_into nodes number) (into-is nodes number (link_into nodes number)
      (into-there nodes items run traffic (λ link. empty_schedule) number place inner node at document node_is within first mux)).0).width

  as-lite_memory : node.part ≡ part.LiteMemory → (node_at nodes place).kind ≡ kind.LiteMemory → BeginsAs part.LiteMemory
  as-lite_memory is own =
      record {
        area = subst (λ (k : ℕ). IsMemoryArea (area_on (plan_link_at nodes (link_into nodes number)).link.bus (node_at nodes k))) (sym document_is)
            (area (plan_link_at nodes (link_into nodes number)).link.bus (bus-above (ap is_first is) (ap is_mux is)) (ap is_memory own));
        accept = (node_at nodes (plan_node_at nodes number).document).accept;
        give = (node_at nodes (plan_node_at nodes number).document).give;
        touched = lines_touched nodes items number;
        ascending = upwards-rises (flat_map (λ (item : TrafficItem). lines_of_burst item.txn.request) (filter (is_write_to nodes items number) items));
        is_new = refl;
      }

  as-lite : node.part ≡ part.Lite → BeginsAs part.Lite
  as-lite is = record { bus = bus-above (ap is_first is) (ap is_mux is); new = refl }

  as-manager : (node_at nodes place).kind ≡ kind.Manager → BeginsAs part.Manager
  as-manager own =
      record {
        new = refl;
        is_script = is-script nodes items traffic (plan_node_at nodes number).document;
        bus_width = subst (λ (k : ℕ). IsBusWidth (node_at nodes k).bus) (sym document_is) (own-bus nodes run place within (ap names_bus own));
        legal = All-map (λ (item : ScriptItem). IsLegal item.txn.request (node_at nodes (plan_node_at nodes number).document).bus) script_item (items_of_manager (plan_node_at nodes number).document items)
            (of-manager (Suits nodes) (λ (item : TrafficItem). IsLegal item.txn.request (node_at nodes (plan_node_at nodes number).document).bus) (plan_node_at nodes number).document items traffic.suit
            (λ item suits same.
            subst (λ (n : DocumentNode). IsLegal item.txn.request n.bus) (manager-is nodes (plan_node_at nodes number).document item suits same) suits.legal));
        numbered = script-rises nodes items traffic (plan_node_at nodes number).document;
      }

  as-mux : is_first node.part ≡ false → joins_links (node_at nodes place).kind ≡ true → (link_kind_of nodes place).id_width ≡ widest (inputs_of nodes place) + input_digits (length (inputs_of nodes place)) →
      length (links_into nodes number) ≤ length (uppers_of nodes place) → ((link : ℕ) → is_in (links_into nodes number) link ≡ true → IsInput nodes run number node at place link) → BeginsAs part.Mux
  as-mux other joint merged few inputs =
      let one = some-into nodes run.accepted number node at other in
      let clean = accepted-is_clean nodes run.accepted place within in
      let ids : (link_kind_of nodes place).id_width ≤ 16 = ltb-false 16 (link_kind_of nodes place).id_width (and-right (joins_links (node_at nodes place).kind) (nat_lt 16 (link_kind_of nodes place).id_width) joint clean.ids_fit) in
      let narrow : widest (map (λ link. (plan_link_at nodes link).link) (links_into nodes number)) ≤ widest (inputs_of nodes place) =
      widest-most (λ link. (plan_link_at nodes link).link) (links_into nodes number) (widest (inputs_of nodes place))
      (λ link there.
      let input : IsInput nodes run number node at place link = inputs link there in
      omega (arith, ap (λ (l : LinkKind). l.id_width) input.is, widest-of (link_kind_of nodes) (uppers_of nodes place) input.upper input.among)) in
      record {
        shape = record {
          some = some-in nodes run number node at (links_into nodes number) one.0 one.1;
          most = omega (arith, few, (small nodes run.accepted place within).inputs);
          narrow = omega (arith, narrow, ids, merged);
        };
        new = refl;
      }

  as-demux : length node.lower ≡ suc (length (targets nodes place)) → BeginsAs part.Demux
  as-demux long =
      let lowers : length (links_out_of nodes number) ≡ suc (length (targets nodes place)) = out-long nodes run.accepted number node at ∙ long in
      record {
        shape = record {
          some = omega (arith, lowers);
          most = omega (arith, lowers, (small nodes run.accepted place within).targets);
          regions = subst (λ (k : ℕ). All (λ (region : Region). region.port < length (links_out_of nodes number)) (ported_regions nodes (node_at nodes k))) (sym document_is)
              (All-map (λ (region : Region). region.port < length (links_out_of nodes number)) _ (node_at nodes place).region
              (λ i d less. omega (arith, lowers, place-most (targets nodes place) (unwrap_or (named nodes (slice_index_or (node_at nodes place).region i d).to) 0))));
        };
        new = refl;
      }

  as-remap : (node_at nodes place).kind ≡ kind.Remap → BeginsAs part.Remap
  as-remap own = record {
    narrow = subst (λ (k : ℕ). (node_at nodes k).id_width ≤ 16) (sym document_is)
        (remap-width (node_at nodes place).id_width (subst (λ (k : Kind). IsNumberAt (table_form k).id_width id_width_limits (node_at nodes place).id_width) own (formed-at nodes run place within).id_width));
    new = refl;
  }

  as-up : node.part ≡ part.Up → (node_at nodes place).kind ≡ kind.Up → BeginsAs part.Up
  as-up is own =
      let above : (plan_link_at nodes (link_into nodes number)).link ≡ first_link (inputs_of nodes place) =
      above-first nodes items run traffic (λ link. empty_schedule) number place inner node at document node_is within (ap is_first is) (ap is_mux is) (ap is_behind is) (ap joins_links own) in
      let wider : (first_link (inputs_of nodes place)).bus < (node_at nodes place).bus =
      leb-false (node_at nodes place).bus (first_link (inputs_of nodes place)).bus
      (ap (bus_differs_at (node_at nodes place) (inputs_of nodes place)) (sym own) ∙ (accepted-is_clean nodes run.accepted place within).widths_fit) in
      record {
        shape = record {
          narrow = subst (λ (link : LinkKind). IsBusWidth link.bus) (sym above) (input-fits nodes run place within (ap is_manager own)).width;
          wide = subst (λ (k : ℕ). IsBusWidth (node_at nodes k).bus) (sym document_is) (own-bus nodes run place within (ap names_bus own));
          wider = omega (arith, wider, ap (λ (link : LinkKind). link.bus) above, ap (λ (k : ℕ). (node_at nodes k).bus) document_is);
        };
        new = refl;
      }

  as-own : (k : Kind) → (node_at nodes place).kind ≡ k → is_unbuilt k ≡ false → (p : Part) → own_part k ≡ Some p → node.part ≡ p → BeginsAs p
  as-own kind.Manager own built p own_is is = let same = Some-same part.Manager p own_is in subst BeginsAs same (as-manager own)
  as-own kind.Memory own built p own_is is = let same = Some-same part.Memory p own_is in subst BeginsAs same (as-memory own)
  as-own kind.Slice own built p own_is is = let same = Some-same part.Slice p own_is in subst BeginsAs same refl
  as-own kind.Mux own built p own_is is =
      let same = Some-same part.Mux p own_is in
      let is_part : node.part ≡ part.Mux = is ∙ sym same in
      subst BeginsAs same
      (as-mux (ap is_first is_part) (ap joins_links own) (ap (λ (l : LinkKind). l.id_width) (handed nodes run place kind.Mux within own))
      (mux-few nodes items run traffic (λ link. empty_schedule) number place inner node at document node_is within is_part own)
      (λ link there.
      let from = mux-input nodes items run traffic (λ link. empty_schedule) number place inner node at document node_is within is_part own link there in
      record { upper = from.from; whole = from.whole; among = from.among; is = from.is }))
  as-own kind.LiteMemory own built p own_is is = let same = Some-same part.LiteMemory p own_is in subst BeginsAs same (as-lite_memory (is ∙ sym same) own)
  as-own kind.Remap own built p own_is is = let same = Some-same part.Remap p own_is in subst BeginsAs same (as-remap own)
  as-own kind.Up own built p own_is is = let same = Some-same part.Up p own_is in subst BeginsAs same (as-up (is ∙ sym same) own)
  as-own other own built p own_is is = absurd (None-Some p own_is)

  pub begins-by : Form nodes place inner node (node_at nodes place).kind → BeginsAs node.part
  unfolding numbers
  begins-by (Own p own first is) =
      subst BeginsAs (sym (ap (λ (n : PlanNode). n.part) is)) (as-own (node_at nodes place).kind refl (is-built nodes run place within) p own (ap (λ (n : PlanNode). n.part) is))
  begins-by (Split p split first is) = subst BeginsAs (sym (ap (λ (n : PlanNode). n.part) is)) refl
  begins-by (Behind p split first is) =
      let is_part : node.part ≡ part.Lite = ap (λ (n : PlanNode). n.part) is ∙ (split-lite (node_at nodes place).kind p split (is-built nodes run place within)).1 in
      subst BeginsAs (sym is_part) (as-lite is_part)
  begins-by (Demux own first is) =
      subst BeginsAs (sym (ap (λ (n : PlanNode). n.part) is))
      (as-demux
      (omega (arith, ap (λ (n : PlanNode). length n.lower) is, length-append (entrances nodes place) ((first_part nodes place + 1) ∷ []), length-map (targets nodes place) (entrance nodes place))))
  begins-by (DemuxError own first is) = subst BeginsAs (sym (ap (λ (n : PlanNode). n.part) is)) refl
  begins-by (Input i own less first is) =
      subst BeginsAs (sym (ap (λ (n : PlanNode). n.part) is))
      (as-demux
      (omega (
        arith,
        ap (λ (n : PlanNode). length n.lower) is,
        length-append (map (λ j. first_part nodes place + 2 * length (uppers_of nodes place) + j) (numbers (length (targets nodes place)))) ((first_part nodes place + 2 * i + 1) ∷ []),
        length-map-range_with_len (λ j. first_part nodes place + 2 * length (uppers_of nodes place) + j) 0 (length (targets nodes place)),
      )))
  begins-by (InputError i own less first is) = subst BeginsAs (sym (ap (λ (n : PlanNode). n.part) is)) refl
  begins-by (Target j own less first is) =
      let is_part : node.part ≡ part.Mux = ap (λ (n : PlanNode). n.part) is in
      subst BeginsAs (sym is_part)
      (as-mux (ap is_first is_part) (ap joins_links own) (ap (λ (l : LinkKind). l.id_width) (handed nodes run place kind.Crossbar within own))
      (crossbar-few nodes items run traffic (λ link. empty_schedule) number place inner node at document node_is within is_part own)
      (λ link there.
      let from = crossbar-input nodes items run traffic (λ link. empty_schedule) number place inner node at document node_is within is_part own link there in
      record {
        upper = slice_index_or (uppers_of nodes place) from.input 0;
        whole = from.whole;
        among = nth-in (uppers_of nodes place) from.input from.within;
        is = from.is ∙ nth-input nodes place from.input from.within;
      }))
