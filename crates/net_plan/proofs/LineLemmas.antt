-- A memory of a plan's network keeps the lines of the writes that come to it.
use Rattle.std.proofs.Common.{◌≡◌, ◌<◌, ◌≤◌, ◌+◌, ◌-◌, ◌/◌, ◌*◌, ◌==◌, ◌&&◌, ℕ, zero, suc, Bool, true, false, cond, List, [], ◌∷◌, length, Option, Some, None, refl, sym, ◌∙◌, ap, subst, inl, inr, arith}
use Rattle.std.specs.Prelude.{◌⊎◌, All, filter, find, flat_map, fold, nat_lt, slice_get, slice_index_or, unwrap_or, if◌then◌else◌}
use Rattle.std.specs.Bool.{beq}
use Rattle.std.specs.Option.{option_and_then}
use Rattle.std.proofs.lemmas.Bool.{and_parts, eq-eqb, eqb-true, false≢true}
use Rattle.std.proofs.lemmas.Option.{slice_get_within}
use Rattle.std.proofs.lemmas.List.Elements.{All-nil}
use Rattle.axi_beats.specs.Bus.{IsBusWidth}
use Rattle.axi_beats.specs.declared.beat.Addr.{Addr}
use Rattle.axi_trail.specs.LinkContracts.{without_id}
use Rattle.axi_trail.specs.Schedule.{Share, no_share}
use Rattle.burst_address.specs.Formulas.{beat_at}
use Rattle.elaborate.proofs.Forms.{Part_at, part-at}
use Rattle.elaborate.proofs.Lists.{None-Some, Some-same}
use Rattle.elaborate.proofs.PathFacts.{onward, last-later}
use Rattle.elaborate.proofs.PlanFacts.{form-document}
use Rattle.elaborate.specs.Laws.{is_first, is_mux}
use Rattle.elaborate.specs.Path.{path_from, port_by_part, target_of}
use Rattle.elaborate.specs.Plan.{first_part, plan_link_at, plan_links, plan_node_at, plan_nodes}
use Rattle.elaborate.specs.declared.part.Part.{Part}
use Rattle.elaborate.specs.declared.part.Part.TheVariants as part
use Rattle.manager_node.specs.Beats.{item_request}
use Rattle.memory_node.specs.MemoryArea.{MemoryArea}
use Rattle.memory_node.specs.MemoryState.{AreLinesAmong}
use Rattle.memory_node.specs.Store.{line_number}
use Rattle.net_kinds.specs.NodeKind.{node_kind}
use Rattle.net_opening.specs.Opening.{opening, state_by_part}
use Rattle.net_opening.specs.PlanLinks.{form_of_link, link_into, link_out_of, links_into}
use Rattle.plan_traffic.specs.Scripts.{script_item}
use Rattle.net_opening.specs.States.{lite_memory_at, memory_at}
use Rattle.net_opening.specs.Touched.{among, is_write_to, lines_of_burst, lines_touched}
use Rattle.net_plan.proofs.BurstParts.{AreOfBurst, IsOfBurst, of-itself, word-line}
use Rattle.net_plan.proofs.LinkLists.{at-some, contains-in}
use Rattle.net_plan.proofs.NodeBegins.{begins-by}
use Rattle.net_plan.proofs.NodeLinks.{into-is, one-into}
use Rattle.net_plan.proofs.NodeSound.{KeepItsLines}
use Rattle.net_plan.proofs.OnceLemmas.{Started, manager-first, started}
use Rattle.net_plan.proofs.OpeningWired.{node-at}
use Rattle.net_plan.proofs.PartLemmas.{LowersSuit, lowers-suit}
use Rattle.net_plan.proofs.PathStarts.{path-starts, start-deep, start-known, start-rest}
use Rattle.net_plan.proofs.WayEnds.{depth_at, ends-from, last_of, onward-is, some-path}
use Rattle.net_plan.specs.PlanLaws.{CanRun}
use Rattle.net_ways.specs.Ways.{is_origin, origins_in, schedules_of, share_on, way_of}
use Rattle.node_graph.proofs.Levels.{in-back, in-front}
use Rattle.node_graph.proofs.Members.{in-cases, in-first, in-rest}
use Rattle.node_graph.specs.Graph.{is_in}
use Rattle.node_shape.specs.Way.{Origin}
use Rattle.plain_lists.proofs.PlaceLemmas.{contains-at, find-has}
use Rattle.plan_traffic.specs.Accepted.{IsTraffic, Suits}
use Rattle.plan_traffic.specs.Traffic.{TrafficItem}
use Rattle.topology.specs.Document.{DocumentNode, node_at}

-- ---- lines

among-has : (xs : List ℕ) (number y : ℕ) → (number ≡ y) ⊎ (is_in xs y ≡ true) → is_in (among xs number) y ≡ true
among-has [] number y (inl same) = in-first number [] y same
among-has [] number y (inr there) = absurd (false≢true there)
among-has (least ∷ xs) number y has = go (among-has xs number y) (number == least) (nat_lt number least) refl has
  where
    go : ((number ≡ y) ⊎ (is_in xs y ≡ true) → is_in (among xs number) y ≡ true) → (a b : Bool) → (number == least) ≡ a → (number ≡ y) ⊎ (is_in (least ∷ xs) y ≡ true) →
        is_in (if a then least ∷ xs else if b then number ∷ least ∷ xs else least ∷ among xs number) y ≡ true
    go more true b is (inl same) = in-first least xs y (sym (eqb-true number least is) ∙ same)
    go more true b is (inr there) = there
    go more false true is (inl same) = in-first number (least ∷ xs) y same
    go more false true is (inr there) = in-rest number (least ∷ xs) y there
    go more false false is (inl same) = in-rest least (among xs number) y (more (inl same))
    go more false false is (inr there) = elim (in-cases least xs y there) [ inl here ↦ in-first least (among xs number) y here | inr further ↦ in-rest least (among xs number) y (more (inr further)) ]

folded-has : (xs list : List ℕ) (y : ℕ) → (is_in xs y ≡ true) ⊎ (is_in list y ≡ true) → is_in (fold among xs list) y ≡ true
folded-has xs [] y (inl there) = there
folded-has xs [] y (inr there) = absurd (false≢true there)
folded-has xs (n ∷ list) y (inl there) = folded-has (among xs n) list y (inl (among-has xs n y (inr there)))
folded-has xs (n ∷ list) y (inr there) =
    elim (in-cases n list y there) [
      | inl here ↦ folded-has (among xs n) list y (inl (among-has xs n y (inl here)))
      | inr further ↦ folded-has (among xs n) list y (inr further)
    ]

-- the numbers of an element that passes are among those of all that pass
passing-has : (f : TrafficItem → List ℕ) (p : TrafficItem → Bool) (xs : List TrafficItem) (i : ℕ) (x : TrafficItem) (y : ℕ) → slice_get xs i ≡ Some x → p x ≡ true → is_in (f x) y ≡ true → is_in (flat_map f (filter p xs)) y ≡ true
passing-has f p [] i x y at passes there = absurd (None-Some x at)
passing-has f p (z ∷ zs) zero x y at passes there = go (p z) (ap p (Some-same z x at) ∙ passes)
  where
    go : (b : Bool) → b ≡ true → is_in (flat_map f (cond b (z ∷ filter p zs) (filter p zs))) y ≡ true
    go true e = in-front (f z) (flat_map f (filter p zs)) y (ap (λ (w : TrafficItem). is_in (f w) y) (Some-same z x at) ∙ there)
    go false e = absurd (false≢true e)
passing-has f p (z ∷ zs) (suc i) x y at passes there = go (passing-has f p zs i x y at passes there) (p z)
  where
    go : is_in (flat_map f (filter p zs)) y ≡ true → (b : Bool) → is_in (flat_map f (cond b (z ∷ filter p zs) (filter p zs))) y ≡ true
    go more true = in-back (f z) (flat_map f (filter p zs)) y more
    go more false = more

-- ---- the target of a transaction

is-manager : (p : Part) → is_first p ≡ true → p ≡ part.Manager
is-manager part.Manager e = refl
is-manager other e = absurd (false≢true e)

nothing-there : (xs : List ℕ) (place : ℕ) → length xs ≡ 0 → slice_get xs place ≡ None
nothing-there [] place e = refl
nothing-there (x ∷ xs) place e = absurd (omega (arith, e))

is-write : (b : Bool) → beq b true ≡ true → b ≡ true
is-write true e = refl
is-write false e = absurd (false≢true e)

-- What comes by a link below which the path of a transaction ends are parts of its request, and its target stands there.
module _ (nodes : List DocumentNode) (items : List TrafficItem) (run : CanRun nodes) (traffic : IsTraffic nodes items) (origin : Origin) (from : Started nodes items origin) where
  -- the request as the links carry it
  abbrev pub started_request : Addr
  started_request = without_id (item_request (script_item from.item))

  starts-whole : AreOfBurst started_request origin.share.parts
  starts-whole =
      let suits : Suits nodes from.item =
      subst (Suits nodes) (at-some items from.place from.item from.item from.at) (traffic.suit from.place from.item (slice_get_within items from.place from.item from.at)) in
      subst (λ (o : Origin). AreOfBurst started_request o.share.parts) (sym from.is) (of-itself started_request suits.legal_on_widest)

  pub comes-to : (to : ℕ) (found : Share) → share_on to (way_of node_kind (opening nodes items) origin) ≡ Some found → onward nodes from.item.txn.request.addr (plan_link_at nodes to).lower ≡ None →
      (target_of nodes from.item.manager from.item.txn.request.addr ≡ (plan_link_at nodes to).lower) × AreOfBurst started_request found.parts
  comes-to to found there stops =
      let manager = is-manager (plan_node_at nodes from.number).part from.first in
      let link_is : origin.link ≡ link_out_of nodes from.number = ap (λ (o : Origin). o.link) from.is in
      let end = ends-from nodes items run origin.write (suc (length (opening nodes items).nodes)) to (without_id (item_request (script_item from.item)))
      origin.link (length (plan_nodes nodes) - 1) origin.share found
      (subst (λ (k : ℕ). k < length (plan_links nodes)) (sym link_is) (start-known nodes items run from.number from.less manager))
      starts-whole there stops
      (subst (λ (k : ℕ). length (plan_nodes nodes) ≤ depth_at nodes items run (plan_link_at nodes k).lower + (length (plan_nodes nodes) - 1)) (sym link_is)
      (start-deep nodes items run from.number from.less manager)) in
      let first : first_part nodes from.item.manager ≡ from.number = sym (manager-first nodes items run from.number from.less from.first ∙ ap (first_part nodes) (sym from.manager)) in (
        ap last_of (path-starts nodes items run from.number from.less manager from.item.manager from.item.txn.request.addr first)
            ∙ last-later from.number (path_from nodes (plan_nodes nodes) from.item.txn.request.addr (length (plan_nodes nodes) - 1) (plan_link_at nodes (link_out_of nodes from.number)).lower)
            (some-path nodes from.item.txn.request.addr (length (plan_nodes nodes) - 1) (plan_link_at nodes (link_out_of nodes from.number)).lower
            (start-rest nodes items run from.number from.less manager))
            ∙ ap (λ (k : ℕ). last_of (path_from nodes (plan_nodes nodes) from.item.txn.request.addr (length (plan_nodes nodes) - 1) (plan_link_at nodes k).lower)) (sym link_is)
            ∙ end.0,
        end.1,
      )

-- a node that answers, on a bus that there is
module _ (nodes : List DocumentNode) (items : List TrafficItem) (run : CanRun nodes) (traffic : IsTraffic nodes items) (number : ℕ) (less : number < length (plan_nodes nodes))
    (area : MemoryArea) (bus : IsBusWidth area.bus) (outer : is_first (plan_node_at nodes number).part ≡ false) (single : is_mux (plan_node_at nodes number).part ≡ false)
    (last : length (plan_node_at nodes number).lower ≡ 0) where
  at : slice_get (plan_nodes nodes) number ≡ Some (plan_node_at nodes number)
  at = node-at nodes items number less

  into : is_in (links_into nodes number) (link_into nodes number) ≡ true
  into =
      ap (λ xs. is_in xs (link_into nodes number)) (sym (one-into nodes run.accepted number (plan_node_at nodes number) at outer single))
      ∙ in-first (link_into nodes number) [] (link_into nodes number) refl

  ends : (address : ℕ) → onward nodes address (plan_link_at nodes (link_into nodes number)).lower ≡ None
  ends address =
      ap (onward nodes address) (into-is nodes number (link_into nodes number) into).1
      ∙ onward-is nodes items run address number (plan_node_at nodes number) at
      ∙ nothing-there (plan_node_at nodes number).lower (port_by_part nodes address (plan_node_at nodes number).document (plan_node_at nodes number).part) last

  -- what comes here of a transaction are parts of its request, and this is its target
  comes-here : (origin : Origin) (from : Started nodes items origin) (found : Share) → share_on (link_into nodes number) (way_of node_kind (opening nodes items) origin) ≡ Some found →
      (target_of nodes from.item.manager from.item.txn.request.addr ≡ number) × AreOfBurst (started_request nodes items run traffic origin from) found.parts
  comes-here origin from found there =
      let come = comes-to nodes items run traffic origin from (link_into nodes number) found there (ends from.item.txn.request.addr) in
      (come.0 ∙ (into-is nodes number (link_into nodes number) into).1, come.1)

  abbrev IsKept : Addr → Type 0
  IsKept = AreLinesAmong area (lines_touched nodes items number)

  -- the lines of a write to this node are kept
  burst-kept : (item : TrafficItem) (place : ℕ) → slice_get items place ≡ Some item → item.txn.write ≡ true → target_of nodes item.manager item.txn.request.addr ≡ number →
      (line : ℕ) → is_in (lines_of_burst item.txn.request) line ≡ true → is_in (lines_touched nodes items number) line ≡ true
  burst-kept item place there write target line burst =
      let to_here : (item.txn.write && target_of nodes item.manager item.txn.request.addr == number) ≡ true =
      ap (λ (b : Bool). b && target_of nodes item.manager item.txn.request.addr == number) write ∙ eq-eqb (target_of nodes item.manager item.txn.request.addr) number target in
      folded-has [] (flat_map (λ (item : TrafficItem). lines_of_burst item.txn.request) (filter (is_write_to nodes items number) items)) line
      (inr (passing-has (λ (item : TrafficItem). lines_of_burst item.txn.request) (is_write_to nodes items number) items place item line there to_here burst))

  part-kept : (request part : Addr) → ((line : ℕ) → is_in (lines_of_burst request) line ≡ true → is_in (lines_touched nodes items number) line ≡ true) → IsOfBurst request part → IsKept part
  part-kept request part kept is = λ beat few inside.
      contains-in (lines_touched nodes items number) (beat_at part beat / area.bus * area.bus / 128)
      (ap (is_in (lines_touched nodes items number)) (word-line area.bus (beat_at part beat) bus) ∙ kept (line_number (beat_at part beat)) (is.lines beat (omega (arith, few))))

  keeps : (t : ℕ) → (o : Option Origin) → find (is_origin true t) (origins_in node_kind (opening nodes items).nodes) ≡ o →
      All IsKept (unwrap_or (option_and_then (λ origin. share_on (link_into nodes number) (way_of node_kind (opening nodes items) origin)) o) no_share).parts
  keeps t None none = All-nil IsKept
  keeps t (Some origin) found = go (share_on (link_into nodes number) (way_of node_kind (opening nodes items) origin)) refl
    where
      go : (s : Option Share) → share_on (link_into nodes number) (way_of node_kind (opening nodes items) origin) ≡ s → All IsKept (unwrap_or s no_share).parts
      go None e = All-nil IsKept
      go (Some share) e =
          let has = find-has (is_origin true t) (origins_in node_kind (opening nodes items).nodes) origin found in
          let parts = and_parts (beq origin.write true) (origin.number == t) has.0 in
          let from : Started nodes items origin = started nodes items origin (contains-at (origins_in node_kind (opening nodes items).nodes) has.1 origin has.2) in
          let write : from.item.txn.write ≡ true = sym (ap (λ (o : Origin). o.write) from.is) ∙ is-write origin.write parts.0 in
          let here = comes-here origin from share e in
          λ i d within. part-kept (without_id (item_request (script_item from.item))) (slice_index_or share.parts i d) (burst-kept from.item from.place from.at write here.0) (here.1.each i d within)

  -- the writes that come here lie on lines that are kept
  pub come-kept : (t : ℕ) → All (AreLinesAmong area (lines_touched nodes items number)) ((schedules_of node_kind (opening nodes items) (form_of_link nodes) (link_into nodes number)).writes t).parts
  come-kept t = keeps t (find (is_origin true t) (origins_in node_kind (opening nodes items).nodes)) refl

module _ (nodes : List DocumentNode) (items : List TrafficItem) (run : CanRun nodes) (traffic : IsTraffic nodes items) (number : ℕ) (less : number < length (plan_nodes nodes)) where
  at-here : slice_get (plan_nodes nodes) number ≡ Some (plan_node_at nodes number)
  at-here = node-at nodes items number less

  begins : node_kind.begins (state_by_part nodes items number (plan_node_at nodes number).part)
  begins =
      let spot : Part_at nodes number (plan_node_at nodes number) = part-at nodes number (plan_node_at nodes number) at-here in
      begins-by nodes items run traffic number spot.place spot.inner (plan_node_at nodes number) at-here
      (form-document nodes spot.place spot.inner (plan_node_at nodes number) (node_at nodes spot.place).kind spot.form) refl spot.within spot.form

  -- each memory keeps the lines of its area on which the writes lie that come to it
  pub keeps-lines : KeepItsLines nodes items (schedules_of node_kind (opening nodes items) (form_of_link nodes)) number (plan_node_at nodes number).part
  keeps-lines = record {
    memory = λ is.
        come-kept nodes items run traffic number less (memory_at nodes number items).area (subst (λ (p : Part). node_kind.begins (state_by_part nodes items number p)) is begins).area.bus
        (ap is_first is) (ap is_mux is) (subst (λ (p : Part). LowersSuit p (plan_node_at nodes number).lower) is (lowers-suit nodes run number (plan_node_at nodes number) at-here));
    lite_memory = λ is.
        come-kept nodes items run traffic number less (lite_memory_at nodes number items).area (subst (λ (p : Part). node_kind.begins (state_by_part nodes items number p)) is begins).area.bus
        (ap is_first is) (ap is_mux is) (subst (λ (p : Part). LowersSuit p (plan_node_at nodes number).lower) is (lowers-suit nodes run number (plan_node_at nodes number) at-here));
  }
