-- What all links carry of all transactions is no more than the bound of each of them.
use Rattle.std.proofs.Common.{◌≡◌, ◌<◌, ◌≤◌, ◌-◌, ◌*◌, ◌==◌, ℕ, suc, Bool, true, false, List, [], ◌∷◌, length, map, Some, refl, sym, ◌∙◌, ap, subst, arith}
use Rattle.std.proofs.Math.Nat.{mul-le-mul, mul-le-mul_left}
use Rattle.std.proofs.lemmas.Bool.{eqb-true, false≢true}
use Rattle.std.proofs.lemmas.List.{length-append}
use Rattle.std.proofs.lemmas.Option.{slice_get_within}
use Rattle.std.proofs.lemmas.List.FromFn.{length-map-range_with_len}
use Rattle.std.specs.List.{range_with_len}
use Rattle.std.specs.Prelude.{Contains, slice_get, sum_by, if◌then◌else◌}
use Rattle.axi_beats.specs.declared.beat.Addr.{Addr}
use Rattle.axi_trail.specs.LinkContracts.{without_id}
use Rattle.burst_address.specs.Formulas.{beats_of}
use Rattle.elaborate.specs.Laws.{is_first}
use Rattle.elaborate.specs.Path.{path_from, path_of}
use Rattle.elaborate.specs.Plan.{first_part, plan_node_at, plan_nodes}
use Rattle.elaborate.specs.declared.part.Part.{Part}
use Rattle.elaborate.specs.declared.part.Part.TheVariants as part
use Rattle.manager_node.specs.Beats.{data_beat, data_beats, item_request}
use Rattle.manager_node.specs.ManagerTrail.{item_origin}
use Rattle.manager_node.specs.Script.{ScriptItem}
use Rattle.net_bound.proofs.HopBeats.{data_count, few-from, hop_beats, most_beats}
use Rattle.net_bound.proofs.LinkBeats.{links-most}
use Rattle.net_bound.proofs.Sums.{among-passing, if_passing, sum-each, sum-flat, sum-made, sum-most, sum-one, sum-passing, sum-same, sum-swap, sum-twice}
use Rattle.net_kinds.specs.NodeHolds.{node_holds}
use Rattle.net_kinds.specs.NodeKind.{NodeState, node_kind}
use Rattle.net_model.specs.Network.{Network}
use Rattle.net_opening.specs.Opening.{opening, state_at, state_by_part}
use Rattle.net_opening.specs.PlanLinks.{form_of_link, link_out_of}
use Rattle.net_opening.specs.States.{manager_at}
use Rattle.net_plan.proofs.BurstParts.{of-itself}
use Rattle.net_plan.proofs.LinkLists.{at-some}
use Rattle.net_plan.proofs.OnceLemmas.{manager-first}
use Rattle.net_plan.proofs.OpeningSound.{openings-are_sound}
use Rattle.net_plan.proofs.OpeningWired.{node-is}
use Rattle.net_plan.proofs.PathStarts.{below_start, path-starts, start-deep, start-known}
use Rattle.net_plan.specs.PlanLaws.{CanRun}
use Rattle.net_progress.proofs.SumLemmas.{first-le}
use Rattle.net_progress.specs.Transfers.{link_beats, most_transfers}
use Rattle.net_ways.proofs.OriginLemmas.{flat-has}
use Rattle.net_ways.specs.Ways.{origins_in, schedules_of, way_of}
use Rattle.node_core.specs.Acted.{Acted, opened}
use Rattle.node_graph.specs.Graph.{numbers}
use Rattle.node_shape.specs.LinkForm.{LinkForm}
use Rattle.node_shape.specs.Way.{Origin}
use Rattle.plain_lists.proofs.CutLemmas.{contains-map}
use Rattle.plan_traffic.specs.Accepted.{IsTraffic, Suits, items_of_manager}
use Rattle.plan_traffic.specs.Bound.{most_moves, pieces_of, words_of_beat}
use Rattle.plan_traffic.specs.Scripts.{script_item, script_of}
use Rattle.plan_traffic.specs.Traffic.{TrafficItem}
use Rattle.topology.specs.Document.{DocumentNode}

-- ---- one transaction

-- a burst can be cut into as many pieces as it has beats, or more
some-pieces : (request : Addr) → beats_of request ≤ pieces_of request
some-pieces request =
    let words : 1 ≤ words_of_beat request.size = omega arith in
    omega (arith, mul-le-mul_left (beats_of request) words)

few-data : (item : TrafficItem) (bus : ℕ) (lower : ℕ) → data_count (item_origin bus lower (script_item item)).share.write_data ≤ beats_of item.txn.request
few-data item bus lower = go item.txn.write
  where
    go : (b : Bool) → data_count (if b then data_beats (script_item item) bus ∷ [] else []) ≤ beats_of item.txn.request
    go true =
        omega (arith, length-append (data_beats (script_item item) bus) [], length-map-range_with_len (data_beat (script_item item) bus) 0 (beats_of item.txn.request))
    go false = omega arith

-- the beats that all links carry of a transaction at most: each is put once and taken once
abbrev pub item_beats : List DocumentNode → TrafficItem → ℕ
item_beats nodes item = 3 * pieces_of item.txn.request * length (path_of nodes item.manager item.txn.request.addr)

module _ (nodes : List DocumentNode) (items : List TrafficItem) (run : CanRun nodes) (traffic : IsTraffic nodes items) where
  abbrev net : Network NodeState
  net = opening nodes items

  abbrev forms : ℕ → LinkForm
  forms = form_of_link nodes

  -- what all links carry of a transaction
  abbrev all_beats : Origin → ℕ
  all_beats origin = sum_by (λ link. link_beats (schedules_of node_kind net forms link) origin.number) (range_with_len 0 (length net.links))

  module _ (number : ℕ) (less : number < length (plan_nodes nodes)) (manager : (plan_node_at nodes number).part ≡ part.Manager) (item : TrafficItem) (place : ℕ)
      (at : slice_get items place ≡ Some item) (its_own : (item.manager == (plan_node_at nodes number).document) ≡ true) where
    abbrev origin : Origin
    origin = item_origin (manager_at nodes number items).bus (link_out_of nodes number) (script_item item)

    abbrev request : Addr
    request = without_id (item_request (script_item item))

    among : Contains (origins_in node_kind net.nodes) origin
    among =
        flat-has (λ (node : Acted NodeState). (node_kind.way node.state).origins) net.nodes number (opened (state_at nodes items number)) origin (node-is nodes items number less)
        (subst (λ (p : Part). Contains (node_kind.way (state_by_part nodes items number p)).origins origin) (sym manager)
        (contains-map (item_origin (manager_at nodes number items).bus (link_out_of nodes number)) (script_of items (plan_node_at nodes number).document) (script_item item)
        (contains-map script_item (items_of_manager (plan_node_at nodes number).document items) item
        (among-passing (λ (i : TrafficItem). i.manager == (plan_node_at nodes number).document) items place item at its_own))))

    suits : Suits nodes item
    suits = subst (Suits nodes) (at-some items place item item at) (traffic.suit place item (slice_get_within items place item at))

    first : first_part nodes item.manager ≡ number
    first =
        ap (first_part nodes) (eqb-true item.manager (plan_node_at nodes number).document its_own) ∙ sym (manager-first nodes items run number less (ap is_first manager))

    abbrev link_most : ℕ
    link_most = most_beats nodes items run origin.write request origin.share.write_data

    abbrev rest : List ℕ
    rest = path_from nodes (plan_nodes nodes) item.txn.request.addr (length (plan_nodes nodes) - 1) (below_start nodes items run number less manager)

    hops-few : sum_by hop_beats (way_of node_kind net origin) ≤ link_most * length rest
    hops-few =
        let few = few-from nodes items run origin.write request origin.share.write_data (suc (length net.nodes)) (link_out_of nodes number) (length (plan_nodes nodes) - 1) origin.share
        (start-known nodes items run number less manager) (of-itself request suits.legal_on_widest) (omega arith) (omega arith) (start-deep nodes items run number less manager) in
        omega (arith, few.0, sum-each link_most rest)

    rest-long : length rest ≤ length (path_of nodes item.manager item.txn.request.addr)
    rest-long = omega (arith, ap length (path-starts nodes items run number less manager item.manager item.txn.request.addr first))

    link-few : link_most ≤ 3 * pieces_of item.txn.request
    link-few = omega (arith, few-data item (manager_at nodes number items).bus (link_out_of nodes number), some-pieces item.txn.request)

    item-most : all_beats origin ≤ item_beats nodes item
    item-most =
        let product : link_most * length rest ≤ 3 * pieces_of item.txn.request * length (path_of nodes item.manager item.txn.request.addr) = mul-le-mul link-few rest-long in
        omega (arith, links-most node_kind node_holds net forms (openings-are_sound nodes items run traffic) origin among, hops-few, product)

  -- ---- the transactions of a plan node

  -- a transaction starts at a plan node
  abbrev starts_at : ℕ → Part → TrafficItem → Bool
  starts_at number part.Manager item = item.manager == (plan_node_at nodes number).document
  starts_at number other item = false

  abbrev own_beats : ℕ → TrafficItem → ℕ
  own_beats number = if_passing (starts_at number (plan_node_at nodes number).part) (item_beats nodes)

  nothing-most : (n : ℕ) → 0 ≤ n
  nothing-most n = omega arith

  node-most : (number : ℕ) → number < length (plan_nodes nodes) → (p : Part) → (plan_node_at nodes number).part ≡ p →
      sum_by all_beats (node_kind.way (state_by_part nodes items number p)).origins ≤ sum_by (if_passing (starts_at number p) (item_beats nodes)) items
  node-most number less part.Manager is =
      let made : ScriptItem → Origin = item_origin (manager_at nodes number items).bus (link_out_of nodes number) in
      let own : List TrafficItem = items_of_manager (plan_node_at nodes number).document items in
      omega (
        arith,
        sum-made all_beats made (script_of items (plan_node_at nodes number).document),
        sum-made (λ (i : ScriptItem). all_beats (made i)) script_item own,
        sum-passing (λ (i : TrafficItem). i.manager == (plan_node_at nodes number).document) (λ (i : TrafficItem). all_beats (made (script_item i))) (item_beats nodes) items
            (λ place i at passes. item-most number less is i place at passes),
      )
  node-most number less part.Mux is = nothing-most _
  node-most number less part.Error is = nothing-most _
  node-most number less part.Demux is = nothing-most _
  node-most number less part.Memory is = nothing-most _
  node-most number less part.Slice is = nothing-most _
  node-most number less part.LiteMemory is = nothing-most _
  node-most number less part.Remap is = nothing-most _
  node-most number less part.Split is = nothing-most _
  node-most number less part.Up is = nothing-most _
  node-most number less part.Down is = nothing-most _
  node-most number less part.Lite is = nothing-most _

  -- each transaction starts at one plan node
  starts-first : (number : ℕ) → number < length (plan_nodes nodes) → (item : TrafficItem) (p : Part) → (plan_node_at nodes number).part ≡ p → starts_at number p item ≡ true → number ≡ first_part nodes item.manager
  starts-first number less item part.Manager is e =
      manager-first nodes items run number less (ap is_first is) ∙ ap (first_part nodes) (sym (eqb-true item.manager (plan_node_at nodes number).document e))
  starts-first number less item other is e = absurd (false≢true e)

  one-start : (item : TrafficItem) → sum_by (λ number. own_beats number item) (range_with_len 0 (length (plan_nodes nodes))) ≤ item_beats nodes item
  one-start item =
      sum-one (λ number. own_beats number item) (first_part nodes item.manager) (item_beats nodes item) 0 (length (plan_nodes nodes)) (few (starts_at (first_part nodes item.manager) (plan_node_at nodes (first_part nodes item.manager)).part item))
      (λ number less other. none number (omega (arith, less)) other (starts_at number (plan_node_at nodes number).part item) refl)
    where
      few : (b : Bool) → (if b then item_beats nodes item else 0) ≤ item_beats nodes item
      few true = omega arith
      few false = omega arith

      none : (number : ℕ) → number < length (plan_nodes nodes) → ¬ (number ≡ first_part nodes item.manager) → (b : Bool) → starts_at number (plan_node_at nodes number).part item ≡ b → (if b then item_beats nodes item else 0) ≡ 0
      none number less other true is = absurd (other (starts-first number less item (plan_node_at nodes number).part refl is))
      none number less other false is = refl

  -- ---- all transactions

  abbrev origins : List Origin
  origins = origins_in node_kind net.nodes

  origins-most : sum_by all_beats origins ≤ sum_by (item_beats nodes) items
  unfolding numbers
  origins-most =
      let at_node : Acted NodeState → ℕ = λ (a : Acted NodeState). sum_by all_beats (node_kind.way a.state).origins in
      omega (
        arith,
        sum-flat all_beats (λ (a : Acted NodeState). (node_kind.way a.state).origins) net.nodes,
        sum-made at_node (λ number. opened (state_at nodes items number)) (numbers (length (plan_nodes nodes))),
        first-le (λ number. sum_by all_beats (node_kind.way (state_at nodes items number)).origins) (λ number. sum_by (own_beats number) items) (length (plan_nodes nodes))
            (λ number less. node-most number less (plan_node_at nodes number).part refl),
        sum-swap own_beats (range_with_len 0 (length (plan_nodes nodes))) items,
        sum-most (λ item. sum_by (λ number. own_beats number item) (range_with_len 0 (length (plan_nodes nodes)))) (item_beats nodes) items one-start,
      )

  twice-item : (item : TrafficItem) → 2 * item_beats nodes item ≡ most_moves nodes item
  twice-item item = omega arith

  pub transfers-most : most_transfers node_kind net (schedules_of node_kind net forms) (map (λ (origin : Origin). origin.number) (origins_in node_kind net.nodes)) ≤ sum_by (most_moves nodes) items
  transfers-most =
      let links : List ℕ = range_with_len 0 (length net.links) in
      let on_link : ℕ → ℕ = λ link. sum_by (link_beats (schedules_of node_kind net forms link)) (map (λ (origin : Origin). origin.number) origins) in
      let by_origin : ℕ → Origin → ℕ = λ link origin. link_beats (schedules_of node_kind net forms link) origin.number in
      omega (
        arith,
        sum-twice on_link links,
        sum-same on_link (λ link. sum_by (by_origin link) origins) links (λ link. sum-made (link_beats (schedules_of node_kind net forms link)) (λ (origin : Origin). origin.number) origins),
        sum-swap by_origin links origins,
        origins-most,
        sum-twice (item_beats nodes) items,
        sum-same (λ item. 2 * item_beats nodes item) (most_moves nodes) items twice-item,
      )
