-- Each transaction of a plan's network has its own number.
use Rattle.std.proofs.Common.{◌≡◌, ◌<◌, ◌+◌, ◌-◌, ◌==◌, ℕ, zero, suc, Bool, true, false, cond, List, [], ◌∷◌, length, Some, refl, sym, ◌∙◌, ap, inl, inr, arith}
use Rattle.std.specs.Prelude.{Contains, filter, flat_map, slice_get}
use Rattle.std.proofs.lemmas.Bool.{cases_lt, eqb-true, true≢false}
use Rattle.std.proofs.lemmas.Option.{slice_get_within}
use Rattle.elaborate.proofs.Forms.{Form, Part_at, part-at}
use Rattle.elaborate.proofs.Forms.Form.{Behind, Demux, DemuxError, Input, InputError, Own, Split, Target}
use Rattle.elaborate.proofs.Lists.{None-Some, Some-same, get-back, get-front, get-in}
use Rattle.elaborate.proofs.PlanFacts.{form-document}
use Rattle.elaborate.specs.Laws.{is_first}
use Rattle.elaborate.specs.Plan.{PlanNode, first_part, plan_node_at, plan_nodes}
use Rattle.elaborate.specs.declared.part.Part.{Part}
use Rattle.elaborate.specs.declared.part.Part.TheVariants as part
use Rattle.manager_node.specs.ManagerTrail.{item_origin}
use Rattle.net_kinds.specs.NodeKind.{NodeState, node_kind}
use Rattle.net_opening.specs.Opening.{opening, state_at, state_by_part}
use Rattle.net_opening.specs.PlanLinks.{link_out_of}
use Rattle.plan_traffic.specs.Scripts.{script_item, script_of}
use Rattle.net_plan.proofs.LinkLists.{at-some, made-from, some-at}
use Rattle.net_plan.proofs.NodeBegins.{number-at}
use Rattle.net_plan.proofs.OpeningWired.{node-at}
use Rattle.net_plan.proofs.PartLemmas.{is-built, split-lite}
use Rattle.net_plan.specs.PlanLaws.{CanRun}
use Rattle.net_ways.specs.Ways.{origins_in}
use Rattle.node_core.specs.Acted.{Acted, opened}
use Rattle.node_graph.proofs.Members.{in-numbers}
use Rattle.node_graph.specs.Graph.{numbers}
use Rattle.node_shape.specs.Way.{Origin}
use Rattle.plan_traffic.specs.Accepted.{IsTraffic, items_of_manager}
use Rattle.plan_traffic.specs.Traffic.{TrafficItem}
use Rattle.topology.specs.Document.{DocumentNode, node_at}

-- where an element of a flat list comes from
pub record Flat {X Y : Type 0} (f : X → List Y) (xs : List X) (y : Y) : Type 0 where
  pub item : X
  pub place : ℕ
  pub at : slice_get xs place ≡ Some item
  pub inner : ℕ
  pub there : slice_get (f item) inner ≡ Some y

pub flat-at : {X Y : Type 0} (f : X → List Y) (xs : List X) (i : ℕ) (y : Y) → slice_get (flat_map f xs) i ≡ Some y → Flat f xs y
flat-at f [] i y e = absurd (None-Some y e)
flat-at f (x ∷ xs) i y e =
    elim (cases_lt i (length (f x))) [
      | inl here ↦ record { item = x; place = 0; at = refl; inner = i; there = sym (get-front (f x) (flat_map f xs) i here) ∙ e }
      | inr later ↦
          let gap : i ≡ length (f x) + (i - length (f x)) = omega (arith, later) in
          let more : Flat f xs y = flat-at f xs (i - length (f x)) y (sym (get-back (f x) (flat_map f xs) (i - length (f x)) i gap) ∙ e) in
          record { item = more.item; place = suc more.place; at = more.at; inner = more.inner; there = more.there }
    ]

contained-at : {X : Type 0} (xs : List X) (x : X) → Contains xs x → (i : ℕ) × (slice_get xs i ≡ Some x)
contained-at xs x has = (has.0, some-at xs has.0 x has.1 ∙ ap (λ y. Some y) has.2)

filtered-at : (p : TrafficItem → Bool) (xs : List TrafficItem) (i : ℕ) (x : TrafficItem) → slice_get (filter p xs) i ≡ Some x → (place : ℕ) × (slice_get xs place ≡ Some x) × (p x ≡ true)
filtered-at p [] i x e = absurd (None-Some x e)
filtered-at p (y ∷ ys) i x e = go (filtered-at p ys) (p y) refl i e
  where
    go : ((i : ℕ) (x : TrafficItem) → slice_get (filter p ys) i ≡ Some x → (place : ℕ) × (slice_get ys place ≡ Some x) × (p x ≡ true)) → (b : Bool) → p y ≡ b → (i : ℕ) →
        slice_get (cond b (y ∷ filter p ys) (filter p ys)) i ≡ Some x → (place : ℕ) × (slice_get (y ∷ ys) place ≡ Some x) × (p x ≡ true)
    go more true is zero e = (0, e, ap p (sym (Some-same y x e)) ∙ is)
    go more true is (suc i) e = let found = more i x e in (suc found.0, found.1, found.2)
    go more false is i e = let found = more i x e in (suc found.0, found.1, found.2)

module _ (nodes : List DocumentNode) (items : List TrafficItem) where
  -- a transaction that starts: its manager, and its place in the traffic
  pub record Started (origin : Origin) : Type 0 where
    pub number : ℕ
    pub less : number < length (plan_nodes nodes)
    pub first : is_first (plan_node_at nodes number).part ≡ true
    pub item : TrafficItem
    pub place : ℕ
    pub at : slice_get items place ≡ Some item
    pub manager : item.manager ≡ (plan_node_at nodes number).document
    pub is : origin ≡ item_origin (node_at nodes (plan_node_at nodes number).document).bus (link_out_of nodes number) (script_item item)

  started-by : (origin : Origin) (number inner : ℕ) → number < length (plan_nodes nodes) → (p : Part) → (plan_node_at nodes number).part ≡ p → slice_get (node_kind.way (state_by_part nodes items number p)).origins inner ≡ Some origin → Started origin
  started-by origin number inner less part.Manager is e =
      let made = made-from (item_origin (node_at nodes (plan_node_at nodes number).document).bus (link_out_of nodes number)) (script_of items (plan_node_at nodes number).document) inner origin e in
      let item = made-from script_item (items_of_manager (plan_node_at nodes number).document items) inner made.0 made.1 in
      let kept = filtered-at (λ (item : TrafficItem). item.manager == (plan_node_at nodes number).document) items inner item.0 item.1 in
      record {
        number = number;
        less = less;
        first = ap is_first is;
        item = item.0;
        place = kept.0;
        at = kept.1;
        manager = eqb-true item.0.manager (plan_node_at nodes number).document kept.2;
        is = made.2 ∙ ap (item_origin (node_at nodes (plan_node_at nodes number).document).bus (link_out_of nodes number)) item.2;
      }
  started-by origin number inner less part.Mux is e = absurd (None-Some origin e)
  started-by origin number inner less part.Error is e = absurd (None-Some origin e)
  started-by origin number inner less part.Demux is e = absurd (None-Some origin e)
  started-by origin number inner less part.Memory is e = absurd (None-Some origin e)
  started-by origin number inner less part.Slice is e = absurd (None-Some origin e)
  started-by origin number inner less part.LiteMemory is e = absurd (None-Some origin e)
  started-by origin number inner less part.Remap is e = absurd (None-Some origin e)
  started-by origin number inner less part.Split is e = absurd (None-Some origin e)
  started-by origin number inner less part.Up is e = absurd (None-Some origin e)
  started-by origin number inner less part.Down is e = absurd (None-Some origin e)
  started-by origin number inner less part.Lite is e = absurd (None-Some origin e)

  pub started : (origin : Origin) → Contains (origins_in node_kind (opening nodes items).nodes) origin → Started origin
  started origin has =
      let spot = contained-at (origins_in node_kind (opening nodes items).nodes) origin has in
      let flat : Flat (λ (node : Acted NodeState). (node_kind.way node.state).origins) (opening nodes items).nodes origin =
      flat-at (λ (node : Acted NodeState). (node_kind.way node.state).origins) (opening nodes items).nodes spot.0 origin spot.1 in
      let node = made-from (λ number. opened (state_at nodes items number)) (numbers (length (plan_nodes nodes))) flat.place flat.item flat.at in
      let less = in-numbers (length (plan_nodes nodes)) node.0 (get-in (numbers (length (plan_nodes nodes))) flat.place node.0 node.1) in
      started-by origin node.0 flat.inner less (plan_node_at nodes node.0).part refl
      (ap (λ (n : Acted NodeState). slice_get (node_kind.way n.state).origins flat.inner) (sym node.2) ∙ flat.there)

  -- a manager is the first part of its document node
  first-by : CanRun nodes → (place inner number : ℕ) (node : PlanNode) → place < length nodes → number ≡ first_part nodes place + inner → Form nodes place inner node (node_at nodes place).kind → is_first node.part ≡ true →
      number ≡ first_part nodes place
  first-by run place inner number node less sum (Own p own first is) e = omega (arith, sum, first)
  first-by run place inner number node less sum (Split p split first is) e = omega (arith, sum, first)
  first-by run place inner number node less sum (Behind p split first is) e =
      absurd (true≢false (sym e ∙ ap (λ (n : PlanNode). is_first n.part) is ∙ ap is_first (split-lite (node_at nodes place).kind p split (is-built nodes run place less)).1))
  first-by run place inner number node less sum (Demux own first is) e = omega (arith, sum, first)
  first-by run place inner number node less sum (DemuxError own first is) e = absurd (true≢false (sym e ∙ ap (λ (n : PlanNode). is_first n.part) is))
  first-by run place inner number node less sum (Input i own within first is) e = absurd (true≢false (sym e ∙ ap (λ (n : PlanNode). is_first n.part) is))
  first-by run place inner number node less sum (InputError i own within first is) e = absurd (true≢false (sym e ∙ ap (λ (n : PlanNode). is_first n.part) is))
  first-by run place inner number node less sum (Target j own within first is) e = absurd (true≢false (sym e ∙ ap (λ (n : PlanNode). is_first n.part) is))

  pub manager-first : CanRun nodes → (number : ℕ) → number < length (plan_nodes nodes) → is_first (plan_node_at nodes number).part ≡ true → number ≡ first_part nodes (plan_node_at nodes number).document
  manager-first run number less first =
      let spot : Part_at nodes number (plan_node_at nodes number) = part-at nodes number (plan_node_at nodes number) (node-at nodes items number less) in
      first-by run spot.place spot.inner number (plan_node_at nodes number) spot.within spot.sum spot.form first
      ∙ ap (first_part nodes) (sym (form-document nodes spot.place spot.inner (plan_node_at nodes number) (node_at nodes spot.place).kind spot.form))

  module _ (run : CanRun nodes) (traffic : IsTraffic nodes items) where
    item-number : (place : ℕ) (item : TrafficItem) → slice_get items place ≡ Some item → item.txn.number ≡ place + 1
    item-number place item at =
        omega (
          arith,
          number-at [] items traffic.in_order place item (slice_get_within items place item at),
          ap (λ (i : TrafficItem). i.txn.number) (at-some items place item item at),
        )

    pub once : (one other : Origin) → Contains (origins_in node_kind (opening nodes items).nodes) one → Contains (origins_in node_kind (opening nodes items).nodes) other → one.number ≡ other.number → one ≡ other
    once one other has_one has_other same =
        let first : Started one = started one has_one in
        let second : Started other = started other has_other in
        let numbers_same : first.item.txn.number ≡ second.item.txn.number = sym (ap (λ (o : Origin). o.number) first.is) ∙ same ∙ ap (λ (o : Origin). o.number) second.is in
        let place : first.place ≡ second.place = omega (arith, numbers_same, item-number first.place first.item first.at, item-number second.place second.item second.at) in
        let item : first.item ≡ second.item = Some-same first.item second.item (sym first.at ∙ ap (slice_get items) place ∙ second.at) in
        let document : (plan_node_at nodes first.number).document ≡ (plan_node_at nodes second.number).document = sym first.manager ∙ ap (λ (i : TrafficItem). i.manager) item ∙ second.manager in
        let number : first.number ≡ second.number =
        manager-first run first.number first.less first.first ∙ ap (first_part nodes) document ∙ sym (manager-first run second.number second.less second.first) in
        first.is
        ∙ ap (λ (k : ℕ). item_origin (node_at nodes (plan_node_at nodes k).document).bus (link_out_of nodes k) (script_item first.item)) number
        ∙ ap (λ (i : TrafficItem). item_origin (node_at nodes (plan_node_at nodes second.number).document).bus (link_out_of nodes second.number) (script_item i)) item
        ∙ sym second.is
