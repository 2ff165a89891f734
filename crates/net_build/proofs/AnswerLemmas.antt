-- What a network has noted of a transaction is what its manager has.
use Rattle.std.proofs.Common.{◌≡◌, ◌<◌, ◌+◌, ◌-◌, ◌++◌, ◌==◌, ℕ, zero, suc, List, [], ◌∷◌, Bool, Option, None, Some, IfSome, ap, arith, cond, drop, false, get_or, length, map, refl, subst, sym, take, true, ◌∙◌}
use Rattle.std.specs.Borrow.{Bor}
use Rattle.std.specs.Prelude.{slice_get}
use Rattle.std.specs.Option.{option_and_then, option_copied, option_map}
use Rattle.std.proofs.lemmas.Bool.{eq-eqb}
use Rattle.std.proofs.lemmas.List.{length-append, take-append-drop}
use Rattle.std.proofs.lemmas.List.Elements.{filter-append}
use Rattle.std.proofs.lemmas.List.FromFn.{length-map-range_with_len}
use Rattle.std.proofs.lemmas.Option.{get_or_from_slice_get, none-some, same_Some, slice_get-map, slice_get_within}
use Rattle.elaborate.proofs.Lists.{get-back, get-front, get-mapped}
use Rattle.elaborate.specs.Plan.{first_part, plan_nodes}
use Rattle.manager_node.specs.Answer.{AnswerView, unanswered}
use Rattle.manager_node.specs.ManagerOrder.{note_at}
use Rattle.manager_node.specs.ManagerState.{ManagerState, answer_of, answered_one, is_answered}
use Rattle.manager_node.specs.Script.{ScriptItem}
use Rattle.net_build.proofs.BurstLemmas.{burst-long}
use Rattle.net_build.proofs.ItemLemmas.{item-more, item-suits, item-there, item_at, manager-is, manager-known}
use Rattle.net_build.proofs.KeptLemmas.{begins-there, first-within, its-script, its_state, nodes-are, turns}
use Rattle.net_build.proofs.NoteLemmas.{manager-there}
use Rattle.net_build.proofs.ShortLemmas.{IsShort, short-new, short-next}
use Rattle.net_build.specs.NetRun.{NetRun, network_of_run}
use Rattle.net_build.specs.Noted.{HasPlace, IsAnswerTo, answer_by, manager_of_place, noted_at, script_place}
use Rattle.net_build.specs.Notes.{note_of}
use Rattle.net_build.specs.declared.notes.Note.{Note}
use Rattle.net_history.proofs.ManagerRuns.{IsManagerAt, manager-fact, manager_run, note_after, script-is}
use Rattle.net_history.proofs.RunStates.{StandsAt, acted_as, stands-at}
use Rattle.net_kinds.specs.NodeKind.{AManager, NodeState, node_kind}
use Rattle.net_model.specs.Network.{Network}
use Rattle.net_opening.specs.Opening.{opening}
use Rattle.net_opening.specs.PlanLinks.{form_of_link}
use Rattle.net_runs.specs.Run.{nodes_after, queues_after}
use Rattle.net_ways.specs.Sound.{IsSound}
use Rattle.node_core.specs.Acted.{Acted}
use Rattle.node_graph.specs.Graph.{numbers}
use Rattle.plan_traffic.specs.Accepted.{IsTraffic, Suits, items_of_manager}
use Rattle.plan_traffic.specs.Scripts.{script_item, script_of}
use Rattle.plan_traffic.specs.Traffic.{TrafficItem}
use Rattle.topology.specs.Document.{DocumentNode}

-- ---- a transaction among those of its manager

pub own-there : (items : List TrafficItem) (place manager : ℕ) → place < length items → (item_at items place).manager ≡ manager →
    slice_get (items_of_manager manager items) (length (items_of_manager manager (take place items))) ≡ Some (item_at items place)
own-there items place manager less same =
    let item : TrafficItem = item_at items place in
    let front : List TrafficItem = items_of_manager manager (take place items) in
    let rest : List TrafficItem = items_of_manager manager (drop (place + 1) items) in
    let one : items_of_manager manager (item ∷ []) ≡ item ∷ [] = rw (eq-eqb (item_at items place).manager manager same) refl in
    let more : items_of_manager manager (take (place + 1) items) ≡ front ++ item ∷ [] =
    ap (items_of_manager manager) (item-more items place less)
    ∙ filter-append (λ (i : TrafficItem). i.manager == manager) (take place items) (item ∷ []) ∙ ap (λ (xs : List TrafficItem). front ++ xs) one in
    let whole : items_of_manager manager items ≡ (front ++ item ∷ []) ++ rest =
    ap (items_of_manager manager) (sym (take-append-drop (place + 1) items))
    ∙ filter-append (λ (i : TrafficItem). i.manager == manager) (take (place + 1) items) (drop (place + 1) items) ∙ ap (λ (xs : List TrafficItem). xs ++ rest) more in
    ap (λ (xs : List TrafficItem). slice_get xs (length front)) whole
    ∙ get-front (front ++ item ∷ []) rest (length front) (omega (arith, length-append front (item ∷ [])))
    ∙ get-back front (item ∷ []) 0 (length front) (omega arith)

-- and in the manager's script
pub script-there : (items : List TrafficItem) (place manager : ℕ) → place < length items → (item_at items place).manager ≡ manager →
    slice_get (script_of items manager) (length (items_of_manager manager (take place items))) ≡ Some (script_item (item_at items place))
script-there items place manager less same =
    slice_get-map script_item (items_of_manager manager items) (length (items_of_manager manager (take place items))) ∙ ap (option_map script_item) (own-there items place manager less same)

-- ---- what is answered is noted

answered-is : (o : Option AnswerView) (a : AnswerView) → answered_one o ≡ Some a → o ≡ Some a
answered-is None a e = absurd (none-some a e)
answered-is (Some b) a e = by (is_answered b) e
  where
    by : (test : Bool) → cond test (Some b) None ≡ Some a → Some b ≡ Some a
    by true e = e
    by false e = absurd (none-some a e)

module _ (run : NetRun) (traffic : IsTraffic run.nodes run.items) (sound : IsSound node_kind (opening run.nodes run.items) (form_of_link run.nodes)) (place : ℕ) (less : place < length run.items) where
  abbrev item : TrafficItem
  item = item_at run.items place

  pub suits : Suits run.nodes item
  suits = item-suits run.nodes run.items place traffic.suit less

  abbrev start : Network NodeState
  start = opening run.nodes run.items

  abbrev node : ℕ
  node = first_part run.nodes item.manager

  abbrev begun : ManagerState
  begun = its_state run.nodes run.items item.manager (manager-known run.nodes item suits) (manager-is run.nodes item suits)

  begins : IsManagerAt start node begun
  begins = begins-there run.nodes run.items item.manager (manager-known run.nodes item suits) (manager-is run.nodes item suits)

  script : begun.script ≡ script_of run.items item.manager
  script = its-script run.nodes run.items item.manager (manager-known run.nodes item suits) (manager-is run.nodes item suits)

  abbrev now : ManagerState
  now = manager_run start begun (turns run)

  pub there : StandsAt start node AManager begun (turns run)
  there = stands-at start node AManager begun begins.out begins.at (turns run)

  -- its manager stands there
  pub manager-stands : slice_get (network_of_run run).nodes (first_part run.nodes (manager_of_place run.items place)) ≡ Some (acted_as AManager now there.out)
  manager-stands =
      ap (λ (nodes : List (Acted NodeState)). slice_get nodes (first_part run.nodes (manager_of_place run.items place))) (nodes-are run)
      ∙ ap (λ (m : ℕ). slice_get (nodes_after node_kind start (turns run)) (first_part run.nodes m)) (manager-there run.items place less)
      ∙ there.at

  -- with its transaction at its place
  pub item-at : slice_get now.script (script_place run.items place) ≡ Some (script_item item)
  item-at =
      ap (λ (items : List ScriptItem). slice_get items (script_place run.items place)) (script-is start (form_of_link run.nodes) sound node begun begins (turns run) ∙ script)
      ∙ ap (λ (m : ℕ). slice_get (script_of run.items item.manager) (length (items_of_manager m (take place run.items)))) (manager-there run.items place less)
      ∙ script-there run.items place item.manager less refl

  -- and what is noted of it, it noted
  noted-is : noted_at run place ≡ answer_of now (script_place run.items place)
  noted-is = ap (option_and_then (λ (a : Acted NodeState). answer_by a.state.kind a.state.state (script_place run.items place))) manager-stands

  short : (n q : ℕ) → IsShort (manager_run start begun n).script q (note_after start begun n q)
  short zero q = short-new begun.script begun.lower begun.bus begun.paces q
  short (suc n) q =
      short-next (queues_after node_kind start n) (manager_run start begun n) (suc n) q (manager-fact start (form_of_link run.nodes) sound node begun begins n) (short n q)

  pub known-answer : (number : ℕ) → number - 1 ≡ place → (o : Option AnswerView) → o ≡ noted_at run place → IfSome o (IsAnswerTo run number)
  known-answer number same None e = tt
  known-answer number same (Some a) e =
      let noted : slice_get now.answers (script_place run.items place) ≡ Some a = answered-is (slice_get now.answers (script_place run.items place)) a (sym noted-is ∙ sym e) in
      let is : note_at now (script_place run.items place) ≡ a = get_or_from_slice_get now.answers (script_place run.items place) a (unanswered 0) noted in
      let brief : IsShort now.script (script_place run.items place) a = subst (IsShort now.script (script_place run.items place)) is (short (turns run) (script_place run.items place)) in
      record {
        item = item;
        at = ap (slice_get run.items) same ∙ item-there run.items place less;
        suits = suits;
        beats = brief.beats (script_item item) item-at;
        bytes = omega (arith, brief.bytes (script_item item) item-at, burst-long item.txn.request suits.legal_on_widest);
      }

  -- ---- by the node that stands there

  pub node-within : first_part run.nodes (manager_of_place run.items place) < length (plan_nodes run.nodes)
  node-within =
      subst (λ (m : ℕ). first_part run.nodes m < length (plan_nodes run.nodes)) (sym (manager-there run.items place less))
      (first-within run.nodes run.items item.manager (manager-known run.nodes item suits) (manager-is run.nodes item suits))

  module _ (a : Acted NodeState) (at : slice_get (network_of_run run).nodes (first_part run.nodes (manager_of_place run.items place)) ≡ Some a) where
    pub place-there : HasPlace a.state.kind a.state.state (script_place run.items place)
    place-there =
        subst (λ (b : Acted NodeState). HasPlace b.state.kind b.state.state (script_place run.items place)) (same_Some (acted_as AManager now there.out) a (sym manager-stands ∙ at))
        (slice_get_within now.script (script_place run.items place) (script_item item) item-at)

    pub noted-there : answer_by a.state.kind a.state.state (script_place run.items place) ≡ noted_at run place
    noted-there = sym (ap (option_and_then (λ (b : Acted NodeState). answer_by b.state.kind b.state.state (script_place run.items place))) at)

-- ---- notes

pub notes-long : (nodes : List DocumentNode) (items : List TrafficItem) (notes : List Note) → notes ≡ map (note_of nodes items) (numbers (length items)) → length notes ≡ length items
unfolding numbers
notes-long nodes items notes are = ap length are ∙ length-map-range_with_len (note_of nodes items) 0 (length items)

pub note-there : (nodes : List DocumentNode) (items : List TrafficItem) (notes : List Note) (place : ℕ) (note : Note) → notes ≡ map (note_of nodes items) (numbers (length items)) → place < length items →
    note ≡ get_or notes place note → note ≡ note_of nodes items place
unfolding numbers
note-there nodes items notes place note are less read =
    read
    ∙ get_or_from_slice_get notes place (note_of nodes items place) note
    (ap (λ (all : List Note). slice_get all place) are ∙ get-mapped (note_of nodes items) 0 (length items) place less ∙ ap (λ (k : ℕ). Some (note_of nodes items k)) (omega arith))

-- what holds of a value holds of what is lent
pub lent-some : {X : Type 0} (P : X → Type 0) (o : Option (Bor X)) → IfSome (option_copied o) P → IfSome o (λ x. P x.now)
lent-some P None holds = tt
lent-some P (Some x) holds = holds
