-- The managers of a run: what each keeps, what it notes, and that a number is of one transaction of one manager.
use Rattle.std.proofs.Common.{◌≡◌, ◌<◌, ◌≤◌, [], ℕ, zero, suc, List, Option, Some, None, length, refl, sym, ap, ◌∙◌, subst, inl, inr, arith}
use Rattle.std.specs.Prelude.{All, AllPairs, Any, Contains, flat_map, get_or, slice_get}
use Rattle.std.specs.Option.{option_map, option_map_or}
use Rattle.std.proofs.lemmas.Bool.{cases_lt}
use Rattle.std.proofs.lemmas.List.Elements.{All-nil}
use Rattle.std.proofs.lemmas.Option.{none-some, same_Some, slice_get_within}
use Rattle.axi_link.specs.declared.out.Out.{Out}
use Rattle.axi_trail.specs.Trail.{trail_above}
use Rattle.manager_node.proofs.OrderLaws.{notes-stay}
use Rattle.manager_node.specs.Answer.{AnswerView}
use Rattle.manager_node.specs.ManagerOrder.{Notes, note_at}
use Rattle.manager_node.specs.ManagerState.{IsManager, ManagerState}
use Rattle.manager_node.specs.ManagerTrail.{IsManagerLink, IsNewManager, ManagerKeeps, item_origin}
use Rattle.manager_node.specs.Script.{ScriptItem}
use Rattle.net_history.proofs.ListLemmas.{All-flat, AllPairs-flat, Any-flat}
use Rattle.net_history.proofs.RunStates.{acted_as, holds-at, run_state, stands-at}
use Rattle.net_history.specs.History.{manager_by, manager_of}
use Rattle.net_kinds.specs.NodeHolds.{node_holds}
use Rattle.net_kinds.specs.NodeKind.{KindName, NodeState, StateOf, node_kind}
use Rattle.net_kinds.specs.NodeKind.KindName.{ADemux, ALite, ALiteMemory, AManager, AMemory, AMux, ARemap, ASlice, ASplit, AnError, AnUp}
use Rattle.net_model.specs.Network.{Network, node_next, upper_node}
use Rattle.net_runs.proofs.ContractFacts.{at-some}
use Rattle.net_runs.proofs.RoundLemmas.{node-after}
use Rattle.net_runs.specs.Run.{chosen, nodes_after, passed_by, queues_after, upper_end}
use Rattle.net_runs.specs.RunKeeps.{RunKeeps}
use Rattle.net_ways.proofs.OriginLemmas.{flat-has, own-lower}
use Rattle.net_ways.proofs.SoundLemmas.{sound-runs_keep}
use Rattle.net_ways.specs.Known.{known_by_nodes}
use Rattle.net_ways.specs.Sound.{IsSound}
use Rattle.net_ways.specs.Ways.{origins_in, schedules_of}
use Rattle.node_core.specs.Acted.{Acted}
use Rattle.node_shape.specs.LinkForm.{LinkForm}
use Rattle.node_shape.specs.Way.{Origin}
use Rattle.plain_lists.proofs.CutLemmas.{contains-map}

-- a node is a manager, which stands like this before the first round
pub record IsManagerAt (net : Network NodeState) (node : ℕ) (s : ManagerState) : Type 0 where
  pub out : Out
  pub at : slice_get net.nodes node ≡ Some (acted_as AManager s out)

-- the manager after so many rounds
abbrev pub manager_run : Network NodeState → ManagerState → ℕ → ManagerState
manager_run net s n = run_state net AManager s n

-- what it has noted by then of the transaction at a place
abbrev pub note_after : Network NodeState → ManagerState → ℕ → ℕ → AnswerView
note_after net s n place = note_at (manager_run net s n) place

module _ (net : Network NodeState) where
  -- a node that is there after some rounds was there before the first one
  pub from-first : (n k : ℕ) (a : Acted NodeState) → slice_get (nodes_after node_kind net n) k ≡ Some a → (first : Acted NodeState) × (slice_get net.nodes k ≡ Some first)
  from-first zero k a at = (a, at)
  from-first (suc n) k a at = go (from-first n k) (slice_get (nodes_after node_kind net n) k) refl
    where
      go : ((b : Acted NodeState) → slice_get (nodes_after node_kind net n) k ≡ Some b → (first : Acted NodeState) × (slice_get net.nodes k ≡ Some first)) →
          (o : Option (Acted NodeState)) → slice_get (nodes_after node_kind net n) k ≡ o → (first : Acted NodeState) × (slice_get net.nodes k ≡ Some first)
      go before None none = absurd (none-some a (sym (node-after node_kind net n k ∙ ap (option_map (node_next node_kind (suc n) (queues_after node_kind net n))) none) ∙ at))
      go before (Some b) there = before b there

  -- of what is made of the managers of a network, one after the other
  module _ {X : Type 0} (f : ManagerState → List X) (n : ℕ) where
    abbrev made : Acted NodeState → List X
    made a = option_map_or f (manager_of a.state) []

    abbrev pub of_managers : List X
    of_managers = flat_map (λ (a : Acted NodeState). option_map_or f (manager_of a.state) []) (nodes_after node_kind net n)

    -- what holds of no such thing, and of what is made of a manager at a node, holds of what is made of the node
    module _ (Q : List X → Type 0) (none : Q []) (k : ℕ) (each : (s : ManagerState) → IsManagerAt net k s → Q (f (manager_run net s n))) where
      of-kind : (name : KindName) (s : StateOf name) (out : Out) → slice_get net.nodes k ≡ Some (acted_as name s out) → Q (option_map_or f (manager_by name (run_state net name s n)) [])
      of-kind AManager s out at = each s (record { out = out; at = at })
      of-kind ASlice s out at = none
      of-kind AMemory s out at = none
      of-kind ALiteMemory s out at = none
      of-kind AMux s out at = none
      of-kind AnError s out at = none
      of-kind ADemux s out at = none
      of-kind ARemap s out at = none
      of-kind AnUp s out at = none
      of-kind ASplit s out at = none
      of-kind ALite s out at = none

      of-node : (a : Acted NodeState) → slice_get (nodes_after node_kind net n) k ≡ Some a → Q (made a)
      of-node a at =
          let first = from-first n k a at in
          let there = stands-at net k first.0.state.kind first.0.state.state first.0.out first.1 n in
          let same = same_Some (acted_as first.0.state.kind (run_state net first.0.state.kind first.0.state.state n) there.out) a (sym there.at ∙ at) in
          subst (λ (b : Acted NodeState). Q (option_map_or f (manager_of b.state) [])) same (of-kind first.0.state.kind first.0.state.state first.0.out first.1)

    pub all-managers : (P : X → Type 0) → ((node : ℕ) (s : ManagerState) → IsManagerAt net node s → All P (f (manager_run net s n))) → All P of_managers
    all-managers P each = All-flat P made (nodes_after node_kind net n) (λ k a at. of-node (All P) (All-nil P) k (each k) a at)

    pub pairs-managers :
        (R : X → X → Type 0) → ((node : ℕ) (s : ManagerState) → IsManagerAt net node s → AllPairs R (f (manager_run net s n))) →
        ((j k : ℕ) (s t : ManagerState) → j < k → IsManagerAt net j s → IsManagerAt net k t → All (λ x. All (R x) (f (manager_run net t n))) (f (manager_run net s n))) → AllPairs R of_managers
    pairs-managers R each cross =
        AllPairs-flat R made (nodes_after node_kind net n)
        (λ k a at. of-node (AllPairs R) (λ i j d less within. absurd (omega arith)) k (each k) a at)
        (λ j k a b less at_a at_b.
        of-node (All (λ x. All (R x) (made b))) (All-nil (λ x. All (R x) (made b))) j
        (λ s is i d lt.
        let x = get_or (f (manager_run net s n)) i d in
        of-node (All (R x)) (All-nil (R x)) k (λ t has. cross j k s t less is has i d lt) b at_b) a at_a)

    pub any-manager : (P : X → Type 0) (node : ℕ) (s : ManagerState) → IsManagerAt net node s → Any P (f (manager_run net s n)) → Any P of_managers
    any-manager P node s is has =
        let there = stands-at net node AManager s is.out is.at n in
        Any-flat P made (nodes_after node_kind net n) node (acted_as AManager (manager_run net s n) there.out) there.at has

module _ (net : Network NodeState) (forms : ℕ → LinkForm) (sound : IsSound node_kind net forms) where
  -- what every network keeps
  pub run-keeps : (n : ℕ) → RunKeeps node_kind net (schedules_of node_kind net forms) (known_by_nodes node_kind net (schedules_of node_kind net forms)) n
  run-keeps n = sound-runs_keep node_kind node_holds net forms sound n

  module _ (node : ℕ) (s : ManagerState) (is : IsManagerAt net node s) where
    -- its script, its link and its bus never change
    pub script-is : (n : ℕ) → (manager_run net s n).script ≡ s.script
    script-is zero = refl
    script-is (suc n) = script-is n

    pub lower-is : (n : ℕ) → (manager_run net s n).lower ≡ s.lower
    lower-is zero = refl
    lower-is (suc n) = lower-is n

    pub bus-is : (n : ℕ) → (manager_run net s n).bus ≡ s.bus
    bus-is zero = refl
    bus-is (suc n) = bus-is n

    pub begins : IsNewManager s
    begins = at-some (λ (a : Acted NodeState). node_kind.begins a.state) (slice_get net.nodes node) (acted_as AManager s is.out) is.at (sound.begins node)

    pub has-link : IsManagerLink (forms s.lower) s
    has-link = at-some (λ (a : Acted NodeState). node_kind.is_sound forms (schedules_of node_kind net forms) a.state) (slice_get net.nodes node) (acted_as AManager s is.out) is.at (sound.nodes node)

    pub own-link : (s.lower < length net.links) × (upper_node net.links s.lower ≡ node)
    own-link = own-lower node_kind node_holds net forms sound node (acted_as AManager s is.out) is.at s.lower (0, omega arith, refl)

    pub manager-fact : (n : ℕ) → IsManager (manager_run net s n)
    manager-fact n = holds-at net node_kind.fact node AManager s is.out is.at n ((run-keeps n).facts node)

    -- what it keeps, of the trail of the upper end of its link
    pub manager-keeps : (n : ℕ) → ManagerKeeps (schedules_of node_kind net forms s.lower) n (manager_run net s n) (upper_end node_kind net s.lower n)
    manager-keeps n =
        let schedules = schedules_of node_kind net forms in
        let here : ManagerKeeps (schedules (manager_run net s n).lower) n (manager_run net s n) (trail_above (chosen node_kind net node) (queues_after node_kind net) n (manager_run net s n).lower) =
        holds-at net (λ (state : NodeState). node_kind.keeps schedules n state (passed_by node_kind net node n)) node AManager s is.out is.at n ((run-keeps n).nodes node) in
        subst (λ (k : ℕ). ManagerKeeps (schedules s.lower) n (manager_run net s n) (trail_above (chosen node_kind net k) (queues_after node_kind net) n s.lower)) (sym own-link.1)
        (subst (λ (l : ℕ). ManagerKeeps (schedules l) n (manager_run net s n) (trail_above (chosen node_kind net node) (queues_after node_kind net) n l)) (lower-is n) here)

    -- what is noted stays in the next round
    pub notes-next : (n place : ℕ) → Notes (suc n) (note_after net s n place) (note_after net s (suc n) place)
    notes-next n place = notes-stay (suc n) (queues_after node_kind net n) (manager_run net s n) (omega arith) (manager-fact n) place

    pub issue-stays : (place n k : ℕ) → n ≤ k → 0 < (note_after net s n place).issued → (note_after net s k place).issued ≡ (note_after net s n place).issued
    issue-stays place n zero le issued =
        let none : n ≡ 0 = omega arith in
        ap (λ (m : ℕ). (note_after net s m place).issued) (sym none)
    issue-stays place n (suc k) le issued =
        elim (cases_lt n (suc k)) [
          | inl before ↦
              let earlier = issue-stays place n k (omega arith) issued in
              elim (notes-next k place).issued [ inl same ↦ same ∙ earlier | inr new ↦ absurd (let none = new.0 in omega arith) ]
          | inr last ↦
              let same : n ≡ suc k = omega arith in
              ap (λ (m : ℕ). (note_after net s m place).issued) (sym same)
        ]

    -- the round of an issue is the one in which it is noted
    pub issued-in : (place n r : ℕ) → (note_after net s n place).issued ≡ r → 0 < r → (r ≤ n) × ((note_after net s r place).issued ≡ r)
    issued-in place zero r noted some = absurd (let past = (manager-keeps 0).in_order.issues_past place in omega arith)
    issued-in place (suc n) r noted some =
        elim (notes-next n place).issued [
          | inl same ↦ let earlier = issued-in place n r (sym same ∙ noted) some in (omega (arith, earlier.0), earlier.1)
          | inr new ↦
              let now : suc n ≡ r = sym new.1 ∙ noted in
              (omega arith, ap (λ (m : ℕ). (note_after net s m place).issued) (sym now) ∙ noted)
        ]

    -- and so is that of an answer
    pub answered-in : (place n r : ℕ) → (note_after net s n place).answered ≡ r → 0 < r → (r ≤ n) × ((note_after net s r place).answered ≡ r)
    answered-in place zero r noted some = absurd (let past = (manager-keeps 0).in_order.answers_past place in omega arith)
    answered-in place (suc n) r noted some =
        elim (notes-next n place).answered [
          | inl same ↦ let earlier = answered-in place n r (sym same ∙ noted) some in (omega (arith, earlier.0), earlier.1)
          | inr new ↦
              let now : suc n ≡ r = sym new.1 ∙ noted in
              (omega arith, ap (λ (m : ℕ). (note_after net s m place).answered) (sym now) ∙ noted)
        ]

    -- there is a note for each place
    pub note-within : (n place : ℕ) (item : ScriptItem) → slice_get s.script place ≡ Some item → place < length (manager_run net s n).answers
    note-within n place item at =
        let within = slice_get_within s.script place item at in
        let same : length (manager_run net s n).answers ≡ length s.script = (manager-fact n).one_each ∙ ap length (script-is n) in
        omega arith

    pub at-run : (n place : ℕ) (item : ScriptItem) → slice_get s.script place ≡ Some item → slice_get (manager_run net s n).script place ≡ Some item
    at-run n place item at = ap (λ (items : List ScriptItem). slice_get items place) (script-is n) ∙ at

    -- each transaction of the script is one of the network
    pub has-origin : (item : ScriptItem) → Contains s.script item → Contains (origins_in node_kind net.nodes) (item_origin s.bus s.lower item)
    has-origin item among =
        flat-has (λ (a : Acted NodeState). (node_kind.way a.state).origins) net.nodes node (acted_as AManager s is.out) (item_origin s.bus s.lower item) is.at
        (contains-map (item_origin s.bus s.lower) s.script item among)

  -- a number is of one transaction
  pub one-node : (node other : ℕ) (s t : ManagerState) → IsManagerAt net node s → IsManagerAt net other t → (item mine : ScriptItem) → Contains s.script item → Contains t.script mine →
      item.txn.number ≡ mine.txn.number → node ≡ other
  one-node node other s t is has item mine among here same =
      let one : item_origin s.bus s.lower item ≡ item_origin t.bus t.lower mine =
      sound.once (item_origin s.bus s.lower item) (item_origin t.bus t.lower mine) (has-origin node s is item among) (has-origin other t has mine here) same in
      sym (own-link node s is).1 ∙ ap (λ (o : Origin). upper_node net.links o.link) one ∙ (own-link other t has).1

  pub one-state : (node : ℕ) (s t : ManagerState) → IsManagerAt net node s → IsManagerAt net node t → s ≡ t
  one-state node s t is has =
      same_Some s t (ap (λ (a : Acted NodeState). manager_of a.state) (same_Some (acted_as AManager s is.out) (acted_as AManager t has.out) (sym is.at ∙ has.at)))
