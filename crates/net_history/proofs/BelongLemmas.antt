-- Each event is of a transaction of the network, at its target, which was issued before; so those of a transaction are what its
-- target has noted.
use Rattle.std.proofs.Common.{◌≡◌, ◌<◌, [], ◌∷◌, ℕ, zero, suc, false, true, List, Option, Some, None, length, refl, sym, ap, ◌∙◌, subst, inl, inr, arith}
use Rattle.std.specs.Prelude.{◌⊎◌, All, get_or, slice_get}
use Rattle.std.specs.Option.{option_map_or}
use Rattle.std.proofs.lemmas.List.Elements.{All-nil, All-weaker, Contains-append_right}
use Rattle.axi_history.specs.Answered.{IsIssuedBefore}
use Rattle.axi_history.specs.Delivered.{IsOf}
use Rattle.axi_history.specs.Records.{Event, Issue, Transaction}
use Rattle.axi_link.specs.declared.out.Out.{Out}
use Rattle.manager_node.specs.ManagerState.{ManagerState}
use Rattle.manager_node.specs.ManagerTrail.{item_origin}
use Rattle.manager_node.specs.Script.{ScriptItem}
use Rattle.memory_node.specs.Events.{Access}
use Rattle.memory_node.specs.MemoryState.{MemoryState}
use Rattle.net_history.proofs.AskedLemmas.{asked-by, is_asked}
use Rattle.net_history.proofs.EventLemmas.{all-events}
use Rattle.net_history.proofs.ManagerRuns.{from-first, issue-stays, manager-keeps, note_after}
use Rattle.net_history.proofs.MemoryRuns.{IsMemoryAt}
use Rattle.net_history.proofs.NetTransactions.{any-transaction}
use Rattle.net_history.proofs.RoundLemmas.{IsItem, any-issued}
use Rattle.net_history.proofs.RunStates.{acted_as, run_state, stands-at}
use Rattle.net_history.specs.Due.{transactions_of, way_end, way_target}
use Rattle.net_history.specs.History.{event_of, events_after, issues_after}
use Rattle.net_kinds.specs.NodeKind.{KindName, NodeState, StateOf, node_kind}
use Rattle.net_kinds.specs.NodeKind.KindName.{ADemux, ALite, ALiteMemory, AManager, AMemory, AMux, ARemap, ASlice, ASplit, AnError, AnUp}
use Rattle.net_model.specs.Network.{Network}
use Rattle.net_runs.specs.Run.{lower_end, nodes_after, noted_by, noted_in, queues_after}
use Rattle.net_ways.specs.Sound.{IsSound}
use Rattle.node_core.specs.Acted.{Acted}
use Rattle.node_shape.specs.LinkForm.{LinkForm}

module _ (net : Network NodeState) (forms : ℕ → LinkForm) (sound : IsSound node_kind net forms) where
  -- what an access of a round, at a node, is of
  pub record IsOfItem (m node : ℕ) (a : Access) : Type 0 where
    pub manager : ℕ
    pub s : ManagerState
    pub place : ℕ
    pub item : ScriptItem
    pub own : IsItem net manager s place item
    pub same_number : item.txn.number ≡ a.number
    pub direction : item.txn.write ≡ a.write
    pub issued : 0 < (note_after net s m place).issued
    pub target : way_target net forms (item_origin s.bus s.lower item) ≡ node
    pub asked : is_asked a.write a.number (lower_end node_kind net (way_end net forms (item_origin s.bus s.lower item)).link (suc m)) ≡ true

  of-memory : (m node : ℕ) (c : MemoryState) → IsMemoryAt net node c → All (IsOfItem m node) (noted_in node_kind net node m)
  of-memory m node c is k d lt =
      let new = noted_in node_kind net node m in
      let a = get_or new k d in
      let asked = asked-by net forms sound node c is m a (Contains-append_right (noted_by node_kind net node m) new a (k, lt, get_or_itself new k d lt)) in
      record {
        manager = asked.by.node;
        s = asked.by.s;
        place = asked.by.place;
        item = asked.by.item;
        own = asked.by.own;
        same_number = asked.by.same_number;
        direction = asked.direction;
        issued = asked.by.issued;
        target = asked.target;
        asked = asked.asked;
      }
    where
      get_or_itself : (xs : List Access) (k : ℕ) (d : Access) → k < length xs → get_or xs k (get_or xs k d) ≡ get_or xs k d
      get_or_itself [] k d lt = absurd (omega (arith, lt))
      get_or_itself (x ∷ xs) zero d lt = refl
      get_or_itself (x ∷ xs) (suc k) d lt = get_or_itself xs k d (omega (arith, lt))

  -- only memories note anything
  of-kind : (m node : ℕ) (name : KindName) (s : StateOf name) (out : Out) → slice_get net.nodes node ≡ Some (acted_as name s out) →
      All (IsOfItem m node) (noted_in node_kind net node m) ⊎ (node_kind.notes (queues_after node_kind net m) (record { kind = name; state = run_state net name s m }) ≡ [])
  of-kind m node AMemory s out at = inl (of-memory m node s (record { lite = false; out = out; at = at }))
  of-kind m node ALiteMemory s out at = inl (of-memory m node s (record { lite = true; out = out; at = at }))
  of-kind m node ASlice s out at = inr refl
  of-kind m node AManager s out at = inr refl
  of-kind m node AMux s out at = inr refl
  of-kind m node AnError s out at = inr refl
  of-kind m node ADemux s out at = inr refl
  of-kind m node ARemap s out at = inr refl
  of-kind m node AnUp s out at = inr refl
  of-kind m node ASplit s out at = inr refl
  of-kind m node ALite s out at = inr refl

  pub of-item : (m node : ℕ) → All (IsOfItem m node) (noted_in node_kind net node m)
  of-item m node = go (slice_get (nodes_after node_kind net m) node) refl
    where
      go : (o : Option (Acted NodeState)) → slice_get (nodes_after node_kind net m) node ≡ o → All (IsOfItem m node) (noted_in node_kind net node m)
      go None none =
          subst (λ (o : Option (Acted NodeState)). All (IsOfItem m node) (option_map_or (λ (a : Acted NodeState). node_kind.notes (queues_after node_kind net m) a.state) o [])) (sym none) (All-nil (IsOfItem m node))
      go (Some a) at =
          let first = from-first net m node a at in
          let there = stands-at net node first.0.state.kind first.0.state.state first.0.out first.1 m in
          elim (of-kind m node first.0.state.kind first.0.state.state first.0.out first.1) [
            | inl all ↦ all
            | inr none ↦
                let noted : noted_in node_kind net node m ≡ [] =
                ap (λ (o : Option (Acted NodeState)). option_map_or (λ (b : Acted NodeState). node_kind.notes (queues_after node_kind net m) b.state) o []) there.at ∙ none in
                subst (All (IsOfItem m node)) (sym noted) (All-nil (IsOfItem m node))
          ]

  module _ (n : ℕ) where
    pub belongs : All (IsOf (transactions_of net forms)) (events_after n net)
    belongs =
        all-events net (IsOf (transactions_of net forms)) n (λ m less node.
        All-weaker (IsOfItem m node) (λ (a : Access). IsOf (transactions_of net forms) (event_of (suc m) node a))
        (λ a of. any-transaction net forms (λ (t : Transaction). (t.number ≡ a.number) × (t.write ≡ a.write) × (t.target ≡ node)) of.manager of.s of.own.is of.place of.item of.own.at (of.same_number, of.direction, of.target))
        (noted_in node_kind net node m) (of-item m node))

    pub issue-before_event : All (λ (e : Event). IsIssuedBefore (issues_after n net) e.number e.round) (events_after n net)
    issue-before_event =
        all-events net (λ (e : Event). IsIssuedBefore (issues_after n net) e.number e.round) n (λ m less node.
        All-weaker (IsOfItem m node) (λ (a : Access). IsIssuedBefore (issues_after n net) a.number (suc m))
        (λ a of.
        let stays = issue-stays net forms sound of.manager of.s of.own.is of.place m n (omega arith) of.issued in
        let past = (manager-keeps net forms sound of.manager of.s of.own.is m).in_order.issues_past of.place in
        let issued = of.issued in
        any-issued net forms sound n (λ (i : Issue). (i.number ≡ a.number) × (i.round < suc m)) of.manager of.s of.place of.item of.own (omega arith) (of.same_number, omega arith))
        (noted_in node_kind net node m) (of-item m node))
