-- The accesses of the transactions of one manager, ID and direction come in order.
use Rattle.std.proofs.Common.{◌≡◌, ◌≢◌, ◌<◌, ◌≤◌, ◌==◌, ◌&&◌, [], ◌∷◌, ◌++◌, ℕ, zero, suc, Bool, true, false, List, Some, length, refl, sym, ap, ◌∙◌, subst, inl, inr, arith}
use Rattle.std.specs.Prelude.{◌⊎◌, All, get_or, map, slice_get}
use Rattle.std.specs.Bool.{beq}
use Rattle.std.proofs.lemmas.Bool.{and_from, cases_Bool, eq-eqb}
use Rattle.std.proofs.lemmas.List.{map-append}
use Rattle.std.proofs.lemmas.List.Elements.{All-append, All-weaker}
use Rattle.std.proofs.lemmas.Option.{slice_get-get_or}
use Rattle.axi_history.specs.Answered.{AreAccessedInOrder, OfEachTwo}
use Rattle.axi_history.specs.Records.{Event, events_of}
use Rattle.axi_trail.specs.Schedule.{Share}
use Rattle.manager_node.specs.ManagerState.{ManagerState}
use Rattle.manager_node.specs.Script.{ScriptItem}
use Rattle.memory_node.specs.Accesses.{accesses_of}
use Rattle.memory_node.specs.Events.{Access}
use Rattle.memory_node.specs.MemoryState.{MemoryState}
use Rattle.net_history.proofs.AskedLemmas.{is_asked, some-all}
use Rattle.net_history.proofs.BelongLemmas.{IsOfItem, of-item}
use Rattle.net_history.proofs.ComeLemmas.{come-before}
use Rattle.net_history.proofs.DemuxLemmas.{answers-apart}
use Rattle.net_history.proofs.DoneLemmas.{all-early}
use Rattle.net_history.proofs.EndLemmas.{end-is}
use Rattle.net_history.proofs.EventLemmas.{all-events, all-nodes, events-noted, node_of_event}
use Rattle.net_history.proofs.ItemLemmas.{among, origin}
use Rattle.net_history.proofs.ManagerRuns.{IsManagerAt, one-state}
use Rattle.net_history.proofs.MemoryRuns.{IsMemoryAt, memory-keeps}
use Rattle.net_history.proofs.PartLemmas.{EndAsOne, Part, demux-goes, one-or_part}
use Rattle.net_history.proofs.RoundLemmas.{IsItem, of-each_two}
use Rattle.net_history.proofs.ShownLemmas.{access_of_event, beq-itself}
use Rattle.net_history.proofs.TargetLemmas.{IsThere, ends-at, events-there, no-events, share-read, share-written, target}
use Rattle.net_history.specs.Due.{last_hop, transactions_of, way_end}
use Rattle.net_history.specs.History.{event_of, events_after, nodes_events}
use Rattle.net_kinds.specs.NodeHolds.{node_holds}
use Rattle.net_kinds.specs.NodeKind.{NodeState, node_kind}
use Rattle.net_model.specs.Network.{Network, lower_node}
use Rattle.net_runs.specs.Run.{lower_end, nodes_after, noted_by, noted_in, queues_after}
use Rattle.net_ways.proofs.OriginLemmas.{HasItsWay, is-found, its-way}
use Rattle.net_ways.specs.Sound.{IsSound}
use Rattle.net_ways.specs.Ways.{Hop, carried}
use Rattle.node_shape.specs.LinkForm.{LinkForm}
use Rattle.node_shape.specs.Way.{Origin, with_responses}
use Rattle.plain_lists.proofs.CutLemmas.{contains-map, never-cut}
use Rattle.plain_lists.proofs.KeyLemmas.{of_key-between}
use Rattle.plain_lists.proofs.PartLemmas.{All-behind, All-middle, split_append}
use Rattle.plain_lists.proofs.PlaceLemmas.{contains-at, filter-has}
use Rattle.plain_lists.specs.Keys.{of_key}

-- where a node has noted no access of a transaction, none of these events is of it
none-noted : (write : Bool) (number k : ℕ) (events : List Event) → accesses_of write number (map access_of_event (of_key node_of_event k events)) ≡ [] →
    All (λ (x : Event). x.number ≡ number → (x.node ≡ k) × (x.write ≡ write)) events → All (λ (x : Event). x.number ≢ number) events
none-noted write number k events none where_is i d within is =
    let x = get_or events i d in
    let place = where_is i d within is in
    let test : Access → Bool = λ a. beq a.write write && a.number == number in
    let here = filter-has (λ (y : Event). y.node == k) events i x (slice_get-get_or events i d within) (eq-eqb x.node k place.0) in
    let noted = contains-map access_of_event (of_key node_of_event k events) x (contains-at (of_key node_of_event k events) here.0 x here.1) in
    let some = some-all test (map access_of_event (of_key node_of_event k events)) (access_of_event x) noted
    (and_from (beq x.write write) (x.number == number) (ap (λ (b : Bool). beq b write) place.1 ∙ beq-itself write) (eq-eqb x.number number is)) in
    omega (arith, some, ap length none)

module _ (net : Network NodeState) (forms : ℕ → LinkForm) (sound : IsSound node_kind net forms) where
  -- ---- events come by their rounds

  past-rounds : (n : ℕ) → All (λ (e : Event). e.round ≤ n) (events_after n net)
  past-rounds n =
      all-events net (λ (e : Event). e.round ≤ n) n (λ m less node.
      All-weaker (IsOfItem net forms sound m node) (λ (a : Access). suc m ≤ n) (λ a of. omega (arith, less)) (noted_in node_kind net node m) (of-item net forms sound m node))

  abbrev new : ℕ → List Event
  new n = nodes_events (suc n) (queues_after node_kind net n) 0 (nodes_after node_kind net n)

  new-round : (n : ℕ) → All (λ (e : Event). e.round ≡ suc n) (new n)
  new-round n = all-nodes net (λ (e : Event). e.round ≡ suc n) (suc n) (queues_after node_kind net n) 0 (nodes_after node_kind net n) (λ k a at i d lt. refl)

  later-rounds : (n : ℕ) (earlier later : List Event) (e : Event) → events_after n net ≡ earlier ++ e ∷ later → All (λ (x : Event). e.round ≤ x.round) later
  later-rounds zero earlier later e are = absurd (never-cut earlier e later are)
  later-rounds (suc n) earlier later e are =
      let Later : Event → Type 0 = λ x. e.round ≤ x.round in
      elim (split_append (events_after n net) (new n) earlier e later are) [
        | inl before ↦
            let past = All-middle (λ (x : Event). x.round ≤ n) earlier e before.0 (subst (All (λ (x : Event). x.round ≤ n)) before.1 (past-rounds n)) in
            subst (All Later) (sym before.2)
            (All-append Later before.0 (new n) (later-rounds n earlier before.0 e before.1)
            (All-weaker (λ (x : Event). x.round ≡ suc n) Later (λ x is. omega (arith, is, past)) (new n) (new-round n)))
        | inr after ↦
            let rounds = subst (All (λ (x : Event). x.round ≡ suc n)) after.1 (new-round n) in
            let here = All-middle (λ (x : Event). x.round ≡ suc n) after.0 e later rounds in
            All-weaker (λ (x : Event). x.round ≡ suc n) Later (λ x is. omega (arith, is, here)) later (All-behind (λ (x : Event). x.round ≡ suc n) after.0 e later rounds)
      ]

  -- ---- two transactions of a manager

  module _ (node : ℕ) (s : ManagerState) (p q : ℕ) (t u : ScriptItem) (own : IsItem net node s p t) (other : IsItem net node s q u) (id : t.txn.request.id ≡ u.txn.request.id) (direction : t.txn.write ≡ u.txn.write) (less : t.txn.number < u.txn.number) where
    abbrev one : Origin
    one = origin net forms sound node s p t own

    abbrev second : Origin
    second = origin net forms sound node s q u other

    -- where the later one ends
    abbrev end_node : ℕ
    end_node = target net forms sound node s q u other

    abbrev its : HasItsWay node_kind node_holds net forms sound t.txn.write t.txn.number one
    its = its-way node_kind node_holds net forms sound t.txn.write t.txn.number one (is-found node_kind node_holds net forms sound one (among net forms sound node s p t own))

    abbrev others : HasItsWay node_kind node_holds net forms sound u.txn.write u.txn.number second
    others = its-way node_kind node_holds net forms sound u.txn.write u.txn.number second (is-found node_kind node_holds net forms sound second (among net forms sound node s q u other))

    abbrev first : Hop
    first = record { link = s.lower; share = with_responses one.share its.responses }

    abbrev first_other : Hop
    first_other = record { link = s.lower; share = with_responses second.share others.responses }

    meet : EndAsOne net forms sound (last_hop first its.more) (last_hop first_other others.more) ⊎ Part net forms sound (first ∷ its.more) (first_other ∷ others.more)
    meet =
        one-or_part net forms sound t.txn.write u.txn.write first first_other its.more others.more its.starts.known its.joined others.joined refl
        (ap (λ (k : ℕ). s.lower ∷ k ∷ []) id)

    -- the round of an access of the later one: after it the request has come where its way ends
    pub record ComesIn (e : Event) : Type 0 where
      pub before : ℕ
      pub round : e.round ≡ suc before
      pub come : is_asked u.txn.write u.txn.number (lower_end node_kind net (way_end net forms second).link (suc before)) ≡ true

    comes-in : (n : ℕ) → All (λ (e : Event). e.number ≡ u.txn.number → ComesIn e) (events_after n net)
    comes-in n =
        all-events net (λ (e : Event). e.number ≡ u.txn.number → ComesIn e) n (λ m below k.
        All-weaker (IsOfItem net forms sound m k) (λ (a : Access). a.number ≡ u.txn.number → ComesIn (event_of (suc m) k a))
        (λ a of same.
        let mine = origin net forms sound of.manager of.s of.place of.item of.own in
        let one_origin : mine ≡ second =
        sound.once mine second (among net forms sound of.manager of.s of.place of.item of.own) (among net forms sound node s q u other) (of.same_number ∙ same) in
        let write : a.write ≡ u.txn.write = sym of.direction ∙ ap (λ (o : Origin). o.write) one_origin in
        record {
          before = m;
          round = refl;
          come = subst (λ (o : Origin). is_asked u.txn.write u.txn.number (lower_end node_kind net (way_end net forms o).link (suc m)) ≡ true) one_origin
              (subst (λ (b : Bool). is_asked b u.txn.number (lower_end node_kind net (way_end net forms mine).link (suc m)) ≡ true) write
              (subst (λ (k : ℕ). is_asked a.write k (lower_end node_kind net (way_end net forms mine).link (suc m)) ≡ true) same of.asked));
        })
        (noted_in node_kind net k m) (of-item net forms sound m k))

    module _ (n : ℕ) (earlier later : List Event) (e : Event) (are : events_after n net ≡ earlier ++ e ∷ later) (same : e.number ≡ u.txn.number) where
      -- ---- where they part, all of the earlier one is done before

      part-in_order : Part net forms sound (first ∷ its.more) (first_other ∷ others.more) → All (λ (x : Event). x.number ≢ t.txn.number) later
      part-in_order part =
          let comes : carried node_kind net t.txn.write part.link t.txn.number ≡ Some part.one = its.is part.link ∙ part.here in
          let follows : carried node_kind net u.txn.write part.link u.txn.number ≡ Some part.other = others.is part.link ∙ part.there in
          let in_round = All-middle (λ (x : Event). x.number ≡ u.txn.number → ComesIn x) earlier e later (subst (All (λ (x : Event). x.number ≡ u.txn.number → ComesIn x)) are (comes-in n)) same in
          let come = come-before net forms sound second (among net forms sound node s q u other) in_round.before in_round.come part.link _ part.other follows (demux-goes net forms sound part.link part.go_apart.demux part.go_apart.is part.other) in
          let answers =
          answers-apart net forms sound node s p t own part.link part.known part.go_apart.demux part.go_apart.is in_round.before u.txn.number part.one part.other comes
          (ap (λ (b : Bool). carried node_kind net b part.link u.txn.number) direction ∙ follows) less part.chain part.go_apart.apart
          (subst (λ (b : Bool). is_asked b u.txn.number (lower_end node_kind net part.link in_round.before) ≡ true) (sym direction) come) in
          let Early : Event → Type 0 = λ x. x.number ≡ t.txn.number → x.round < suc in_round.before in
          let early = All-behind Early earlier e later (subst (All Early) are (all-early net forms sound node s p t own in_round.before answers n)) in
          let rounds = later-rounds n earlier later e are in
          λ k d within is. omega (arith, early k d within is, rounds k d within, in_round.round)

      -- ---- where they end as one, its memory keeps the order

      ends-one : EndAsOne net forms sound (last_hop first its.more) (last_hop first_other others.more) → EndAsOne net forms sound (way_end net forms one) (way_end net forms second)
      ends-one end =
          let here = end-is net forms sound one (among net forms sound node s p t own) in
          let there = end-is net forms sound second (among net forms sound node s q u other) in
          record {
            link = ap (λ (h : Hop). h.link) here ∙ end.link ∙ sym (ap (λ (h : Hop). h.link) there);
            chain = ap (λ (h : Hop). h.share.chain) here ∙ end.chain ∙ sym (ap (λ (h : Hop). h.share.chain) there);
          }

      -- so no access of the earlier one follows
      memory-in_order : EndAsOne net forms sound (way_end net forms one) (way_end net forms second) → (c : MemoryState) → IsMemoryAt net end_node c → All (λ (x : Event). x.number ≢ t.txn.number) later
      memory-in_order end c is =
          let here : IsMemoryAt net (target net forms sound node s p t own) c = subst (λ (l : ℕ). IsMemoryAt net (lower_node net.links l) c) (sym end.link) is in
          let There : Event → Type 0 = λ x. x.number ≡ u.txn.number → IsThere net forms sound node s q u other x in
          let there = All-middle There earlier e later (subst (All There) are (events-there net forms sound node s q u other n)) same in
          let Before : Event → Type 0 = λ x. x.number ≡ t.txn.number → IsThere net forms sound node s p t own x in
          let before = All-behind Before earlier e later (subst (All Before) are (events-there net forms sound node s p t own n)) in
          let front = map access_of_event (of_key node_of_event end_node earlier) in
          let back = map access_of_event (of_key node_of_event end_node later) in
          let all : noted_by node_kind net end_node n ≡ front ++ access_of_event e ∷ back =
          sym (events-noted net end_node n) ∙ ap (λ (xs : List Event). map access_of_event (of_key node_of_event end_node xs)) are
          ∙ ap (map access_of_event) (subst (λ (k : ℕ). of_key node_of_event k (earlier ++ e ∷ later) ≡ of_key node_of_event k earlier ++ e ∷ of_key node_of_event k later) there.node_is (of_key-between node_of_event earlier e later))
          ∙ map-append access_of_event (of_key node_of_event end_node earlier) (e ∷ of_key node_of_event end_node later) in
          let kept = (memory-keeps net forms sound end_node c is n).accessed in
          let where_is : (write : Bool) → t.txn.write ≡ write → All (λ (x : Event). x.number ≡ t.txn.number → (x.node ≡ end_node) × (x.write ≡ write)) later =
          λ write own_write. λ k d within number. let its_place = before k d within number in (its_place.node_is ∙ ap (lower_node net.links) end.link, its_place.direction ∙ own_write) in
          elim (cases_Bool u.txn.write) [
            | inl writes ↦
                let chain = ap (λ (x : Share). x.chain) (share-written net forms sound node s p t own c here (direction ∙ writes)) ∙ end.chain ∙ sym (ap (λ (x : Share). x.chain) (share-written net forms sound node s q u other c is writes)) in
                none-noted true t.txn.number end_node later (kept.writes_in_order t.txn.number u.txn.number (less, chain) front back (access_of_event e) all (there.direction ∙ writes) same) (where_is true (direction ∙ writes))
            | inr reads ↦
                let chain = ap (λ (x : Share). x.chain) (share-read net forms sound node s p t own c here (direction ∙ reads)) ∙ end.chain ∙ sym (ap (λ (x : Share). x.chain) (share-read net forms sound node s q u other c is reads)) in
                none-noted false t.txn.number end_node later (kept.reads_in_order t.txn.number u.txn.number (less, chain) front back (access_of_event e) all (there.direction ∙ reads) same) (where_is false (direction ∙ reads))
          ]

      one-in_order : EndAsOne net forms sound (way_end net forms one) (way_end net forms second) → All (λ (x : Event). x.number ≢ t.txn.number) later
      one-in_order end = elim (ends-at net forms sound second) [
        | inl memory ↦ memory-in_order end memory.0 memory.1
        | inr quiet ↦
            let number_of : Event → ℕ = λ x. x.number in
            let none : events_of u.txn.number (events_after n net) ≡ [] = no-events net forms sound node s q u other quiet n in
            let some : events_of u.txn.number (events_after n net) ≡ events_of u.txn.number earlier ++ e ∷ events_of u.txn.number later =
            ap (events_of u.txn.number) are ∙ subst (λ (k : ℕ). of_key number_of k (earlier ++ e ∷ later) ≡ of_key number_of k earlier ++ e ∷ of_key number_of k later) same (of_key-between number_of earlier e later) in
            absurd (never-cut (events_of u.txn.number earlier) e (events_of u.txn.number later) (sym none ∙ some))
      ]

      two-in_order : All (λ (x : Event). x.number ≢ t.txn.number) later
      two-in_order = elim meet [
        | inl end ↦ one-in_order (ends-one end)
        | inr part ↦ part-in_order part
      ]

  pub events-in_order : (n : ℕ) → OfEachTwo (transactions_of net forms) (AreAccessedInOrder (events_after n net))
  events-in_order n =
      of-each_two net forms sound n (AreAccessedInOrder (events_after n net)) (λ j k s z p q t u own other order earlier later e are same.
      let there : IsManagerAt net j z = subst (λ (m : ℕ). IsManagerAt net m z) (sym order.manager) other.is in
      let mine : IsItem net j s q u = record { is = own.is; at = ap (λ (m : ManagerState). slice_get m.script q) (one-state net forms sound j s z own.is there) ∙ other.at } in
      two-in_order j s p q t u own mine order.id order.direction order.number n earlier later e are same)
