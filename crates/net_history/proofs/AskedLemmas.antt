-- What is accessed was asked for: an access is of a transaction of a manager that was issued before, and whose way ends at the
-- memory.
use Rattle.std.proofs.Common.{◌≡◌, ◌<◌, ◌==◌, [], ◌∷◌, ◌++◌, ℕ, zero, suc, Bool, true, false, List, Option, Some, None, cond, length, refl, sym, ap, ◌∙◌, subst, inl, inr, arith}
use Rattle.std.specs.Prelude.{All, Contains, IsTrue, filter, find, flat_map, get_or, ◌&&◌, map, slice_get, take, unwrap_or}
use Rattle.std.specs.List.{list_any, range_with_len}
use Rattle.std.specs.Option.{option_map_or}
use Rattle.std.proofs.lemmas.Bool.{and_from, cases_Bool, cases_eq, eq-eqb, eqb-true}
use Rattle.axi_beats.specs.Lanes.{Span}
use Rattle.memory_node.specs.Beats.{stored_bytes}
use Rattle.subordinate.specs.Parts.{BeatOf, beats_of_parts, beats_with_data}
use Rattle.std.proofs.lemmas.List.{length-map}
use Rattle.std.proofs.lemmas.List.Elements.{All-contains, All-head, All-map, All-tail, All-weaker, Contains-append_cases}
use Rattle.std.proofs.lemmas.List.Folds.{Any-from_list_any, list_any_at}
use Rattle.std.proofs.lemmas.Option.{none-some, same_Some}
use Rattle.axi_beats.specs.declared.beat.Addr.{Addr}
use Rattle.axi_beats.specs.declared.beat.WBeat.{WBeat}
use Rattle.axi_link.specs.declared.out.Out.{Out}
use Rattle.axi_trail.proofs.IdFacts.{answers_have_requests}
use Rattle.axi_trail.proofs.SlackFacts.{asked_through_link}
use Rattle.axi_trail.specs.LinkContracts.{Asks}
use Rattle.axi_trail.specs.Schedule.{Share, no_share}
use Rattle.axi_trail.specs.Trail.{Beats, trail_above}
use Rattle.axi_trail.specs.Words.{Asked, Reply, burst_asked, number_of_address, number_of_data, number_of_read_data, read_reply}
use Rattle.manager_node.proofs.PlaceLemmas.{direction-at}
use Rattle.manager_node.specs.Beats.{item_request}
use Rattle.manager_node.specs.ManagerState.{ManagerState, issued_of, of_direction}
use Rattle.manager_node.specs.ManagerTrail.{has_issued, item_origin}
use Rattle.manager_node.specs.Script.{ScriptItem}
use Rattle.memory_node.specs.Accesses.{accesses_of, due_writes}
use Rattle.memory_node.specs.WantedReads.{wanted_addresses, wanted_due}
use Rattle.memory_node.specs.Events.{Access}
use Rattle.memory_node.specs.MemoryArea.{MemoryArea}
use Rattle.memory_node.specs.MemoryState.{MemoryState}
use Rattle.net_history.proofs.EndLemmas.{end-at}
use Rattle.net_history.proofs.ItemLemmas.{grows-itself, link-run, now, schedules}
use Rattle.net_history.proofs.ManagerRuns.{IsManagerAt, at-run, from-first, has-origin, lower-is, manager-keeps, manager_run, note_after, own-link, run-keeps, script-is}
use Rattle.net_history.proofs.MemoryRuns.{IsMemoryAt, ends-here, memory-keeps, memory_run, upper-link, wanted_by}
use Rattle.net_history.proofs.RoundLemmas.{IsItem}
use Rattle.net_history.proofs.RunStates.{acted_as, run_state, stands-at}
use Rattle.net_history.specs.Due.{way_end, way_target}
use Rattle.net_kinds.specs.NodeHolds.{node_holds}
use Rattle.net_kinds.specs.NodeKind.{KindName, NodeState, StateOf, node_kind}
use Rattle.net_kinds.specs.NodeKind.KindName.{ADemux, ALite, ALiteMemory, AManager, AMemory, AMux, ARemap, ASlice, ASplit, AnError, AnUp}
use Rattle.net_model.specs.Network.{Network, lower_node, upper_node}
use Rattle.net_runs.specs.Run.{chosen, lower_end, nodes_after, noted_by, passed_by, queues_after, upper_end}
use Rattle.net_history.proofs.ShownLemmas.{beq-itself, beq-true}
use Rattle.net_ways.proofs.OriginLemmas.{not-carried}
use Rattle.net_ways.specs.Known.{known_at, nothing_known}
use Rattle.net_ways.specs.Sound.{IsSound}
use Rattle.net_ways.specs.Ways.{carried, is_origin, origins_in}
use Rattle.node_core.specs.Acted.{Acted}
use Rattle.node_shape.specs.LinkForm.{LinkForm}
use Rattle.node_shape.specs.Way.{Origin}
use Rattle.plain_lists.proofs.CutLemmas.{all-unmap, contains-map}
use Rattle.plain_lists.proofs.KeyLemmas.{of_key-skip}
use Rattle.plain_lists.proofs.PlaceLemmas.{at-contains, contains-at, find-has, map-from, take-from}
use Rattle.plain_lists.specs.Keys.{of_key}
use Rattle.subordinate.specs.Tracks.{len_of_address}
use Rattle.axi_trail.specs.Waiting.{beats_by}
use Rattle.std.proofs.lemmas.Bool.{and_parts}
use Rattle.std.specs.Bool.{beq}

-- the addresses of a direction, and whether one of a transaction is among them
abbrev pub asked_on : Bool → Beats → List Addr
asked_on write beats = cond write beats.aw beats.ar

abbrev pub is_asked : Bool → ℕ → Beats → Bool
is_asked write number beats = list_any (λ (a : Addr). number_of_address a == number) (asked_on write beats)

-- each of them is
all-asked : (write : Bool) (beats : Beats) → All (λ (a : Addr). is_asked write (number_of_address a) beats ≡ true) (asked_on write beats)
all-asked write beats k d lt =
    let a = get_or (asked_on write beats) k d in
    list_any_at (λ (x : Addr). number_of_address x == number_of_address a) (asked_on write beats) k d lt (eq-eqb (number_of_address a) (number_of_address a) refl)

-- what holds of the key of each element holds of a key that one has
some-of_key : {X : Type 0} (P : ℕ → Type 0) (key_of : X → ℕ) (key : ℕ) (xs : List X) → All (λ x. P (key_of x)) xs → 0 < length (of_key key_of key xs) → P key
some-of_key P key_of key [] all some = absurd (omega (arith, some))
some-of_key P key_of key (x ∷ xs) all some = elim (cases_eq (key_of x) key) [
  | inl same ↦ subst P same (All-head (λ y. P (key_of y)) x xs all)
  | inr other ↦
      some-of_key P key_of key xs (All-tail (λ y. P (key_of y)) x xs all) (subst (λ (ys : List _). 0 < length ys) (of_key-skip key_of key x xs other) some)
]

some-beats : (addresses : List Addr) → 0 < beats_by len_of_address addresses → 0 < length addresses
some-beats [] some = some
some-beats (a ∷ addresses) some = omega arith

pub some-all : {X : Type 0} (test : X → Bool) (xs : List X) (x : X) → Contains xs x → test x ≡ true → 0 < length (filter test xs)
some-all test [] x among passes = absurd (omega (arith, among.1))
some-all test (y ∷ ys) x (zero, within, same) passes =
    let is : y ≡ x = same in
    subst (λ (b : Bool). 0 < length (cond b (y ∷ filter test ys) (filter test ys))) (sym (ap test is ∙ passes)) (omega arith)
some-all test (y ∷ ys) x (suc k, within, same) passes =
    let rest = some-all test ys x (k, omega (arith, within), same) passes in
    let go : (b : Bool) → 0 < length (cond b (y ∷ filter test ys) (filter test ys)) = λ b. elim b as (λ b. 0 < length (cond b (y ∷ filter test ys) (filter test ys))) [ true ↦ omega arith | false ↦ rest ] in
    go (test y)

-- of no beat, and where nothing is carried, nothing is accessed
some-count : {X Y : Type 0} (f : X → List Y) (count : ℕ) (xs : List X) → 0 < length (flat_map f (take count xs)) → (0 < count) × (0 < length xs)
some-count f zero xs some = absurd (omega (arith, some))
some-count f (suc count) [] some = absurd (omega (arith, some))
some-count f (suc count) (x ∷ xs) some = (omega arith, omega arith)

-- ---- what is known as issued is noted by a manager

module _ (net : Network NodeState) (forms : ℕ → LinkForm) (sound : IsSound node_kind net forms) where
  -- a transaction of a number, which was issued in so many rounds
  pub record IsIssuedBy (m number : ℕ) : Type 0 where
    pub node : ℕ
    pub s : ManagerState
    pub place : ℕ
    pub item : ScriptItem
    pub own : IsItem net node s place item
    pub same_number : item.txn.number ≡ number
    pub issued : 0 < (note_after net s m place).issued

  module _ (m number node : ℕ) (s : ManagerState) (is : IsManagerAt net node s) where
    -- an address of this number that the manager has put is of a transaction of its script
    put-by : (write : Bool) (addresses : List Addr) → addresses ≡ map (λ (p : ℕ × ScriptItem). item_request p.1) (take (issued_of write (manager_run net s m)) (of_direction write (manager_run net s m).script)) →
        ((place : ℕ) (item : ScriptItem) → slice_get s.script place ≡ Some item → item.txn.write ≡ write → Contains (map number_of_address addresses) item.txn.number → 0 < (note_after net s m place).issued) →
        Contains (map number_of_address addresses) number → IsIssuedBy m number
    put-by write addresses are noted among =
        let taken = take (issued_of write (manager_run net s m)) (of_direction write (manager_run net s m).script) in
        let there = at-contains (map number_of_address addresses) number among in
        let address = map-from number_of_address addresses there.0 number there.1 in
        let from = map-from (λ (p : ℕ × ScriptItem). item_request p.1) taken there.0 address.0 (ap (λ (xs : List Addr). slice_get xs there.0) (sym are) ∙ address.1) in
        let at = take-from (issued_of write (manager_run net s m)) (of_direction write (manager_run net s m).script) there.0 from.0 from.1 in
        let placed = direction-at write (manager_run net s m).script there.0 from.0 at.1 in
        let first : slice_get s.script from.0.0 ≡ Some from.0.1 = ap (λ (items : List ScriptItem). slice_get items from.0.0) (sym (script-is net forms sound node s is m)) ∙ placed.0 in
        let same : from.0.1.txn.number ≡ number = ap number_of_address from.2 ∙ address.2 in
        record {
          node = node;
          s = s;
          place = from.0.0;
          item = from.0.1;
          own = record { is = is; at = first };
          same_number = same;
          issued = noted from.0.0 from.0.1 first placed.1 (subst (λ (t : ℕ). Contains (map number_of_address addresses) t) (sym same) among);
        }

    manager-issued : IsTrue (has_issued (upper_end node_kind net s.lower m) number) → IsIssuedBy m number
    manager-issued known =
        let trail = upper_end node_kind net s.lower m in
        let keeps = manager-keeps net forms sound node s is m in
        let some = Any-from_list_any (λ (a : Addr). number_of_address a == number) (trail.aw ++ trail.ar) known in
        let same : number_of_address some.1 ≡ number = eqb-true (number_of_address some.1) number some.4 in
        elim (Contains-append_cases trail.aw trail.ar some.1 (some.0, some.2, some.3)) [
          | inl in_aw ↦ put-by true trail.aw keeps.passed.aw
              (λ place item at writes among. (keeps.passed.write_notes place item (at-run net forms sound node s is m place item at) writes).issued.1 among)
              (subst (λ (t : ℕ). Contains (map number_of_address trail.aw) t) same (contains-map number_of_address trail.aw some.1 in_aw))
          | inr in_ar ↦ put-by false trail.ar keeps.passed.ar
              (λ place item at reads among. (keeps.passed.read_notes place item (at-run net forms sound node s is m place item at) reads).issued.1 among)
              (subst (λ (t : ℕ). Contains (map number_of_address trail.ar) t) same (contains-map number_of_address trail.ar some.1 in_ar))
        ]

  pub issued-by : (m number : ℕ) → IsTrue ((now net forms sound m).issued number) → IsIssuedBy m number
  issued-by m number known =
      let some = Any-from_list_any (λ (node : ℕ). (known_at node_kind net (schedules net forms sound) m node).issued number) (range_with_len 0 (length net.nodes)) known in
      at-node some.1 some.4
    where
      of-kind : (k : ℕ) (name : KindName) (s : StateOf name) (out : Out) → slice_get net.nodes k ≡ Some (acted_as name s out) →
          (node_kind.knows (schedules net forms sound) (record { kind = name; state = run_state net name s m }) (passed_by node_kind net k m)).issued number ≡ true → IsIssuedBy m number
      of-kind k AManager s out at is =
          let here : IsManagerAt net k s = record { out = out; at = at } in
          manager-issued m number k s here
          (subst (λ (j : ℕ). IsTrue (has_issued (trail_above (chosen node_kind net j) (queues_after node_kind net) m s.lower) number)) (sym (own-link net forms sound k s here).1)
          (subst (λ (l : ℕ). IsTrue (has_issued (trail_above (chosen node_kind net k) (queues_after node_kind net) m l) number)) (lower-is net forms sound k s here m) is))
      of-kind k ASlice s out at is = absurd (cc)
      of-kind k AMemory s out at is = absurd (cc)
      of-kind k ALiteMemory s out at is = absurd (cc)
      of-kind k AMux s out at is = absurd (cc)
      of-kind k AnError s out at is = absurd (cc)
      of-kind k ADemux s out at is = absurd (cc)
      of-kind k ARemap s out at is = absurd (cc)
      of-kind k AnUp s out at is = absurd (cc)
      of-kind k ASplit s out at is = absurd (cc)
      of-kind k ALite s out at is = absurd (cc)

      at-some_node : (k : ℕ) (o : Option (Acted NodeState)) → slice_get (nodes_after node_kind net m) k ≡ o →
          (option_map_or (λ (a : Acted NodeState). node_kind.knows (schedules net forms sound) a.state (passed_by node_kind net k m)) o nothing_known).issued number ≡ true → IsIssuedBy m number
      at-some_node k None none is = absurd (cc)
      at-some_node k (Some a) at is =
          let first = from-first net m k a at in
          let there = stands-at net k first.0.state.kind first.0.state.state first.0.out first.1 m in
          let same : a ≡ acted_as first.0.state.kind (run_state net first.0.state.kind first.0.state.state m) there.out = same_Some a _ (sym at ∙ there.at) in
          of-kind k first.0.state.kind first.0.state.state first.0.out first.1
          (subst (λ (b : Acted NodeState). (node_kind.knows (schedules net forms sound) b.state (passed_by node_kind net k m)).issued number ≡ true) same is)

      at-node : (k : ℕ) → (known_at node_kind net (schedules net forms sound) m k).issued number ≡ true → IsIssuedBy m number
      at-node k is = at-some_node k (slice_get (nodes_after node_kind net m) k) refl is

  -- ---- what a memory accesses was asked for on its link

  module _ (k : ℕ) (c : MemoryState) (is : IsMemoryAt net k c) (m : ℕ) where
    abbrev link : ℕ
    link = c.inner.upper

    abbrev seen : Beats
    seen = lower_end node_kind net link (suc m)

    asked-below : Asks (schedules net forms sound link) (now net forms sound m) seen
    asked-below =
        let known = (upper-link net forms sound k c is).0 in
        (asked_through_link (schedules net forms sound link) (now net forms sound m) (now net forms sound m) link (queues_after node_kind net) (chosen node_kind net (upper_node net.links link)) (chosen node_kind net (lower_node net.links link))
        (grows-itself (now net forms sound m)) (link-run net forms sound link known) m ((run-keeps net forms sound m).asked link known)).2

    -- what holds of the number of each address holds of that of data, and of that of an answer
    module _ (Known : ℕ → Type 0) where
      data-known : All (λ (a : Addr). Known (number_of_address a)) seen.aw → (t : ℕ) → 0 < length (of_key number_of_data t seen.w) → Known t
      data-known all t some =
          let own = (memory-keeps net forms sound k c is (suc m)).order.writes.own t in
          some-of_key Known number_of_address t seen.aw all (some-beats (of_key number_of_address t seen.aw) (omega (arith, own.addresses_first, some)))

      answer-known : All (λ (a : Addr). Known (number_of_address a)) seen.ar → (t : ℕ) → 0 < length (of_key number_of_read_data t seen.r) → Known t
      answer-known all t some =
          let each = answers_have_requests (map burst_asked seen.ar) (map read_reply seen.r) (memory-keeps net forms sound k c is (suc m)).order.reads.in_order_of_id in
          let asked : All (λ (a : Asked). Known a.number) (map burst_asked seen.ar) = All-map (λ (a : Asked). Known a.number) burst_asked seen.ar all in
          some-of_key Known number_of_read_data t seen.r
          (all-unmap (λ (p : Reply). Known p.number) read_reply seen.r
          (All-weaker (λ (p : Reply). (a : Asked) × Contains (map burst_asked seen.ar) a × (a.id ≡ p.id) × (a.number ≡ p.number)) (λ (p : Reply). Known p.number)
          (λ p has. subst Known has.3 (All-contains (λ (a : Asked). Known a.number) (map burst_asked seen.ar) has.0 asked has.1)) (map read_reply seen.r) each)) some

    -- the manager's transaction of a number that the link carries goes its way, which ends with this link
    of-carried : (write : Bool) (t : ℕ) (by : IsIssuedBy m t) (share : Share) → carried node_kind net write link t ≡ Some share →
        (by.item.txn.write ≡ write) × ((way_end net forms (item_origin by.s.bus by.s.lower by.item)).link ≡ link)
    of-carried write t by share there = go (find (is_origin write t) (origins_in node_kind net.nodes)) refl
      where
        go : (o : Option Origin) → find (is_origin write t) (origins_in node_kind net.nodes) ≡ o → (by.item.txn.write ≡ write) × ((way_end net forms (item_origin by.s.bus by.s.lower by.item)).link ≡ link)
        go None none = absurd (none-some share (sym (not-carried node_kind node_holds net forms sound write t link none) ∙ there))
        go (Some other) found =
            let origin = item_origin by.s.bus by.s.lower by.item in
            let among = has-origin net forms sound by.node by.s by.own.is by.item (contains-at by.s.script by.place by.item by.own.at) in
            let has = find-has (is_origin write t) (origins_in node_kind net.nodes) other found in
            let parts = and_parts (beq other.write write) (other.number == t) has.0 in
            let one = sound.once origin other among (contains-at (origins_in node_kind net.nodes) has.1 other has.2) (by.same_number ∙ sym (eqb-true other.number t parts.1)) in
            let direction : by.item.txn.write ≡ write = ap (λ (o : Origin). o.write) one ∙ beq-true other.write write parts.0 in
            let comes : carried node_kind net by.item.txn.write link by.item.txn.number ≡ Some share =
            ap (λ (b : Bool). carried node_kind net b link by.item.txn.number) direction ∙ ap (carried node_kind net write link) by.same_number ∙ there in
            let here = upper-link net forms sound k c is in
            (direction, end-at net forms sound origin among link share comes (ends-here net forms sound k c is link here.1 share))

    some-writes : (area : MemoryArea) (count : ℕ) (o : Option Share) → 0 < length (due_writes area (unwrap_or o no_share) count) → (0 < count) × (share : Share) × (o ≡ Some share)
    some-writes area count None some = absurd (omega (arith, (some-count (λ (b : BeatOf × WBeat). stored_bytes area b.0.request b.0.beat b.1) count [] some).1))
    some-writes area count (Some share) some = ((some-count (λ (b : BeatOf × WBeat). stored_bytes area b.0.request b.0.beat b.1) count (beats_with_data share) some).0, share, refl)

    some-reads : (area : MemoryArea) (wanted : BeatOf → Span) (count : ℕ) (o : Option Share) → 0 < length (wanted_due area wanted (unwrap_or o no_share) count) → (0 < count) × (share : Share) × (o ≡ Some share)
    some-reads area wanted count None some = absurd (omega (arith, (some-count (wanted_addresses area wanted) count [] some).1))
    some-reads area wanted count (Some share) some = ((some-count (wanted_addresses area wanted) count (beats_of_parts share.parts) some).0, share, refl)

    -- an access is of a transaction of a manager, which was issued by the round before, and ends here, where its request stands
    -- after the round
    pub record IsAskedBy (a : Access) : Type 0 where
      pub by : IsIssuedBy m a.number
      pub direction : by.item.txn.write ≡ a.write
      pub target : way_target net forms (item_origin by.s.bus by.s.lower by.item) ≡ k
      pub asked : is_asked a.write a.number (lower_end node_kind net (way_end net forms (item_origin by.s.bus by.s.lower by.item)).link (suc m)) ≡ true

    asked-as : (write : Bool) (a : Access) → a.write ≡ write → IsTrue ((now net forms sound m).issued a.number) → is_asked write a.number seen ≡ true →
        (share : Share) → carried node_kind net write link a.number ≡ Some share → IsAskedBy a
    asked-as write a direction known asked share there =
        let by = issued-by m a.number known in
        let its = of-carried write a.number by share there in
        record {
          by = by;
          direction = its.0 ∙ sym direction;
          target = ap (lower_node net.links) its.1 ∙ (upper-link net forms sound k c is).1;
          asked = subst (λ (l : ℕ). is_asked a.write a.number (lower_end node_kind net l (suc m)) ≡ true) (sym its.1)
              (subst (λ (b : Bool). is_asked b a.number seen ≡ true) (sym direction) asked);
        }

    abbrev Issued : ℕ → Type 0
    Issued t = IsTrue ((now net forms sound m).issued t)

    test-passes : (write : Bool) (a : Access) → a.write ≡ write → (beq a.write write && a.number == a.number) ≡ true
    test-passes write a direction = and_from (beq a.write write) (a.number == a.number) (ap (λ (b : Bool). beq b write) direction ∙ beq-itself write) (eq-eqb a.number a.number refl)

    pub asked-by : (a : Access) → Contains (noted_by node_kind net k (suc m)) a → IsAskedBy a
    asked-by a among =
        let all = noted_by node_kind net k (suc m) in
        let accessed = (memory-keeps net forms sound k c is (suc m)).accessed in
        let area = (memory_run net c (suc m)).area in
        elim (cases_Bool a.write) [
          | inl writes ↦
              let some = some-all (λ (x : Access). beq x.write true && x.number == a.number) all a among (test-passes true a writes) in
              let due = some-writes area (length (of_key number_of_data a.number seen.w)) (carried node_kind net true link a.number)
              (omega (arith, some, ap length (accessed.written a.number), length-map (accesses_of true a.number all) (λ (x : Access). x.byte))) in
              asked-as true a writes (data-known Issued asked-below.writes.was_issued a.number due.0)
              (data-known (λ (t : ℕ). is_asked true t seen ≡ true) (all-asked true seen) a.number due.0) due.1 due.2
          | inr reads ↦
              let some = some-all (λ (x : Access). beq x.write false && x.number == a.number) all a among (test-passes false a reads) in
              let due = some-reads area (wanted_by is.lite area) (length (of_key number_of_read_data a.number seen.r)) (carried node_kind net false link a.number)
              (omega (arith, some, ap length (accessed.read a.number), length-map (accesses_of false a.number all) (λ (x : Access). x.byte.address))) in
              asked-as false a reads (answer-known Issued asked-below.reads.was_issued a.number due.0)
              (answer-known (λ (t : ℕ). is_asked false t seen ≡ true) (all-asked false seen) a.number due.0) due.1 due.2
        ]
