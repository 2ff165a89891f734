-- The bytes of an answer are those that were read, and 0 where nothing may be read.
use Rattle.std.proofs.Common.{◌≡◌, ◌<◌, ◌+◌, ◌-◌, [], ◌∷◌, ◌++◌, ℕ, zero, suc, Bool, true, false, cond, List, Option, Some, None, ◌==◌, length, refl, sym, ap, ap₂, ◌∙◌, subst, inl, inr, arith, length-append}
use Rattle.std.specs.Prelude.{All, drop, get_or, flat_map, map, replicate, slice_get, slice_range}
use Rattle.std.specs.List.{range_with_len}
use Rattle.std.specs.Option.{option_map_or}
use Rattle.std.proofs.lemmas.List.{length-map}
use Rattle.std.proofs.lemmas.List.Concat.{flat_map-cons}
use Rattle.std.proofs.lemmas.List.Elements.{All-append, All-cons, All-filter, All-head, All-map, All-nil, All-tail, All-take}
use Rattle.std.proofs.lemmas.List.FromFn.{length-range_with_len}
use Rattle.std.proofs.lemmas.Grind.{flat_map-append}
use Rattle.axi_beats.specs.Lanes.{Span}
use Rattle.axi_beats.specs.declared.beat.Addr.{Addr}
use Rattle.axi_beats.specs.declared.beat.RBeat.{RBeat}
use Rattle.axi_history.specs.Answered.{values_of}
use Rattle.axi_history.specs.Records.{NamedByte}
use Rattle.axi_link.specs.declared.out.Out.{Out}
use Rattle.axi_trail.specs.LinkContracts.{Answers}
use Rattle.axi_trail.specs.Schedule.{Share, bytes_on}
use Rattle.axi_trail.specs.Words.{number_of_read_data}
use Rattle.burst_address.specs.Accesses.{answered_bytes}
use Rattle.burst_address.specs.Formulas.{beats_of}
use Rattle.burst_address.specs.Lanes.{valid_span, word_address}
use Rattle.burst_address.specs.Legal.{IsLegal}
use Rattle.lite_memory_node.specs.LiteMemoryTable.{tag_span}
use Rattle.memory_node.specs.Accesses.{accesses_of, beat_span}
use Rattle.memory_node.specs.Events.{Access}
use Rattle.memory_node.specs.MemoryArea.{MemoryArea}
use Rattle.memory_node.specs.MemoryState.{MemoryState}
use Rattle.memory_node.specs.MemoryTrail.{knows_on}
use Rattle.memory_node.specs.WantedReads.{wanted_before}
use Rattle.net_history.proofs.MemoryRuns.{IsMemoryAt}
use Rattle.manager_node.specs.ManagerState.{ManagerState}
use Rattle.manager_node.specs.ManagerTrail.{spans_of}
use Rattle.manager_node.specs.Script.{ScriptItem}
use Rattle.net_history.proofs.DoneLemmas.{all-read, keeps-on}
use Rattle.net_history.proofs.DueLemmas.{is_allowed}
use Rattle.net_history.proofs.EndLemmas.{end-carried, first-carried, first_share}
use Rattle.net_history.proofs.ItemLemmas.{among, answers-above, beat-count, now, origin, own-reads as first-reads, read-note, schedules}
use Rattle.net_history.proofs.ListLemmas.{All-flat}
use Rattle.net_history.proofs.ManagerRuns.{begins, from-first, note_after, own-link, run-keeps}
use Rattle.net_history.proofs.NetTransactions.{due_of}
use Rattle.net_history.proofs.ReadLemmas.{IsSpan, on-long, valid-within}
use Rattle.net_history.proofs.RoundLemmas.{IsItem}
use Rattle.net_history.proofs.RunStates.{acted_as, holds-at, run_state, stands-at}
use Rattle.net_history.proofs.TargetLemmas.{IsQuiet, ends-at, item-values, reads-named_allowed, target}
use Rattle.net_history.proofs.WhereLemmas.{filled-there}
use Rattle.net_history.specs.Due.{bytes_carried, byte_named, wanted_of_beat, way_end}
use Rattle.net_history.specs.History.{events_after}
use Rattle.net_kinds.specs.NodeHolds.{node_holds}
use Rattle.net_kinds.specs.NodeKind.{KindName, NodeState, StateOf, node_kind}
use Rattle.net_kinds.specs.NodeKind.KindName.{ADemux, ALite, ALiteMemory, AManager, AMemory, AMux, ARemap, ASlice, ASplit, AnError, AnUp}
use Rattle.net_model.specs.Network.{Network}
use Rattle.net_runs.specs.Run.{nodes_after, noted_by, passed_by, upper_end}
use Rattle.net_ways.proofs.WayLemmas.{is-carried}
use Rattle.net_ways.specs.Known.{known_at, nothing_known}
use Rattle.net_ways.specs.Sound.{IsSound}
use Rattle.node_core.specs.Acted.{Acted}
use Rattle.node_shape.specs.LinkForm.{LinkForm, bytes_within, lanes_wanted, wanted_lanes, wanted_span}
use Rattle.plain_lists.proofs.PlaceLemmas.{at-all}
use Rattle.plain_lists.proofs.PrefixLemmas.{All_front, prefix_trans}
use Rattle.plain_lists.specs.Keys.{of_key}
use Rattle.subordinate.specs.Parts.{BeatOf, beats_of_parts}

-- ---- zeros

abbrev IsZero : ℕ → Type 0
IsZero byte = byte ≡ 0

zeros-same : (xs ys : List ℕ) → All IsZero xs → All IsZero ys → length xs ≡ length ys → xs ≡ ys
zeros-same [] [] first second same = refl
zeros-same [] (y ∷ ys) first second same = absurd (omega (arith, same))
zeros-same (x ∷ xs) [] first second same = absurd (omega (arith, same))
zeros-same (x ∷ xs) (y ∷ ys) first second same =
    ap₂ (λ (z : ℕ) (zs : List ℕ). z ∷ zs) (All-head IsZero x xs first ∙ sym (All-head IsZero y ys second))
    (zeros-same xs ys (All-tail IsZero x xs first) (All-tail IsZero y ys second) (omega (arith, same)))

pub zeros-all : (n : ℕ) → All IsZero (replicate n 0)
zeros-all zero = All-nil IsZero
zeros-all (suc n) = All-cons IsZero 0 (replicate n 0) refl (zeros-all n)

zeros-drop : (n : ℕ) (xs : List ℕ) → All IsZero xs → All IsZero (drop n xs)
zeros-drop zero xs all = all
zeros-drop (suc n) [] all = All-nil IsZero
zeros-drop (suc n) (x ∷ xs) all = zeros-drop n xs (All-tail IsZero x xs all)

zeros-on : (beats : List RBeat) (spans : List Span) → All (λ (r : RBeat). r.lanes ≡ replicate 128 0) beats → All IsZero (bytes_on beats spans)
zeros-on [] spans all = All-nil IsZero
zeros-on (r ∷ beats) [] all = All-nil IsZero
zeros-on (r ∷ beats) (span ∷ spans) all =
    let lanes : All IsZero r.lanes = subst (All IsZero) (sym (All-head (λ (r : RBeat). r.lanes ≡ replicate 128 0) r beats all)) (zeros-all 128) in
    All-append IsZero (slice_range r.lanes span.low (span.high + 1)) (bytes_on beats spans)
    (All-take IsZero (span.high + 1 - span.low) (drop span.low r.lanes) (zeros-drop span.low r.lanes lanes))
    (zeros-on beats spans (All-tail (λ (r : RBeat). r.lanes ≡ replicate 128 0) r beats all))

-- of a read of which nothing was read
zeros-unread : (allowed : List Bool) → All IsZero (answered_bytes allowed [])
zeros-unread [] = All-nil IsZero
zeros-unread (false ∷ more) = All-cons IsZero 0 (answered_bytes more []) refl (zeros-unread more)
zeros-unread (true ∷ more) = All-nil IsZero

-- of bytes that can't be read each is answered as 0
abbrev IsRefused : NamedByte → Type 0
IsRefused b = b.allowed ≡ false

none-answered : (bytes : List NamedByte) (values : List ℕ) → All IsRefused bytes →
    (length (answered_bytes (map is_allowed bytes) values) ≡ length bytes) × All IsZero (answered_bytes (map is_allowed bytes) values)
none-answered [] values all = (refl, All-nil IsZero)
none-answered (b ∷ bytes) values all =
    let rest = none-answered bytes values (All-tail IsRefused b bytes all) in
    subst (λ (allowed : Bool). (length (answered_bytes (allowed ∷ map is_allowed bytes) values) ≡ suc (length bytes)) × All IsZero (answered_bytes (allowed ∷ map is_allowed bytes) values))
    (sym (All-head IsRefused b bytes all)) (ap suc rest.0, All-cons IsZero 0 (answered_bytes (map is_allowed bytes) values) refl rest.1)

-- ---- how many bytes are wanted

lanes-append : (xs ys : List Span) → lanes_wanted (xs ++ ys) ≡ lanes_wanted xs + lanes_wanted ys
lanes-append [] ys = omega arith
lanes-append (span ∷ xs) ys = omega (arith, lanes-append xs ys)

module _ (form : LinkForm) (may : ℕ → Bool) where
  beat-long : (b : BeatOf) → length (wanted_of_beat form may b) ≡ (wanted_span form b.request b.beat).high + 1 - (wanted_span form b.request b.beat).low
  beat-long b =
      let span = wanted_span form b.request b.beat in
      length-map (bytes_within (word_address b.request b.beat form.bus) span) (byte_named may None) ∙ length-range_with_len (word_address b.request b.beat form.bus + span.low) (span.high + 1 - span.low)

  part-long : (part : Addr) (beats : List ℕ) → length (flat_map (wanted_of_beat form may) (map (λ n. record { request = part; beat = n }) beats)) ≡ lanes_wanted (map (wanted_span form part) beats)
  part-long part [] = refl
  part-long part (n ∷ beats) =
      let b : BeatOf = record { request = part; beat = n } in
      let more = map (λ k. record { request = part; beat = k }) beats in
      ap length (flat_map-cons (wanted_of_beat form may) b more) ∙ length-append (wanted_of_beat form may b) (flat_map (wanted_of_beat form may) more)
      ∙ ap₂ (λ (x y : ℕ). x + y) (beat-long b) (part-long part beats)

  parts-long : (parts : List Addr) → length (flat_map (wanted_of_beat form may) (beats_of_parts parts)) ≡ lanes_wanted (flat_map (wanted_lanes form) parts)
  parts-long [] = refl
  parts-long (part ∷ parts) =
      let beats : Addr → List BeatOf = λ p. map (λ n. record { request = p; beat = n }) (range_with_len 0 (beats_of p)) in
      ap (λ (bs : List BeatOf). length (flat_map (wanted_of_beat form may) bs)) (flat_map-cons beats part parts)
      ∙ ap length (flat_map-append (wanted_of_beat form may) (beats part) (beats_of_parts parts))
      ∙ length-append (flat_map (wanted_of_beat form may) (beats part)) (flat_map (wanted_of_beat form may) (beats_of_parts parts))
      ∙ ap₂ (λ (x y : ℕ). x + y) (part-long part (range_with_len 0 (beats_of part))) (parts-long parts)
      ∙ sym (lanes-append (wanted_lanes form part) (flat_map (wanted_lanes form) parts))
      ∙ sym (ap lanes_wanted (flat_map-cons (wanted_lanes form) part parts))

module _ (net : Network NodeState) (forms : ℕ → LinkForm) (sound : IsSound node_kind net forms) where
  -- ---- a node that is no memory reads nothing but zeros

  zeros-memory : (n number k : ℕ) (c : MemoryState) (wanted : MemoryArea → BeatOf → Span) → noted_by node_kind net k n ≡ [] →
      All IsZero ((knows_on wanted (schedules net forms sound) c (passed_by node_kind net k n)).filled number)
  zeros-memory n number k c wanted none =
      let share = (schedules net forms sound c.inner.upper).reads number in
      let allowed = wanted_before c.area (wanted c.area) share (length (beats_of_parts share.parts)) in
      subst (λ (all : List Access). All IsZero (answered_bytes allowed (map (λ (a : Access). a.byte.value) (accesses_of false number all)))) (sym none) (zeros-unread allowed)

  zeros-kind : (n number k : ℕ) (name : KindName) (s : StateOf name) (out : Out) → slice_get net.nodes k ≡ Some (acted_as name s out) → noted_by node_kind net k n ≡ [] →
      All IsZero ((node_kind.knows (schedules net forms sound) (record { kind = name; state = run_state net name s n }) (passed_by node_kind net k n)).filled number)
  zeros-kind n number k AnError s out at none =
      let schedule = schedules net forms sound in
      let here = holds-at net (λ (state : NodeState). node_kind.keeps schedule n state (passed_by node_kind net k n)) k AnError s out at n ((run-keeps net forms sound n).nodes k) in
      let link = (run_state net AnError s n).upper in
      let trail = (passed_by node_kind net k n).uppers link in
      zeros-on (of_key number_of_read_data number trail.r) ((schedule link).reads number).lanes
      (All-filter (λ (r : RBeat). number_of_read_data r == number) (λ (r : RBeat). r.lanes ≡ replicate 128 0) trail.r here.zeros)
  zeros-kind n number k AMemory s out at none = zeros-memory n number k (run_state net AMemory s n) beat_span none
  zeros-kind n number k ALiteMemory s out at none = zeros-memory n number k (run_state net ALiteMemory s n) (λ area. tag_span) none
  zeros-kind n number k AManager s out at none = All-nil IsZero
  zeros-kind n number k ASlice s out at none = All-nil IsZero
  zeros-kind n number k AMux s out at none = All-nil IsZero
  zeros-kind n number k ADemux s out at none = All-nil IsZero
  zeros-kind n number k ARemap s out at none = All-nil IsZero
  zeros-kind n number k AnUp s out at none = All-nil IsZero
  zeros-kind n number k ASplit s out at none = All-nil IsZero
  zeros-kind n number k ALite s out at none = All-nil IsZero

  abbrev filled_by : ℕ → ℕ → ℕ → Option (Acted NodeState) → List ℕ
  filled_by n number k o = (option_map_or (λ (a : Acted NodeState). node_kind.knows (schedules net forms sound) a.state (passed_by node_kind net k n)) o nothing_known).filled number

  zeros-at : (n number k : ℕ) → noted_by node_kind net k n ≡ [] → All IsZero ((known_at node_kind net (schedules net forms sound) n k).filled number)
  zeros-at n number k none = go (slice_get (nodes_after node_kind net n) k) refl
    where
      go : (o : Option (Acted NodeState)) → slice_get (nodes_after node_kind net n) k ≡ o → All IsZero (filled_by n number k (slice_get (nodes_after node_kind net n) k))
      go None is = subst (λ (o : Option (Acted NodeState)). All IsZero (filled_by n number k o)) (sym is) (All-nil IsZero)
      go (Some a) is =
          let first = from-first net n k a is in
          let there = stands-at net k first.0.state.kind first.0.state.state first.0.out first.1 n in
          subst (λ (o : Option (Acted NodeState)). All IsZero (filled_by n number k o)) (sym there.at) (zeros-kind n number k first.0.state.kind first.0.state.state first.0.out first.1 none)

  module _ (node : ℕ) (s : ManagerState) (place : ℕ) (item : ScriptItem) (own : IsItem net node s place item) (reads : item.txn.write ≡ false) (n : ℕ) (answered : 0 < (note_after net s n place).answered) where
    abbrev number : ℕ
    number = item.txn.number

    abbrev beats : List RBeat
    beats = of_key number_of_read_data number (upper_end node_kind net s.lower n).r

    abbrev spans : List Span
    spans = ((schedules net forms sound s.lower).reads number).lanes

    above : Answers (schedules net forms sound s.lower) (now net forms sound n) (upper_end node_kind net s.lower n)
    above = answers-above net forms sound s.lower (own-link net forms sound node s own.is).0 n

    came : length beats ≡ suc item.txn.request.len
    came = (read-note net forms sound node s place item own n reads).answered.0 answered

    whole : All (λ (r : RBeat). length r.lanes ≡ 128) beats
    whole = All-filter (λ (r : RBeat). number_of_read_data r == number) (λ (r : RBeat). length r.lanes ≡ 128) (upper_end node_kind net s.lower n).r above.lanes_are_whole

    spans-are : spans ≡ spans_of s.bus item.txn.request
    spans-are =
        ap (λ (share : Share). share.lanes) (first-reads net forms sound node s place item own reads)
        ∙ ap (λ (b : Bool). cond b [] (spans_of s.bus item.txn.request)) reads

    -- where it ends at a memory they are what that has read
    bytes-there : (c : MemoryState) → IsMemoryAt net (target net forms sound node s place item own) c →
        bytes_on beats spans ≡ answered_bytes (map is_allowed (due_of net forms node s item).bytes) (values_of number (events_after n net))
    bytes-there c is =
        let its_origin = origin net forms sound node s place item own in
        let its = among net forms sound node s place item own in
        (all-read net forms sound node s place item own c is reads s.lower (first_share net forms sound its_origin its) (first-carried net forms sound its_origin its) n beats whole (omega (arith, came, beat-count net forms sound node s place item own)) (above.bytes_are_filled number)).0
        ∙ ap₂ (λ (allowed : List Bool) (values : List ℕ). answered_bytes allowed values)
        (sym (reads-named_allowed net forms sound node s place item own c is reads)) (sym (item-values net forms sound node s place item own c is reads n))

    within : All IsSpan (spans_of s.bus item.txn.request)
    within =
        let first = begins net forms sound node s own.is in
        let legal = at-all (λ (i : ScriptItem). IsLegal i.txn.request s.bus) s.script place item first.legal own.at in
        All-map IsSpan (λ k. valid_span item.txn.request k s.bus) (range_with_len 0 (beats_of item.txn.request)) (λ i d lt.
        valid-within s.bus first.bus_width item.txn.request legal (get_or (range_with_len 0 (beats_of item.txn.request)) i d))

    -- elsewhere they are zeros, one for each byte
    zeros-there : IsQuiet net forms sound (origin net forms sound node s place item own) →
        bytes_on beats spans ≡ answered_bytes (map is_allowed (due_of net forms node s item).bytes) (values_of number (events_after n net))
    zeros-there quiet =
        let its_origin = origin net forms sound node s place item own in
        let end = way_end net forms its_origin in
        let among = among net forms sound node s place item own in
        let values = values_of number (events_after n net) in
        let named = flat_map (wanted_of_beat (forms end.link) (λ address. false)) (beats_of_parts end.share.parts) in
        let bytes : (due_of net forms node s item).bytes ≡ named =
        ap (λ (may : ℕ → Bool). bytes_carried (forms end.link) may item.txn.write end.share) (quiet.may item.txn.write)
        ∙ ap (λ (b : Bool). bytes_carried (forms end.link) (λ address. false) b end.share) reads in
        let refused : All IsRefused named =
        All-flat IsRefused (wanted_of_beat (forms end.link) (λ address. false)) (beats_of_parts end.share.parts) (λ k b at.
        All-map IsRefused (byte_named (λ address. false) None) (bytes_within (word_address b.request b.beat (forms end.link).bus) (wanted_span (forms end.link) b.request b.beat)) (λ i d lt. refl)) in
        let none = none-answered named values refused in
        let fits = (is-carried node_kind node_holds net forms sound item.txn.write number end.link end.share (end-carried net forms sound its_origin among)).fits.lanes in
        let lanes : lanes_wanted spans ≡ lanes_wanted (flat_map (wanted_lanes (forms end.link)) end.share.parts) =
        ap (λ (share : Share). lanes_wanted share.lanes) (first-reads net forms sound node s place item own reads)
        ∙ sym (keeps-on net forms sound node s place item own end.link end.share (end-carried net forms sound its_origin among)).lanes
        ∙ ap lanes_wanted (fits ∙ ap (λ (b : Bool). cond b [] (flat_map (wanted_lanes (forms end.link)) end.share.parts)) reads) in
        let spans_long : length (spans_of s.bus item.txn.request) ≡ suc item.txn.request.len =
        length-map (range_with_len 0 (beats_of item.txn.request)) (λ k. valid_span item.txn.request k s.bus) ∙ length-range_with_len 0 (beats_of item.txn.request) ∙ omega arith in
        let on : length (bytes_on beats spans) ≡ lanes_wanted spans =
        subst (λ (xs : List Span). length (bytes_on beats xs) ≡ lanes_wanted xs) (sym spans-are) (on-long (spans_of s.bus item.txn.request) beats within whole (omega (arith, came, spans_long))) in
        let zero : All IsZero (bytes_on beats spans) =
        All_front IsZero (prefix_trans (above.bytes_are_filled number) (filled-there net forms sound its_origin among reads n)) (zeros-at n number (target net forms sound node s place item own) (quiet.noted n)) in
        zeros-same (bytes_on beats spans) (answered_bytes (map is_allowed named) values) zero none.1
        (on ∙ lanes ∙ sym (parts-long (forms end.link) (λ address. false) end.share.parts) ∙ sym none.0)
        ∙ sym (ap (λ (bs : List NamedByte). answered_bytes (map is_allowed bs) values) bytes)

    pub bytes-noted : (note_after net s n place).bytes ≡ answered_bytes (map is_allowed (due_of net forms node s item).bytes) (values_of number (events_after n net))
    bytes-noted =
        (read-note net forms sound node s place item own n reads).bytes
        ∙ elim (ends-at net forms sound (origin net forms sound node s place item own)) [
          | inl memory ↦ bytes-there memory.0 memory.1
          | inr quiet ↦ zeros-there quiet
        ]
