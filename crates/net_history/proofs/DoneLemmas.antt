-- Where all answers to a transaction have been put on a link that carries it, all that is due of it was done by then.
use Rattle.std.proofs.Common.{◌≡◌, ◌≤◌, ◌<◌, ◌+◌, ◌==◌, [], ◌∷◌, ℕ, zero, suc, Bool, true, false, List, Option, Some, None, length, refl, sym, ap, ◌∙◌, subst, inl, inr, arith, length-append, cond}
use Rattle.std.specs.Prelude.{All, flat_map, map, unwrap_or}
use Rattle.std.proofs.lemmas.Bool.{cases_Bool, cases_eq, cases_lt}
use Rattle.std.proofs.lemmas.List.{length-map, nil_from_length, take_all}
use Rattle.std.proofs.lemmas.List.Elements.{All-append, All-cons, All-filter, All-nil, All-weaker, filter-append}
use Rattle.std.proofs.lemmas.Slice.Zip.{length-zip}
use Rattle.axi_beats.specs.Lanes.{Span}
use Rattle.axi_beats.specs.declared.beat.RBeat.{RBeat}
use Rattle.axi_beats.specs.declared.beat.WBeat.{WBeat}
use Rattle.axi_history.specs.Delivered.{access_due, access_made}
use Rattle.axi_history.specs.Records.{Event, bytes_due, events_of}
use Rattle.axi_trail.specs.LinkContracts.{Answers}
use Rattle.axi_trail.specs.Schedule.{Share, bytes_on, no_share}
use Rattle.axi_trail.specs.Trail.{IsBehind}
use Rattle.axi_trail.specs.Words.{number_of_data, number_of_read_data, number_of_response}
use Rattle.burst_address.specs.Accesses.{answered_bytes}
use Rattle.manager_node.specs.ManagerState.{ManagerState}
use Rattle.manager_node.specs.Script.{ScriptItem}
use Rattle.memory_node.specs.Accesses.{accesses_of}
use Rattle.memory_node.specs.Beats.{stored_bytes}
use Rattle.memory_node.specs.Events.{Access}
use Rattle.memory_node.specs.MemoryState.{MemoryState}
use Rattle.memory_node.specs.WantedReads.{wanted_addresses, wanted_allowed, wanted_due}
use Rattle.net_history.proofs.EndLemmas.{carried-keeps, carried-some, end-at, end-carried, first-carried, first_share}
use Rattle.net_history.proofs.EventLemmas.{all-nodes}
use Rattle.net_history.proofs.ItemLemmas.{among, beat-count, carried-is, now, origin, read-note, schedules, taken-before, write-note}
use Rattle.net_history.proofs.ManagerRuns.{note_after, own-link, run-keeps}
use Rattle.net_history.proofs.MemoryRuns.{IsMemoryAt, memory-keeps}
use Rattle.net_history.proofs.NetTransactions.{due_of}
use Rattle.net_history.proofs.ReadLemmas.{IsSpan, allowed-lanes, lanes-count, on-long, reads-whole, spans-within}
use Rattle.net_history.proofs.RoundLemmas.{IsItem}
use Rattle.net_history.proofs.ShownLemmas.{shown_read, shown_write}
use Rattle.net_history.proofs.TargetLemmas.{carried_there, data_count, end-link, ends-at, item-begins, item-reads, item-writes, lanes-in_order, no-events, none-due, own-reads, read_count, reads-named, share-read, share-written, target, wanted, writes-named}
use Rattle.net_history.proofs.WhereLemmas.{filled-memory, filled-there, written-where}
use Rattle.net_history.specs.History.{events_after, nodes_events}
use Rattle.net_kinds.specs.NodeHolds.{node_holds}
use Rattle.net_kinds.specs.NodeKind.{NodeState, node_kind}
use Rattle.net_model.specs.Network.{Network}
use Rattle.net_runs.specs.Run.{lower_end, nodes_after, noted_by, queues_after, upper_end}
use Rattle.net_ways.proofs.WayLemmas.{is-carried}
use Rattle.net_ways.specs.Sound.{IsSound}
use Rattle.net_ways.specs.SoundLaws.{KeepsBytes}
use Rattle.net_ways.specs.Ways.{carried}
use Rattle.node_shape.specs.LinkForm.{LinkForm, lanes_wanted, wanted_lanes}
use Rattle.node_shape.specs.Way.{Origin}
use Rattle.plain_lists.proofs.KeyLemmas.{of_key-cons, of_key-skip}
use Rattle.plain_lists.proofs.PrefixLemmas.{prefix_length, prefix_of_key, prefix_of_same, prefix_trans, prefix_whole}
use Rattle.plain_lists.specs.Keys.{of_key}
use Rattle.plain_lists.specs.Prefixes.{IsPrefix}
use Rattle.subordinate.specs.Parts.{BeatOf, beats_of_parts, beats_with_data}

pub some-share : (o : Option Share) → 0 < length (unwrap_or o no_share).parts → (share : Share) × (o ≡ Some share)
some-share None some = absurd (omega (arith, some))
some-share (Some share) some = (share, refl)

-- where none has a number, each has another one
none-of_number : (number : ℕ) (events : List Event) → events_of number events ≡ [] → All (λ (e : Event). e.number ≡ number → ⊥) events
none-of_number number [] none = All-nil (λ (e : Event). e.number ≡ number → ⊥)
none-of_number number (e ∷ events) none = elim (cases_eq e.number number) [
  | inl same ↦
      let first : e ∷ events_of number events ≡ [] = sym (of_key-cons (λ (x : Event). x.number) number e events same) ∙ none in
      absurd (cc)
  | inr other ↦
      All-cons (λ (x : Event). x.number ≡ number → ⊥) e events other
      (none-of_number number events (sym (of_key-skip (λ (x : Event). x.number) number e events other) ∙ none))
]

module _ (net : Network NodeState) (forms : ℕ → LinkForm) (sound : IsSound node_kind net forms) (node : ℕ) (s : ManagerState) (place : ℕ) (item : ScriptItem) (own : IsItem net node s place item) where
  abbrev its_origin : Origin
  its_origin = origin net forms sound node s place item own

  abbrev number : ℕ
  number = item.txn.number

  abbrev end : ℕ
  end = target net forms sound node s place item own

  abbrev there : Share
  there = carried_there net forms sound node s place item own

  -- each link that carries it carries some part of it
  pub some-on : (link : ℕ) (share : Share) → carried node_kind net item.txn.write link number ≡ Some share → 0 < length share.parts
  some-on link share comes = carried-some net forms sound its_origin (among net forms sound node s place item own) (omega arith) link share comes

  pub keeps-on : (link : ℕ) (share : Share) → carried node_kind net item.txn.write link number ≡ Some share → KeepsBytes node_kind forms its_origin (record { link = link; share = share })
  keeps-on link share comes = carried-keeps net forms sound its_origin (among net forms sound node s place item own) link share comes

  -- all answers to it have been put on a link
  pub record AreAnswersThere (m : ℕ) : Type 0 where
    pub link : ℕ
    pub known : link < length net.links
    pub share : Share
    pub comes : carried node_kind net item.txn.write link number ≡ Some share
    pub responses : item.txn.write ≡ true → length share.parts ≤ length (of_key number_of_response number (lower_end node_kind net link m).b)
    pub beats : item.txn.write ≡ false → length (beats_of_parts share.parts) ≤ length (of_key number_of_read_data number (lower_end node_kind net link m).r)

  -- so it is where the manager notes in the next round that it is answered
  pub answers-there : (m : ℕ) → 0 < (note_after net s (suc m) place).answered → AreAnswersThere m
  answers-there m answered =
      let known = (own-link net forms sound node s own.is).0 in
      let behind : IsBehind (lower_end node_kind net s.lower m) (upper_end node_kind net s.lower (suc m)) = taken-before net forms sound s.lower known m in
      record {
        link = s.lower;
        known = known;
        share = first_share net forms sound its_origin (among net forms sound node s place item own);
        comes = first-carried net forms sound its_origin (among net forms sound node s place item own);
        responses = λ writes.
            let came = (write-note net forms sound node s place item own (suc m) writes).answered.0 answered in
            omega (arith, came, prefix_length (prefix_of_key number_of_response number behind.b));
        beats = λ reads.
            let came = (read-note net forms sound node s place item own (suc m) reads).answered.0 answered in
            omega (arith, came, beat-count net forms sound node s place item own, prefix_length (prefix_of_key number_of_read_data number behind.r));
      }

  pub written-share : (link : ℕ) (share : Share) → carried node_kind net item.txn.write link number ≡ Some share → item.txn.write ≡ true → (schedules net forms sound link).writes number ≡ share
  written-share link share comes writes = carried-is net forms sound true link number share (ap (λ (b : Bool). carried node_kind net b link number) (sym writes) ∙ comes)

  pub read-share : (link : ℕ) (share : Share) → carried node_kind net item.txn.write link number ≡ Some share → item.txn.write ≡ false → (schedules net forms sound link).reads number ≡ share
  read-share link share comes reads = carried-is net forms sound false link number share (ap (λ (b : Bool). carried node_kind net b link number) (sym reads) ∙ comes)

  module _ (c : MemoryState) (is : IsMemoryAt net end c) where
    abbrev due : List BeatOf
    due = beats_of_parts there.parts

    -- the lanes that are wanted there
    abbrev lanes_of : BeatOf → Span
    lanes_of = wanted net forms sound node s place item own c is

    -- ---- what is read of a read of which all beats have come

    lanes-there : item.txn.write ≡ false → there.lanes ≡ map lanes_of due
    lanes-there reads =
        ap (λ (share : Share). share.lanes) (sym (share-read net forms sound node s place item own c is reads))
        ∙ ((memory-keeps net forms sound end c is 0).lanes number)
        ∙ ap (λ (share : Share). map lanes_of (beats_of_parts share.parts)) (share-read net forms sound node s place item own c is reads)

    abbrev values : ℕ → List ℕ
    values n = map (λ (a : Access). a.byte.value) (accesses_of false number (noted_by node_kind net end n))

    -- a link on which all beats of a read stand has as many of its bytes as the memory
    bytes-count : item.txn.write ≡ false → (link : ℕ) (share : Share) → carried node_kind net item.txn.write link number ≡ Some share →
        (beats : List RBeat) → All (λ (r : RBeat). length r.lanes ≡ 128) beats → length (beats_of_parts share.parts) ≤ length beats →
        length (bytes_on beats share.lanes) ≡ length (flat_map (wanted_allowed c.area lanes_of) due)
    bytes-count reads link share comes beats whole enough =
        let fits = (is-carried node_kind node_holds net forms sound item.txn.write number link share comes).fits in
        let lanes : share.lanes ≡ flat_map (wanted_lanes (forms link)) share.parts =
        fits.lanes ∙ ap (λ (b : Bool). cond b [] (flat_map (wanted_lanes (forms link)) share.parts)) reads in
        let count : length share.lanes ≡ length (beats_of_parts share.parts) = ap length lanes ∙ lanes-count (forms link) share.parts in
        on-long share.lanes beats (subst (All IsSpan) (sym lanes) (spans-within (forms link) item.txn.write share fits)) whole (omega (arith, count, enough))
        ∙ (keeps-on link share comes).lanes ∙ sym (keeps-on _ there (end-carried net forms sound its_origin (among net forms sound node s place item own))).lanes
        ∙ ap lanes_wanted (lanes-there reads) ∙ sym (allowed-lanes c.area lanes_of due (lanes-in_order net forms sound node s place item own c is))

    pub all-read : item.txn.write ≡ false → (link : ℕ) (share : Share) → carried node_kind net item.txn.write link number ≡ Some share →
        (n : ℕ) (beats : List RBeat) → All (λ (r : RBeat). length r.lanes ≡ 128) beats → length (beats_of_parts share.parts) ≤ length beats →
        IsPrefix (bytes_on beats ((schedules net forms sound link).reads number).lanes) ((now net forms sound n).filled number) →
        (bytes_on beats ((schedules net forms sound link).reads number).lanes ≡ answered_bytes (flat_map (wanted_allowed c.area lanes_of) due) (values n))
        × (length (flat_map (wanted_addresses c.area lanes_of) due) ≤ length (values n))
    all-read reads link share comes n beats whole enough front =
        let known_there : IsPrefix ((now net forms sound n).filled number) (answered_bytes (flat_map (wanted_allowed c.area lanes_of) due) (values n)) =
        prefix_of_same (filled-there net forms sound its_origin (among net forms sound node s place item own) reads n)
        (filled-memory net forms sound its_origin (among net forms sound node s place item own) reads n c is
        ∙ ap (λ (share : Share). answered_bytes (flat_map (wanted_allowed c.area lanes_of) (beats_of_parts share.parts)) (values n)) (share-read net forms sound node s place item own c is reads)) in
        let own_share = read-share link share comes reads in
        reads-whole c.area lanes_of due (bytes_on beats ((schedules net forms sound link).reads number).lanes) (values n)
        (ap (λ (o : Share). length (bytes_on beats o.lanes)) own_share ∙ bytes-count reads link share comes beats whole enough) (prefix_trans front known_there)

    -- ---- where its answers are there

    module _ (m : ℕ) (answers : AreAnswersThere m) where
      below : Answers (schedules net forms sound answers.link) (now net forms sound m) (lower_end node_kind net answers.link m)
      below = (run-keeps net forms sound m).answered answers.link answers.known

      writes-done : item.txn.write ≡ true → length (beats_of_parts there.parts) ≤ data_count net forms sound node s place item own c is m
      writes-done writes =
          let came = answers.responses writes in
          let some = some-on answers.link answers.share answers.comes in
          let parts = ap (λ (share : Share). length share.parts) (written-share answers.link answers.share answers.comes writes) in
          let written = written-where net forms sound m number (below.done_when_answered number (omega (arith, parts, some)) (omega (arith, parts, came))) in
          let share = some-share (carried node_kind net true written.link number) written.some in
          let last = end-at net forms sound its_origin (among net forms sound node s place item own) written.link share.0 (ap (λ (b : Bool). carried node_kind net b written.link number) writes ∙ share.1) (written.ends share.0) in
          let link : written.link ≡ c.inner.upper = sym last ∙ end-link net forms sound node s place item own c is in
          let all : length (of_key number_of_data number (lower_end node_kind net c.inner.upper m).w) ≡ length (beats_of_parts ((schedules net forms sound c.inner.upper).writes number).parts) =
          subst (λ (l : ℕ). length (of_key number_of_data number (lower_end node_kind net l m).w) ≡ length (beats_of_parts ((schedules net forms sound l).writes number).parts)) link written.all in
          omega (arith, all, ap (λ (s : Share). length (beats_of_parts s.parts)) (share-written net forms sound node s place item own c is writes))

      reads-done : item.txn.write ≡ false → length (flat_map (wanted_addresses c.area lanes_of) due) ≤ length (accesses_of false number (noted_by node_kind net end m))
      reads-done reads =
          let beats = of_key number_of_read_data number (lower_end node_kind net answers.link m).r in
          let came = answers.beats reads in
          let whole = All-filter (λ (r : RBeat). number_of_read_data r == number) (λ (r : RBeat). length r.lanes ≡ 128) (lower_end node_kind net answers.link m).r below.lanes_are_whole in
          let all = all-read reads answers.link answers.share answers.comes m beats whole (omega (arith, came)) (below.bytes_are_filled number) in
          omega (arith, all.1, length-map (accesses_of false number (noted_by node_kind net end m)) (λ (a : Access). a.byte.value))

      full-there : map access_made (events_of number (events_after m net)) ≡ map access_due (bytes_due (due_of net forms node s item))
      full-there = elim (cases_Bool item.txn.write) [
        | inl writes ↦
            let beats = beats_of_parts there.parts in
            let long = length-zip beats (flat_map (λ ws. ws) there.write_data) in
            let done = writes-done writes in
            item-writes net forms sound node s place item own c is m writes
            ∙ ap (λ (bs : List (BeatOf × WBeat)). map shown_write (flat_map (λ (b : BeatOf × WBeat). stored_bytes c.area b.0.request b.0.beat b.1) bs))
            (take_all (data_count net forms sound node s place item own c is m) (beats_with_data there) (omega (arith, done, long)))
            ∙ sym (writes-named net forms sound node s place item own c is writes)
        | inr reads ↦
            let made = item-reads net forms sound node s place item own c is m reads in
            let named = reads-named net forms sound node s place item own c is reads in
            let read = wanted_due c.area lanes_of there (read_count net forms sound node s place item own c is m) in
            let noted = accesses_of false number (noted_by node_kind net end m) in
            let count : length noted ≡ length read = sym (length-map noted (λ (a : Access). a.byte.address)) ∙ ap length (own-reads net forms sound node s place item own c is m reads) in
            let done = reads-done reads in
            let long : length (map access_due (bytes_due (due_of net forms node s item))) ≤ length (map access_made (events_of number (events_after m net))) =
            omega (arith, ap length made, ap length named, length-map read shown_read, length-map (flat_map (wanted_addresses c.area lanes_of) due) shown_read, count, done) in
            sym (prefix_whole (map access_made (events_of number (events_after m net))) (map access_due (bytes_due (due_of net forms node s item))) (item-begins net forms sound node s place item own m) long)
      ]

  module _ (m : ℕ) (answers : AreAnswersThere m) where
    abbrev made : ℕ → List (ℕ × Option ℕ)
    made n = map access_made (events_of number (events_after n net))

    abbrev accesses_due : List (ℕ × Option ℕ)
    accesses_due = map access_due (bytes_due (due_of net forms node s item))

    full-at : made m ≡ accesses_due
    full-at = elim (ends-at net forms sound its_origin) [
      | inl memory ↦ full-there memory.0 memory.1 m answers
      | inr quiet ↦ ap (map access_made) (no-events net forms sound node s place item own quiet m) ∙ sym (ap (map access_due) (none-due net forms sound node s place item own quiet))
    ]

    -- the new events of a round
    abbrev new : ℕ → List Event
    new n = nodes_events (suc n) (queues_after node_kind net n) 0 (nodes_after node_kind net n)

    count : ℕ → ℕ
    count n = length (events_of number (events_after n net))

    count-grows : (n : ℕ) → count (suc n) ≡ count n + length (events_of number (new n))
    unfolding count
    count-grows n = ap length (filter-append (λ (e : Event). e.number == number) (events_after n net) (new n)) ∙ length-append (events_of number (events_after n net)) (events_of number (new n))

    count-made : (n : ℕ) → length (made n) ≡ count n
    unfolding count
    count-made n = length-map (events_of number (events_after n net)) access_made

    full-from : (n : ℕ) → m ≤ n → count n ≡ length accesses_due
    full-from zero le =
        let none : m ≡ 0 = omega arith in
        sym (count-made 0) ∙ ap (λ (n : ℕ). length (made n)) (sym none) ∙ ap length full-at
    full-from (suc n) le = elim (cases_lt m (suc n)) [
      | inl later ↦
          let before = full-from n (omega arith) in
          let grows = count-grows n in
          let most = prefix_length (item-begins net forms sound node s place item own (suc n)) in
          omega (arith, before, grows, most, count-made (suc n))
      | inr now ↦
          let same : suc n ≡ m = omega arith in
          sym (count-made (suc n)) ∙ ap (λ (k : ℕ). length (made k)) same ∙ ap length full-at
    ]

    -- so all is done from then on
    pub done-from : (n : ℕ) → m ≤ n → made n ≡ accesses_due
    done-from n le =
        let full = full-from n le in
        sym (prefix_whole (made n) accesses_due (item-begins net forms sound node s place item own n) (omega (arith, full, count-made n)))

    none-new : (n : ℕ) → m ≤ n → All (λ (e : Event). e.number ≡ number → ⊥) (new n)
    none-new n le =
        let before = full-from n le in
        let after = full-from (suc n) (omega arith) in
        let grows = count-grows n in
        none-of_number number (new n) (nil_from_length (events_of number (new n)) (omega (arith, before, after, grows)))

    -- and nothing in a later round
    pub all-early : (n : ℕ) → All (λ (e : Event). e.number ≡ number → e.round < suc m) (events_after n net)
    all-early zero = All-nil (λ (e : Event). e.number ≡ number → e.round < suc m)
    all-early (suc n) =
        let Early : Event → Type 0 = λ e. e.number ≡ number → e.round < suc m in
        All-append Early (events_after n net) (new n) (all-early n)
        (elim (cases_lt n m) [
          | inl before ↦
              all-nodes net Early (suc n) (queues_after node_kind net n) 0 (nodes_after node_kind net n) (λ k a at i d lt same. omega arith)
          | inr later ↦ All-weaker (λ (e : Event). e.number ≡ number → ⊥) Early (λ e never same. absurd (never same)) (new n) (none-new n later)
        ])
