-- The events of a transaction: they are at the node where its way ends. Where that is a memory they are the first of those that
-- are due, and elsewhere there are none.
use Rattle.std.proofs.Common.{◌≡◌, ◌≢◌, ◌==◌, [], ◌∷◌, ◌++◌, ℕ, zero, suc, Bool, true, false, cond, List, Option, Some, None, length, refl, sym, ap, ap₂, ◌∙◌, subst, inl, inr}
use Rattle.std.specs.Prelude.{◌⊎◌, ◌&&◌, All, filter, find, flat_map, map, slice_get, take, unwrap_or}
use Rattle.std.specs.Bool.{beq}
use Rattle.std.specs.Option.{option_map_or}
use Rattle.std.proofs.lemmas.Bool.{and_parts, cases_Bool, cases_eq, eq-eqb, eqb-true, ne_eqb}
use Rattle.std.proofs.lemmas.List.{map-append}
use Rattle.std.proofs.lemmas.List.Elements.{All-weaker}
use Rattle.std.proofs.lemmas.Option.{none-some}
use Rattle.axi_beats.specs.Lanes.{Span}
use Rattle.axi_beats.specs.declared.beat.WBeat.{WBeat}
use Rattle.axi_history.specs.Answered.{values_of}
use Rattle.axi_history.specs.Delivered.{access_due, access_made, is_write_at}
use Rattle.axi_history.specs.Records.{Event, bytes_due, events_of}
use Rattle.axi_link.specs.declared.out.Out.{Out}
use Rattle.axi_trail.specs.Schedule.{Share, no_share}
use Rattle.axi_trail.specs.Words.{number_of_data, number_of_read_data}
use Rattle.burst_address.specs.Accesses.{value_after}
use Rattle.burst_address.specs.Lanes.{valid_span}
use Rattle.manager_node.specs.ManagerState.{ManagerState}
use Rattle.manager_node.specs.Script.{ScriptItem}
use Rattle.memory_node.specs.Accesses.{accesses_of, due_writes, writes_at}
use Rattle.memory_node.specs.Beats.{stored_bytes}
use Rattle.memory_node.specs.Events.{Access}
use Rattle.memory_node.specs.MemoryArea.{MemoryArea}
use Rattle.memory_node.specs.MemoryState.{MemoryState}
use Rattle.memory_node.specs.Status.{may_write}
use Rattle.memory_node.specs.WantedReads.{wanted_addresses, wanted_allowed, wanted_due}
use Rattle.net_history.proofs.BelongLemmas.{IsOfItem, of-item}
use Rattle.net_history.proofs.DueLemmas.{HasLanes, is_allowed, none-allowed, reads-allowed, reads-due, writes-due}
use Rattle.net_history.proofs.EndLemmas.{end-carried, end-known}
use Rattle.net_history.proofs.EventLemmas.{all-events, events-noted, events_at, node_of_event}
use Rattle.net_history.proofs.ItemLemmas.{among, carried-is, origin, schedules}
use Rattle.net_history.proofs.ManagerRuns.{from-first}
use Rattle.net_history.proofs.MemoryRuns.{IsMemoryAt, area-is, has-form, memory-keeps, memory_run, memory_state, one-upper, wanted_by}
use Rattle.net_history.proofs.NetTransactions.{due_of}
use Rattle.net_history.proofs.ReadLemmas.{beats-ordered}
use Rattle.net_history.proofs.RoundLemmas.{IsItem}
use Rattle.net_history.proofs.RunStates.{acted_as, run_state, stands-at}
use Rattle.net_history.proofs.ShownLemmas.{access_of_event, beq-true, event_value, events-read, events-values, events-written, held-left, shown_read, shown_write}
use Rattle.net_history.specs.Due.{bytes_carried, fill_of, may_access, may_at_target, of_target, strobed_of_beat, wanted_of_beat, way_end, way_target}
use Rattle.net_history.specs.History.{event_of, events_after}
use Rattle.net_kinds.specs.NodeHolds.{node_holds}
use Rattle.net_kinds.specs.NodeKind.{KindName, NodeState, StateOf, node_kind}
use Rattle.net_kinds.specs.NodeKind.KindName.{ADemux, ALite, ALiteMemory, AManager, AMemory, AMux, ARemap, ASlice, ASplit, AnError, AnUp}
use Rattle.net_model.specs.Network.{Network}
use Rattle.net_runs.specs.Run.{lower_end, nodes_after, noted_by, noted_in, queues_after}
use Rattle.net_ways.proofs.OriginLemmas.{not-carried}
use Rattle.net_ways.proofs.WayLemmas.{is-carried}
use Rattle.net_ways.specs.Sound.{IsSound}
use Rattle.net_ways.specs.Ways.{carried, is_origin, origins_in}
use Rattle.node_core.specs.Acted.{Acted}
use Rattle.node_shape.specs.LinkForm.{LinkForm, wanted_span}
use Rattle.node_shape.specs.Way.{Origin}
use Rattle.memory_node.proofs.AccessLemmas.{nil-of_map}
use Rattle.plain_lists.proofs.CutLemmas.{never-cut}
use Rattle.plain_lists.proofs.KeyLemmas.{filter-filter, of_key-between, of_key-cons, of_key-skip}
use Rattle.plain_lists.proofs.PartLemmas.{All-middle}
use Rattle.plain_lists.proofs.PlaceLemmas.{at-all, contains-at, filter-all, filter-from, find-has}
use Rattle.plain_lists.proofs.PrefixLemmas.{prefix_first, prefix_flat_map, prefix_map, prefix_nil}
use Rattle.plain_lists.proofs.SelectedLemmas.{of_key-has}
use Rattle.plain_lists.specs.Keys.{of_key}
use Rattle.plain_lists.specs.Prefixes.{IsPrefix}
use Rattle.subordinate.specs.Parts.{BeatOf, beats_of_parts, beats_with_data}

-- the writes of one node alone count at it
only-node : (node address before : ℕ) (events : List Event) →
    value_after (is_write_at node address) event_value before events ≡ value_after (is_write_at node address) event_value before (of_key node_of_event node events)
only-node node address before [] = refl
only-node node address before (e ∷ events) = elim (cases_eq e.node node) [
  | inl same ↦
      only-node node address (cond (is_write_at node address e) e.value before) events
      ∙ sym (ap (value_after (is_write_at node address) event_value before) (of_key-cons node_of_event node e events same))
  | inr other ↦
      ap (λ (b : Bool). value_after (is_write_at node address) event_value (cond b e.value before) events) (never e.write (e.node == node) (e.address == address) (ne_eqb e.node node other))
      ∙ only-node node address before events
      ∙ sym (ap (value_after (is_write_at node address) event_value before) (of_key-skip node_of_event node e events other))
]
  where
    never : (write here there : Bool) → here ≡ false → (write && here && there) ≡ false
    never true here there fails = ap (λ (b : Bool). b && there) fails
    never false here there fails = refl

-- both kinds of memory give their bytes alike
pub may-by : (lite : Bool) (c : MemoryState) (write : Bool) → may_access (memory_state lite c).kind (memory_state lite c).state write ≡ may_access AMemory c write
may-by true c write = refl
may-by false c write = refl

pub fill-by : (lite : Bool) (c : MemoryState) → fill_of (memory_state lite c).kind (memory_state lite c).state ≡ c.area.fill
fill-by true c = refl
fill-by false c = refl

module _ (net : Network NodeState) (forms : ℕ → LinkForm) (sound : IsSound node_kind net forms) where
  -- ---- a node that is no memory notes nothing

  quiet-kind : (k : ℕ) (name : KindName) (s : StateOf name) (out : Out) → slice_get net.nodes k ≡ Some (acted_as name s out) →
      ((n : ℕ) → node_kind.notes (queues_after node_kind net n) (record { kind = name; state = run_state net name s n }) ≡ []) → (n : ℕ) → noted_by node_kind net k n ≡ []
  quiet-kind k name s out at none zero = refl
  quiet-kind k name s out at none (suc n) =
      let there = stands-at net k name s out at n in
      ap₂ (λ (before now : List Access). before ++ now) (quiet-kind k name s out at none n)
      (ap (λ (o : Option (Acted NodeState)). option_map_or (λ (b : Acted NodeState). node_kind.notes (queues_after node_kind net n) b.state) o []) there.at ∙ none n)

  absent : (k : ℕ) → slice_get net.nodes k ≡ None → (n : ℕ) → noted_by node_kind net k n ≡ []
  absent k none zero = refl
  absent k none (suc n) =
      ap₂ (λ (before now : List Access). before ++ now) (absent k none n)
      (ap (λ (o : Option (Acted NodeState)). option_map_or (λ (b : Acted NodeState). node_kind.notes (queues_after node_kind net n) b.state) o []) (gone (slice_get (nodes_after node_kind net n) k) refl))
    where
      gone : (o : Option (Acted NodeState)) → slice_get (nodes_after node_kind net n) k ≡ o → slice_get (nodes_after node_kind net n) k ≡ None
      gone None is = is
      gone (Some a) is = let first = from-first net n k a is in absurd (none-some first.0 (sym none ∙ first.1))

  -- where a way ends is a memory, or a node that notes nothing and of which nothing may be accessed
  pub record IsQuiet (o : Origin) : Type 0 where
    pub noted : (n : ℕ) → noted_by node_kind net (way_target net forms o) n ≡ []
    pub may : (write : Bool) → may_at_target net forms write o ≡ (λ address. false)

  ends-kind : (o : Origin) (name : KindName) (s : StateOf name) (out : Out) → slice_get net.nodes (way_target net forms o) ≡ Some (acted_as name s out) →
      ((c : MemoryState) × IsMemoryAt net (way_target net forms o) c) ⊎ IsQuiet o
  ends-kind o AMemory s out at = inl (s, record { lite = false; out = out; at = at })
  ends-kind o ALiteMemory s out at = inl (s, record { lite = true; out = out; at = at })
  ends-kind o ASlice s out at = inr (record { noted = quiet-kind (way_target net forms o) ASlice s out at (λ n. refl); may = λ write. ap (λ (x : Option (Acted NodeState)). option_map_or (λ (a : Acted NodeState). may_access a.state.kind a.state.state write) x (λ address. false)) at })
  ends-kind o AManager s out at = inr (record { noted = quiet-kind (way_target net forms o) AManager s out at (λ n. refl); may = λ write. ap (λ (x : Option (Acted NodeState)). option_map_or (λ (a : Acted NodeState). may_access a.state.kind a.state.state write) x (λ address. false)) at })
  ends-kind o AMux s out at = inr (record { noted = quiet-kind (way_target net forms o) AMux s out at (λ n. refl); may = λ write. ap (λ (x : Option (Acted NodeState)). option_map_or (λ (a : Acted NodeState). may_access a.state.kind a.state.state write) x (λ address. false)) at })
  ends-kind o AnError s out at = inr (record { noted = quiet-kind (way_target net forms o) AnError s out at (λ n. refl); may = λ write. ap (λ (x : Option (Acted NodeState)). option_map_or (λ (a : Acted NodeState). may_access a.state.kind a.state.state write) x (λ address. false)) at })
  ends-kind o ADemux s out at = inr (record { noted = quiet-kind (way_target net forms o) ADemux s out at (λ n. refl); may = λ write. ap (λ (x : Option (Acted NodeState)). option_map_or (λ (a : Acted NodeState). may_access a.state.kind a.state.state write) x (λ address. false)) at })
  ends-kind o ARemap s out at = inr (record { noted = quiet-kind (way_target net forms o) ARemap s out at (λ n. refl); may = λ write. ap (λ (x : Option (Acted NodeState)). option_map_or (λ (a : Acted NodeState). may_access a.state.kind a.state.state write) x (λ address. false)) at })
  ends-kind o AnUp s out at = inr (record { noted = quiet-kind (way_target net forms o) AnUp s out at (λ n. refl); may = λ write. ap (λ (x : Option (Acted NodeState)). option_map_or (λ (a : Acted NodeState). may_access a.state.kind a.state.state write) x (λ address. false)) at })
  ends-kind o ASplit s out at = inr (record { noted = quiet-kind (way_target net forms o) ASplit s out at (λ n. refl); may = λ write. ap (λ (x : Option (Acted NodeState)). option_map_or (λ (a : Acted NodeState). may_access a.state.kind a.state.state write) x (λ address. false)) at })
  ends-kind o ALite s out at = inr (record { noted = quiet-kind (way_target net forms o) ALite s out at (λ n. refl); may = λ write. ap (λ (x : Option (Acted NodeState)). option_map_or (λ (a : Acted NodeState). may_access a.state.kind a.state.state write) x (λ address. false)) at })

  pub ends-at : (o : Origin) → ((c : MemoryState) × IsMemoryAt net (way_target net forms o) c) ⊎ IsQuiet o
  ends-at o = go (slice_get net.nodes (way_target net forms o)) refl
    where
      go : (x : Option (Acted NodeState)) → slice_get net.nodes (way_target net forms o) ≡ x → ((c : MemoryState) × IsMemoryAt net (way_target net forms o) c) ⊎ IsQuiet o
      go None none = inr (record {
        noted = absent (way_target net forms o) none;
        may = λ write. ap (λ (x : Option (Acted NodeState)). option_map_or (λ (a : Acted NodeState). may_access a.state.kind a.state.state write) x (λ address. false)) none;
      })
      go (Some a) at = ends-kind o a.state.kind a.state.state a.out at

  module _ (node : ℕ) (s : ManagerState) (place : ℕ) (item : ScriptItem) (own : IsItem net node s place item) where
    abbrev its_origin : Origin
    its_origin = origin net forms sound node s place item own

    abbrev number : ℕ
    number = item.txn.number

    -- where it ends
    abbrev pub target : ℕ
    target = way_target net forms its_origin

    abbrev pub carried_there : Share
    carried_there = (way_end net forms its_origin).share

    -- an event of its number is there, and of its direction
    pub record IsThere (e : Event) : Type 0 where
      pub node_is : e.node ≡ target
      pub direction : e.write ≡ item.txn.write

    pub events-there : (n : ℕ) → All (λ (e : Event). e.number ≡ number → IsThere e) (events_after n net)
    events-there n =
        all-events net (λ (e : Event). e.number ≡ number → IsThere e) n (λ m less k.
        All-weaker (IsOfItem net forms sound m k) (λ (a : Access). a.number ≡ number → IsThere (event_of (suc m) k a))
        (λ a of same.
        let one : origin net forms sound of.manager of.s of.place of.item of.own ≡ its_origin =
        sound.once (origin net forms sound of.manager of.s of.place of.item of.own) its_origin (among net forms sound of.manager of.s of.place of.item of.own) (among net forms sound node s place item own) (of.same_number ∙ same) in
        record { node_is = sym of.target ∙ ap (way_target net forms) one; direction = sym of.direction ∙ ap (λ (o : Origin). o.write) one })
        (noted_in node_kind net k m) (of-item net forms sound m k))

    -- so its events are those of its number among its target's
    pub events-here : (n : ℕ) → events_of number (events_after n net) ≡ events_of number (events_at net target n)
    events-here n =
        sym (filter-filter (λ (e : Event). e.number == number) (λ (e : Event). e.node == target) (events_after n net)
        ∙ filter-all (λ (e : Event). e.node == target) (events_of number (events_after n net)) (λ k e at.
        let from = filter-from (λ (e : Event). e.number == number) (events_after n net) k e at in
        let there = at-all (λ (e : Event). e.number ≡ number → IsThere e) (events_after n net) from.1 e (events-there n) from.2 (eqb-true e.number number from.0) in
        eq-eqb e.node target there.node_is))

    module _ (quiet : IsQuiet its_origin) where
      pub no-events : (n : ℕ) → events_of number (events_after n net) ≡ []
      no-events n =
          let none : events_at net target n ≡ [] = nil-of_map access_of_event (events_at net target n) (events-noted net target n ∙ quiet.noted n) in
          events-here n ∙ ap (events_of number) none

      pub none-due : bytes_due (due_of net forms node s item) ≡ []
      none-due =
          ap (λ (may : ℕ → Bool). filter is_allowed (bytes_carried (forms (way_end net forms its_origin).link) may item.txn.write carried_there)) (quiet.may item.txn.write)
          ∙ none-allowed (forms (way_end net forms its_origin).link) item.txn.write carried_there

    -- ---- where it ends at a memory

    module _ (c : MemoryState) (is : IsMemoryAt net target c) where
      -- the lanes that are wanted of a beat of a read
      abbrev pub wanted : BeatOf → Span
      wanted = wanted_by is.lite c.area

      pub end-link : (way_end net forms its_origin).link ≡ c.inner.upper
      end-link =
          one-upper net forms sound target c is (way_end net forms its_origin).link (end-known net forms sound its_origin (among net forms sound node s place item own)) refl

      pub carried-here : carried node_kind net item.txn.write c.inner.upper number ≡ Some carried_there
      carried-here =
          subst (λ (l : ℕ). carried node_kind net item.txn.write l number ≡ Some carried_there) end-link (end-carried net forms sound its_origin (among net forms sound node s place item own))

      pub share-written : item.txn.write ≡ true → (schedules net forms sound c.inner.upper).writes number ≡ carried_there
      share-written writes = carried-is net forms sound true c.inner.upper number carried_there (ap (λ (b : Bool). carried node_kind net b c.inner.upper number) (sym writes) ∙ carried-here)

      pub share-read : item.txn.write ≡ false → (schedules net forms sound c.inner.upper).reads number ≡ carried_there
      share-read reads = carried-is net forms sound false c.inner.upper number carried_there (ap (λ (b : Bool). carried node_kind net b c.inner.upper number) (sym reads) ∙ carried-here)

      -- no link carries it in the other direction
      none-carried : (write : Bool) → item.txn.write ≢ write → carried node_kind net write c.inner.upper number ≡ None
      none-carried write other = go (find (is_origin write number) (origins_in node_kind net.nodes)) refl
        where
          go : (o : Option Origin) → find (is_origin write number) (origins_in node_kind net.nodes) ≡ o → carried node_kind net write c.inner.upper number ≡ None
          go None none = not-carried node_kind node_holds net forms sound write number c.inner.upper none
          go (Some found) is_found =
              let has = find-has (is_origin write number) (origins_in node_kind net.nodes) found is_found in
              let parts = and_parts (beq found.write write) (found.number == number) has.0 in
              let one = sound.once its_origin found (among net forms sound node s place item own) (contains-at (origins_in node_kind net.nodes) has.1 found has.2) (sym (eqb-true found.number number parts.1)) in
              absurd (other (ap (λ (o : Origin). o.write) one ∙ beq-true found.write write parts.0))

      module _ (n : ℕ) where
        abbrev pub data_count : ℕ
        data_count = length (of_key number_of_data number (lower_end node_kind net c.inner.upper n).w)

        abbrev pub read_count : ℕ
        read_count = length (of_key number_of_read_data number (lower_end node_kind net c.inner.upper n).r)

        abbrev noted : List Access
        noted = noted_by node_kind net target n

        pub own-writes : item.txn.write ≡ true → map (λ (a : Access). a.byte) (accesses_of true number noted) ≡ due_writes c.area carried_there data_count
        own-writes writes =
            (memory-keeps net forms sound target c is n).accessed.written number ∙ ap (λ (area : MemoryArea). due_writes area ((schedules net forms sound c.inner.upper).writes number) data_count) (area-is net forms sound target c is n)
            ∙ ap (λ (share : Share). due_writes c.area share data_count) (share-written writes)

        pub own-reads : item.txn.write ≡ false → map (λ (a : Access). a.byte.address) (accesses_of false number noted) ≡ wanted_due c.area wanted carried_there read_count
        own-reads reads =
            (memory-keeps net forms sound target c is n).accessed.read number ∙ ap (λ (area : MemoryArea). wanted_due area (wanted_by is.lite area) ((schedules net forms sound c.inner.upper).reads number) read_count) (area-is net forms sound target c is n)
            ∙ ap (λ (share : Share). wanted_due c.area wanted share read_count) (share-read reads)

        nothing : {X Y : Type 0} (f : X → List Y) (count : ℕ) → flat_map f (take count []) ≡ []
        nothing f zero = refl
        nothing f (suc count) = refl

        pub no-reads : item.txn.write ≡ true → accesses_of false number noted ≡ []
        no-reads writes =
            nil-of_map (λ (a : Access). a.byte.address) (accesses_of false number noted)
            ((memory-keeps net forms sound target c is n).accessed.read number
            ∙ ap (λ (o : Option Share). wanted_due (memory_run net c n).area (wanted_by is.lite (memory_run net c n).area) (unwrap_or o no_share) read_count) (none-carried false (λ same. let never : true ≡ false = sym writes ∙ same in absurd (cc)))
            ∙ nothing (wanted_addresses (memory_run net c n).area (wanted_by is.lite (memory_run net c n).area)) read_count)

        pub no-writes : item.txn.write ≡ false → accesses_of true number noted ≡ []
        no-writes reads =
            nil-of_map (λ (a : Access). a.byte) (accesses_of true number noted)
            ((memory-keeps net forms sound target c is n).accessed.written number
            ∙ ap (λ (o : Option Share). due_writes (memory_run net c n).area (unwrap_or o no_share) data_count) (none-carried true (λ same. let never : false ≡ true = sym reads ∙ same in absurd (cc)))
            ∙ nothing (λ (b : BeatOf × WBeat). stored_bytes (memory_run net c n).area b.0.request b.0.beat b.1) data_count)

        -- its events are what its first beats write, or read
        pub item-writes : item.txn.write ≡ true → map access_made (events_of number (events_after n net)) ≡ map shown_write (due_writes c.area carried_there data_count)
        item-writes writes =
            let all = events-noted net target n in
            ap (map access_made) (events-here n)
            ∙ events-written number (events_at net target n) (ap (accesses_of false number) all ∙ no-reads writes)
            ∙ ap (map shown_write) (ap (λ (xs : List Access). map (λ (a : Access). a.byte) (accesses_of true number xs)) all ∙ own-writes writes)

        pub item-reads : item.txn.write ≡ false → map access_made (events_of number (events_after n net)) ≡ map shown_read (wanted_due c.area wanted carried_there read_count)
        item-reads reads =
            let all = events-noted net target n in
            ap (map access_made) (events-here n)
            ∙ events-read number (events_at net target n) (ap (accesses_of true number) all ∙ no-writes reads)
            ∙ ap (map shown_read) (ap (λ (xs : List Access). map (λ (a : Access). a.byte.address) (accesses_of false number xs)) all ∙ own-reads reads)

      -- ---- what is due there

      may-is : (write : Bool) → may_at_target net forms write its_origin ≡ may_access AMemory c write
      may-is write = ap (λ (x : Option (Acted NodeState)). option_map_or (λ (a : Acted NodeState). may_access a.state.kind a.state.state write) x (λ address. false)) is.at ∙ may-by is.lite c write

      form-bus : (forms (way_end net forms its_origin).link).bus ≡ c.area.bus
      form-bus = ap (λ (l : ℕ). (forms l).bus) end-link ∙ (has-form net forms sound target c is).bus

      form-protocol : (forms (way_end net forms its_origin).link).lite ≡ is.lite
      form-protocol = ap (λ (l : ℕ). (forms l).lite) end-link ∙ (has-form net forms sound target c is).protocol

      -- the wanted lanes there are those of its protocol
      spans-are : (b : BeatOf) → wanted_span (forms (way_end net forms its_origin).link) b.request b.beat ≡ wanted b
      spans-are b =
          ap (λ (lite : Bool). cond lite (record { low = b.request.tag.low; high = b.request.tag.high }) (valid_span b.request b.beat (forms (way_end net forms its_origin).link).bus)) form-protocol
          ∙ ap (λ (bus : ℕ). cond is.lite (record { low = b.request.tag.low; high = b.request.tag.high }) (valid_span b.request b.beat bus)) form-bus

      pub writes-named : item.txn.write ≡ true → map access_due (bytes_due (due_of net forms node s item)) ≡ map shown_write (flat_map (λ (b : BeatOf × WBeat). stored_bytes c.area b.0.request b.0.beat b.1) (beats_with_data carried_there))
      writes-named writes =
          ap (λ (b : Bool). map access_due (filter is_allowed (bytes_carried (forms (way_end net forms its_origin).link) (may_at_target net forms b its_origin) b carried_there))) writes
          ∙ ap (λ (may : ℕ → Bool). map access_due (filter is_allowed (flat_map (strobed_of_beat (forms (way_end net forms its_origin).link).bus may) (beats_with_data carried_there)))) (may-is true)
          ∙ ap (λ (bus : ℕ). map access_due (filter is_allowed (flat_map (strobed_of_beat bus (may_write c.area)) (beats_with_data carried_there)))) form-bus
          ∙ writes-due c.area (beats_with_data carried_there)

      pub lanes-in_order : All (HasLanes wanted) (beats_of_parts carried_there.parts)
      lanes-in_order =
          beats-ordered (forms (way_end net forms its_origin).link) item.txn.write carried_there
          (is-carried node_kind node_holds net forms sound item.txn.write number (way_end net forms its_origin).link carried_there (end-carried net forms sound its_origin (among net forms sound node s place item own))).fits
          wanted spans-are

      pub reads-named : item.txn.write ≡ false → map access_due (bytes_due (due_of net forms node s item)) ≡ map shown_read (flat_map (wanted_addresses c.area wanted) (beats_of_parts carried_there.parts))
      reads-named reads =
          ap (λ (b : Bool). map access_due (filter is_allowed (bytes_carried (forms (way_end net forms its_origin).link) (may_at_target net forms b its_origin) b carried_there))) reads
          ∙ ap (λ (may : ℕ → Bool). map access_due (filter is_allowed (flat_map (wanted_of_beat (forms (way_end net forms its_origin).link) may) (beats_of_parts carried_there.parts)))) (may-is false)
          ∙ reads-due c.area wanted (forms (way_end net forms its_origin).link) spans-are form-bus (beats_of_parts carried_there.parts) lanes-in_order

      -- which of its bytes may be read
      pub reads-named_allowed : item.txn.write ≡ false → map is_allowed (due_of net forms node s item).bytes ≡ flat_map (wanted_allowed c.area wanted) (beats_of_parts carried_there.parts)
      reads-named_allowed reads =
          ap (λ (b : Bool). map is_allowed (bytes_carried (forms (way_end net forms its_origin).link) (may_at_target net forms b its_origin) b carried_there)) reads
          ∙ ap (λ (may : ℕ → Bool). map is_allowed (flat_map (wanted_of_beat (forms (way_end net forms its_origin).link) may) (beats_of_parts carried_there.parts))) (may-is false)
          ∙ reads-allowed c.area wanted (forms (way_end net forms its_origin).link) spans-are form-bus (beats_of_parts carried_there.parts) lanes-in_order

      -- and the values that it has read
      pub item-values : item.txn.write ≡ false → (n : ℕ) → values_of number (events_after n net) ≡ map (λ (a : Access). a.byte.value) (accesses_of false number (noted_by node_kind net target n))
      item-values reads n =
          let all = events-noted net target n in
          ap (map (λ (e : Event). e.value)) (events-here n)
          ∙ events-values number (events_at net target n) (ap (accesses_of true number) all ∙ no-writes n reads)
          ∙ ap (λ (xs : List Access). map (λ (a : Access). a.byte.value) (accesses_of false number xs)) all

      -- the events are the first of what is due
      begins-there : (n : ℕ) → IsPrefix (map access_made (events_of number (events_after n net))) (map access_due (bytes_due (due_of net forms node s item)))
      begins-there n = elim (cases_Bool item.txn.write) [
        | inl writes ↦
            subst (λ (front : List (ℕ × Option ℕ)). IsPrefix front (map access_due (bytes_due (due_of net forms node s item)))) (sym (item-writes n writes))
            (subst (IsPrefix (map shown_write (due_writes c.area carried_there (data_count n)))) (sym (writes-named writes))
            (prefix_map shown_write (prefix_flat_map (λ (b : BeatOf × WBeat). stored_bytes c.area b.0.request b.0.beat b.1) (prefix_first (data_count n) (beats_with_data carried_there)))))
        | inr reads ↦
            subst (λ (front : List (ℕ × Option ℕ)). IsPrefix front (map access_due (bytes_due (due_of net forms node s item)))) (sym (item-reads n reads))
            (subst (IsPrefix (map shown_read (wanted_due c.area wanted carried_there (read_count n)))) (sym (reads-named reads))
            (prefix_map shown_read (prefix_flat_map (wanted_addresses c.area wanted) (prefix_first (read_count n) (beats_of_parts carried_there.parts)))))
      ]

      -- and a read sees the latest write
      latest-there : (n : ℕ) (earlier later : List Event) (e : Event) → events_after n net ≡ earlier ++ e ∷ later → e.node ≡ target → e.write ≡ false →
          e.value ≡ value_after (is_write_at e.node e.address) event_value c.area.fill earlier
      latest-there n earlier later e are at reads =
          let split : events_at net target n ≡ of_key node_of_event target earlier ++ e ∷ of_key node_of_event target later =
          ap (of_key node_of_event target) are
          ∙ subst (λ (k : ℕ). of_key node_of_event k (earlier ++ e ∷ later) ≡ of_key node_of_event k earlier ++ e ∷ of_key node_of_event k later) at (of_key-between node_of_event earlier e later) in
          let all : noted_by node_kind net target n ≡ map access_of_event (of_key node_of_event target earlier) ++ access_of_event e ∷ map access_of_event (of_key node_of_event target later) =
          sym (events-noted net target n) ∙ ap (map access_of_event) split ∙ map-append access_of_event (of_key node_of_event target earlier) (e ∷ of_key node_of_event target later) in
          (memory-keeps net forms sound target c is n).accessed.latest (map access_of_event (of_key node_of_event target earlier)) (map access_of_event (of_key node_of_event target later)) (access_of_event e) all reads
          ∙ ap (λ (area : MemoryArea). value_after (writes_at e.address) (λ (a : Access). a.byte.value) area.fill (map access_of_event (of_key node_of_event target earlier))) (area-is net forms sound target c is n)
          ∙ sym (held-left target e.address c.area.fill (of_key node_of_event target earlier) (of_key-has node_of_event target earlier))
          ∙ sym (only-node target e.address c.area.fill earlier)
          ∙ ap (λ (k : ℕ). value_after (is_write_at k e.address) event_value c.area.fill earlier) (sym at)

      fill-is : of_target net forms 0 fill_of its_origin ≡ c.area.fill
      fill-is = ap (λ (x : Option (Acted NodeState)). option_map_or (λ (a : Acted NodeState). fill_of a.state.kind a.state.state) x 0) is.at ∙ fill-by is.lite c

    pub item-begins : (n : ℕ) → IsPrefix (map access_made (events_of number (events_after n net))) (map access_due (bytes_due (due_of net forms node s item)))
    item-begins n = elim (ends-at its_origin) [
      | inl memory ↦ begins-there memory.0 memory.1 n
      | inr quiet ↦
          subst (λ (events : List Event). IsPrefix (map access_made events) (map access_due (bytes_due (due_of net forms node s item)))) (sym (no-events quiet n)) (prefix_nil (map access_due (bytes_due (due_of net forms node s item))))
    ]

    pub item-latest : (n : ℕ) (earlier later : List Event) (e : Event) → events_after n net ≡ earlier ++ e ∷ later → e.number ≡ number → e.write ≡ false →
        e.value ≡ value_after (is_write_at e.node e.address) event_value (due_of net forms node s item).fill earlier
    item-latest n earlier later e are same reads =
        let there = All-middle (λ (x : Event). x.number ≡ number → IsThere x) earlier e later (subst (All (λ (x : Event). x.number ≡ number → IsThere x)) are (events-there n)) same in
        elim (ends-at its_origin) [
          | inl memory ↦
              latest-there memory.0 memory.1 n earlier later e are there.node_is reads
              ∙ ap (λ (fill : ℕ). value_after (is_write_at e.node e.address) event_value fill earlier) (sym (fill-is memory.0 memory.1))
          | inr quiet ↦
              let none : events_of number (events_after n net) ≡ [] = no-events quiet n in
              let some : events_of number (events_after n net) ≡ events_of number earlier ++ e ∷ events_of number later =
              ap (events_of number) are ∙ subst (λ (t : ℕ). of_key (λ (x : Event). x.number) t (earlier ++ e ∷ later) ≡ of_key (λ (x : Event). x.number) t earlier ++ e ∷ of_key (λ (x : Event). x.number) t later) same (of_key-between (λ (x : Event). x.number) earlier e later) in
              absurd (never-cut (events_of number earlier) e (events_of number later) (sym none ∙ some))
        ]
