-- Where what is known of a transaction is known: at the node where its way ends, and nowhere else.
use Rattle.std.proofs.Common.{◌≡◌, ◌≢◌, ◌<◌, ◌+◌, ◌==◌, [], ◌∷◌, ◌++◌, ℕ, zero, suc, Bool, true, false, List, Option, Some, None, append-nil, length, refl, sym, ap, ap₂, ◌∙◌, subst, arith}
use Rattle.std.specs.Prelude.{Contains, IsTrue, flat_map, map, nat_lt, slice_get, unwrap_or}
use Rattle.std.specs.List.{range_with_len}
use Rattle.std.specs.Option.{option_map_or}
use Rattle.std.proofs.lemmas.Bool.{and_parts, eqb-true, ltb-true}
use Rattle.std.proofs.lemmas.List.{take_all}
use Rattle.std.proofs.lemmas.List.Concat.{flat_map-cons}
use Rattle.std.proofs.lemmas.List.Folds.{Any-from_list_any}
use Rattle.std.proofs.lemmas.Option.{same_Some}
use Rattle.axi_beats.specs.Lanes.{Span}
use Rattle.axi_beats.specs.declared.beat.RBeat.{RBeat}
use Rattle.axi_link.specs.declared.out.Out.{Out}
use Rattle.axi_trail.specs.Schedule.{Progress, Share, bytes_on, no_share}
use Rattle.axi_trail.specs.Trail.{trail_below}
use Rattle.axi_trail.specs.Words.{number_of_data, number_of_read_data}
use Rattle.burst_address.specs.Accesses.{answered_bytes}
use Rattle.error_node.specs.ErrorState.{ErrorState}
use Rattle.lite_memory_node.specs.LiteMemoryTable.{tag_span}
use Rattle.memory_node.specs.Accesses.{accesses_of, beat_span}
use Rattle.memory_node.specs.Events.{Access}
use Rattle.memory_node.specs.MemoryArea.{MemoryArea}
use Rattle.memory_node.specs.MemoryState.{MemoryState}
use Rattle.memory_node.specs.MemoryTrail.{knows_on, memory_knows}
use Rattle.memory_node.specs.WantedReads.{wanted_allowed, wanted_before}
use Rattle.net_history.proofs.EndLemmas.{end-at}
use Rattle.net_history.proofs.ItemLemmas.{now, schedules}
use Rattle.net_history.proofs.ManagerRuns.{from-first}
use Rattle.net_history.proofs.MemoryRuns.{IsMemoryAt, area-is, ends-here, knows-by, memory-stands, memory_run, runs-alike, upper-is, upper-link, wanted_by}
use Rattle.net_history.proofs.RunStates.{acted_as, run_state, stands-at}
use Rattle.net_history.specs.Due.{way_target}
use Rattle.net_kinds.specs.NodeHolds.{node_holds}
use Rattle.net_kinds.specs.NodeKind.{KindName, NodeState, StateOf, node_kind}
use Rattle.net_kinds.specs.NodeKind.KindName.{ADemux, ALite, ALiteMemory, AManager, AMemory, AMux, ARemap, ASlice, ASplit, AnError, AnUp}
use Rattle.net_model.specs.Network.{Network, lower_node}
use Rattle.net_runs.specs.Run.{chosen, lower_end, nodes_after, noted_by, passed_by, queues_after}
use Rattle.net_ways.proofs.OriginLemmas.{own-upper}
use Rattle.net_ways.specs.Known.{known_at, nothing_known}
use Rattle.net_ways.specs.Sound.{IsSound}
use Rattle.net_ways.specs.Ways.{carried, origins_in, way_below}
use Rattle.node_core.specs.Acted.{Acted}
use Rattle.node_shape.specs.LinkForm.{LinkForm}
use Rattle.node_shape.specs.Way.{Origin, start_here}
use Rattle.plain_lists.proofs.PrefixLemmas.{prefix_itself, prefix_nil}
use Rattle.plain_lists.specs.Keys.{of_key}
use Rattle.plain_lists.specs.Prefixes.{IsPrefix}
use Rattle.subordinate.specs.Parts.{BeatOf, beats_of_parts}
use Rattle.subordinate.specs.Tracks.{is_written}

all-none : {X : Type 0} (f : ℕ → List X) (first count : ℕ) → ((i : ℕ) → f (first + i) ≡ []) → flat_map f (range_with_len first count) ≡ []
all-none f first zero each = refl
all-none f first (suc count) each =
    let here : first ≡ first + 0 = omega arith in
    flat_map-cons f first (range_with_len (first + 1) count)
    ∙ ap₂ (λ (front back : List _). front ++ back) (ap f here ∙ each 0) (all-none f (first + 1) count (λ i. let next : (first + 1) + i ≡ first + suc i = omega arith in ap f next ∙ each (suc i)))

-- where all other lists are empty, all together are the first of one
one-list : {X : Type 0} (f : ℕ → List X) (first count k : ℕ) → ((i : ℕ) → ¬ (i ≡ k) → f (first + i) ≡ []) → IsPrefix (flat_map f (range_with_len first count)) (f (first + k))
one-list f first zero k none = prefix_nil (f (first + k))
one-list f first (suc count) zero none =
    let here : first ≡ first + 0 = omega arith in
    let others : flat_map f (range_with_len (first + 1) count) ≡ [] = all-none f (first + 1) count (λ i. let next : (first + 1) + i ≡ first + suc i = omega arith in ap f next ∙ none (suc i) (λ same. absurd (omega (arith, same)))) in
    subst (λ (xs : List _). IsPrefix xs (f (first + 0))) (sym (flat_map-cons f first (range_with_len (first + 1) count) ∙ ap₂ (λ (front back : List _). front ++ back) (ap f here) others ∙ append-nil (f (first + 0)))) (prefix_itself (f (first + 0)))
one-list f first (suc count) (suc k) none =
    let here : first ≡ first + 0 = omega arith in
    let last : (first + 1) + k ≡ first + suc k = omega arith in
    subst (IsPrefix (flat_map f (range_with_len first (suc count)))) (ap f last)
    (subst (λ (xs : List _). IsPrefix xs (f ((first + 1) + k)))
    (sym (flat_map-cons f first (range_with_len (first + 1) count) ∙ ap (λ (front : List _). front ++ flat_map f (range_with_len (first + 1) count)) (ap f here ∙ none 0 (λ same. absurd (omega (arith, same))))))
    (one-list f (first + 1) count k (λ i other. let next : (first + 1) + i ≡ first + suc i = omega arith in ap f next ∙ none (suc i) (λ same. other (omega (arith, same))))))

no-lanes : (beats : List RBeat) → bytes_on beats [] ≡ []
no-lanes [] = refl
no-lanes (r ∷ beats) = refl

module _ (net : Network NodeState) (forms : ℕ → LinkForm) (sound : IsSound node_kind net forms) where
  -- ---- an error subordinate

  pub record IsErrorAt (node : ℕ) (s : ErrorState) : Type 0 where
    pub out : Out
    pub at : slice_get net.nodes node ≡ Some (acted_as AnError s out)

  module _ (node : ℕ) (s : ErrorState) (is : IsErrorAt node s) where
    error-upper : (n : ℕ) → (run_state net AnError s n).upper ≡ s.upper
    error-upper zero = refl
    error-upper (suc n) = error-upper n

    error-link : (s.upper < length net.links) × (lower_node net.links s.upper ≡ node)
    error-link = own-upper node_kind node_holds net forms sound node (acted_as AnError s is.out) is.at s.upper (0, omega arith, refl)

    error-ends : (share : Share) → (way_below node_kind net s.upper).goes_on share ≡ None
    error-ends share =
        ap (λ (k : ℕ). (option_map_or (λ (a : Acted NodeState). node_kind.way a.state) (slice_get net.nodes k) (start_here [])).goes_on share) error-link.1
        ∙ ap (λ (o : Option (Acted NodeState)). (option_map_or (λ (a : Acted NodeState). node_kind.way a.state) o (start_here [])).goes_on share) is.at

  -- ---- a written transaction

  -- its data has all come by a link below which it ends
  pub record IsWritten (m number : ℕ) : Type 0 where
    pub link : ℕ
    pub ends : (share : Share) → (way_below node_kind net link).goes_on share ≡ None
    pub some : 0 < length ((schedules net forms sound link).writes number).parts
    pub all : length (of_key number_of_data number (lower_end node_kind net link m).w) ≡ length (beats_of_parts ((schedules net forms sound link).writes number).parts)

  written-by : (m number k link : ℕ) → ((share : Share) → (way_below node_kind net link).goes_on share ≡ None) → lower_node net.links link ≡ k →
      is_written ((schedules net forms sound link).writes number) (length (of_key number_of_data number (trail_below (chosen node_kind net k) (queues_after node_kind net) m link).w)) ≡ true → IsWritten m number
  written-by m number k link ends below is =
      let share = (schedules net forms sound link).writes number in
      let here = subst (λ (j : ℕ). is_written share (length (of_key number_of_data number (trail_below (chosen node_kind net j) (queues_after node_kind net) m link).w)) ≡ true) (sym below) is in
      let parts = and_parts (nat_lt 0 (length share.parts)) (length (of_key number_of_data number (lower_end node_kind net link m).w) == length (beats_of_parts share.parts)) here in
      record { link = link; ends = ends; some = ltb-true 0 (length share.parts) parts.0; all = eqb-true _ _ parts.1 }

  pub written-where : (m number : ℕ) → IsTrue ((now net forms sound m).written number) → IsWritten m number
  written-where m number known =
      let some = Any-from_list_any (λ (node : ℕ). (known_at node_kind net (schedules net forms sound) m node).written number) (range_with_len 0 (length net.nodes)) known in
      at-some_node some.1 (slice_get (nodes_after node_kind net m) some.1) refl some.4
    where
      of-memory : (k : ℕ) (s : MemoryState) → IsMemoryAt net k s →
          (memory_knows (schedules net forms sound) (memory_run net s m) (passed_by node_kind net k m)).written number ≡ true → IsWritten m number
      of-memory k s here is =
          let link = upper-link net forms sound k s here in
          written-by m number k s.inner.upper (ends-here net forms sound k s here s.inner.upper link.1) link.1
          (subst (λ (l : ℕ). is_written ((schedules net forms sound l).writes number) (length (of_key number_of_data number (trail_below (chosen node_kind net k) (queues_after node_kind net) m l).w)) ≡ true) (upper-is net forms sound k s here m) is)

      of-kind : (k : ℕ) (name : KindName) (s : StateOf name) (out : Out) → slice_get net.nodes k ≡ Some (acted_as name s out) →
          (node_kind.knows (schedules net forms sound) (record { kind = name; state = run_state net name s m }) (passed_by node_kind net k m)).written number ≡ true → IsWritten m number
      of-kind k AMemory s out at is = of-memory k s (record { lite = false; out = out; at = at }) is
      of-kind k ALiteMemory s out at is =
          let passed = passed_by node_kind net k m in
          of-memory k s (record { lite = true; out = out; at = at })
          (subst (λ (x : MemoryState). (knows_on (λ area. tag_span) (schedules net forms sound) x passed).written number ≡ true) (runs-alike net s m) is)
      of-kind k AnError s out at is =
          let here : IsErrorAt k s = record { out = out; at = at } in
          written-by m number k s.upper (error-ends k s here) (error-link k s here).1
          (subst (λ (l : ℕ). is_written ((schedules net forms sound l).writes number) (length (of_key number_of_data number (trail_below (chosen node_kind net k) (queues_after node_kind net) m l).w)) ≡ true) (error-upper k s here m) is)
      of-kind k AManager s out at is = absurd (cc)
      of-kind k ASlice s out at is = absurd (cc)
      of-kind k AMux s out at is = absurd (cc)
      of-kind k ADemux s out at is = absurd (cc)
      of-kind k ARemap s out at is = absurd (cc)
      of-kind k AnUp s out at is = absurd (cc)
      of-kind k ASplit s out at is = absurd (cc)
      of-kind k ALite s out at is = absurd (cc)

      at-some_node : (k : ℕ) (o : Option (Acted NodeState)) → slice_get (nodes_after node_kind net m) k ≡ o →
          (option_map_or (λ (a : Acted NodeState). node_kind.knows (schedules net forms sound) a.state (passed_by node_kind net k m)) o nothing_known).written number ≡ true → IsWritten m number
      at-some_node k None none is = absurd (cc)
      at-some_node k (Some a) at is =
          let first = from-first net m k a at in
          let there = stands-at net k first.0.state.kind first.0.state.state first.0.out first.1 m in
          let same : a ≡ acted_as first.0.state.kind (run_state net first.0.state.kind first.0.state.state m) there.out = same_Some a _ (sym at ∙ there.at) in
          of-kind k first.0.state.kind first.0.state.state first.0.out first.1
          (subst (λ (b : Acted NodeState). (node_kind.knows (schedules net forms sound) b.state (passed_by node_kind net k m)).written number ≡ true) same is)

  -- ---- the bytes that were read for a transaction

  module _ (origin : Origin) (among : Contains (origins_in node_kind net.nodes) origin) (reads : origin.write ≡ false) (m : ℕ) where
    -- of a link below which another node ends, nothing is carried
    not-here : (k link : ℕ) → k ≢ way_target net forms origin → lower_node net.links link ≡ k → ((share : Share) → (way_below node_kind net link).goes_on share ≡ None) →
        (o : Option Share) → carried node_kind net false link origin.number ≡ o → unwrap_or o no_share ≡ no_share
    not-here k link other below ends None is = refl
    not-here k link other below ends (Some share) is =
        let there = end-at net forms sound origin among link share (ap (λ (b : Bool). carried node_kind net b link origin.number) reads ∙ is) (ends share) in
        absurd (other (sym below ∙ sym (ap (lower_node net.links) there)))

    memory-other : (k : ℕ) (s : MemoryState) → IsMemoryAt net k s → k ≢ way_target net forms origin → (wanted : MemoryArea → BeatOf → Span) →
        (knows_on wanted (schedules net forms sound) (memory_run net s m) (passed_by node_kind net k m)).filled origin.number ≡ []
    memory-other k s here other wanted =
        let link = upper-link net forms sound k s here in
        let none : (schedules net forms sound s.inner.upper).reads origin.number ≡ no_share =
        not-here k s.inner.upper other link.1 (ends-here net forms sound k s here s.inner.upper link.1) (carried node_kind net false s.inner.upper origin.number) refl in
        let values = map (λ (a : Access). a.byte.value) (accesses_of false origin.number (noted_by node_kind net k m)) in
        let area = (memory_run net s m).area in
        ap (λ (l : ℕ). answered_bytes (wanted_before area (wanted area) ((schedules net forms sound l).reads origin.number) (length (beats_of_parts ((schedules net forms sound l).reads origin.number).parts))) values) (upper-is net forms sound k s here m)
        ∙ ap (λ (share : Share). answered_bytes (wanted_before area (wanted area) share (length (beats_of_parts share.parts))) values) none

    of-other : (k : ℕ) (name : KindName) (s : StateOf name) (out : Out) → slice_get net.nodes k ≡ Some (acted_as name s out) → k ≢ way_target net forms origin →
        (node_kind.knows (schedules net forms sound) (record { kind = name; state = run_state net name s m }) (passed_by node_kind net k m)).filled origin.number ≡ []
    of-other k AMemory s out at other = memory-other k s (record { lite = false; out = out; at = at }) other beat_span
    of-other k ALiteMemory s out at other =
        ap (λ (x : MemoryState). (knows_on (λ area. tag_span) (schedules net forms sound) x (passed_by node_kind net k m)).filled origin.number) (runs-alike net s m)
        ∙ memory-other k s (record { lite = true; out = out; at = at }) other (λ area. tag_span)
    of-other k AnError s out at other =
        let here : IsErrorAt k s = record { out = out; at = at } in
        let none : (schedules net forms sound s.upper).reads origin.number ≡ no_share =
        not-here k s.upper other (error-link k s here).1 (error-ends k s here) (carried node_kind net false s.upper origin.number) refl in
        let beats : ℕ → List RBeat = λ l. of_key number_of_read_data origin.number (trail_below (chosen node_kind net k) (queues_after node_kind net) m l).r in
        ap (λ (l : ℕ). bytes_on (beats l) ((schedules net forms sound l).reads origin.number).lanes) (error-upper k s here m)
        ∙ ap (λ (share : Share). bytes_on (beats s.upper) share.lanes) none ∙ no-lanes (beats s.upper)
    of-other k AManager s out at other = refl
    of-other k ASlice s out at other = refl
    of-other k AMux s out at other = refl
    of-other k ADemux s out at other = refl
    of-other k ARemap s out at other = refl
    of-other k AnUp s out at other = refl
    of-other k ASplit s out at other = refl
    of-other k ALite s out at other = refl

    other-node : (k : ℕ) → ¬ (k ≡ way_target net forms origin) → (known_at node_kind net (schedules net forms sound) m k).filled origin.number ≡ []
    other-node k other = go (slice_get (nodes_after node_kind net m) k) refl
      where
        go : (o : Option (Acted NodeState)) → slice_get (nodes_after node_kind net m) k ≡ o →
            (option_map_or (λ (a : Acted NodeState). node_kind.knows (schedules net forms sound) a.state (passed_by node_kind net k m)) (slice_get (nodes_after node_kind net m) k) nothing_known).filled origin.number ≡ []
        go None none = ap (λ (o : Option (Acted NodeState)). (option_map_or (λ (a : Acted NodeState). node_kind.knows (schedules net forms sound) a.state (passed_by node_kind net k m)) o nothing_known).filled origin.number) none
        go (Some a) at =
            let first = from-first net m k a at in
            let there = stands-at net k first.0.state.kind first.0.state.state first.0.out first.1 m in
            ap (λ (o : Option (Acted NodeState)). (option_map_or (λ (a : Acted NodeState). node_kind.knows (schedules net forms sound) a.state (passed_by node_kind net k m)) o nothing_known).filled origin.number) there.at
            ∙ of-other k first.0.state.kind first.0.state.state first.0.out first.1 other

    -- all that is known to be read for it was read where it ends
    pub filled-there : IsPrefix ((now net forms sound m).filled origin.number) ((known_at node_kind net (schedules net forms sound) m (way_target net forms origin)).filled origin.number)
    filled-there =
        let f : ℕ → List ℕ = λ node. (known_at node_kind net (schedules net forms sound) m node).filled origin.number in
        let same : 0 + way_target net forms origin ≡ way_target net forms origin = omega arith in
        subst (IsPrefix ((now net forms sound m).filled origin.number)) (ap f same)
        (one-list f 0 (length net.nodes) (way_target net forms origin) (λ i other. let index : 0 + i ≡ i = omega arith in ap f index ∙ other-node i other))

    -- at a memory it is what may be read of it, so far as it was read
    pub filled-memory : (c : MemoryState) (is : IsMemoryAt net (way_target net forms origin) c) →
        (known_at node_kind net (schedules net forms sound) m (way_target net forms origin)).filled origin.number
        ≡ answered_bytes (flat_map (wanted_allowed c.area (wanted_by is.lite c.area)) (beats_of_parts ((schedules net forms sound c.inner.upper).reads origin.number).parts))
        (map (λ (a : Access). a.byte.value) (accesses_of false origin.number (noted_by node_kind net (way_target net forms origin) m)))
    filled-memory c is =
        let k = way_target net forms origin in
        let there = memory-stands net forms sound k c is m in
        let values = map (λ (a : Access). a.byte.value) (accesses_of false origin.number (noted_by node_kind net k m)) in
        let share = (schedules net forms sound c.inner.upper).reads origin.number in
        let before : MemoryArea → Share → List ℕ = λ area share. answered_bytes (wanted_before area (wanted_by is.lite area) share (length (beats_of_parts share.parts))) values in
        ap (λ (o : Option (Acted NodeState)). (option_map_or (λ (a : Acted NodeState). node_kind.knows (schedules net forms sound) a.state (passed_by node_kind net k m)) o nothing_known).filled origin.number) there.at
        ∙ ap (λ (p : Progress). p.filled origin.number) (knows-by is.lite (schedules net forms sound) (memory_run net c m) (passed_by node_kind net k m))
        ∙ ap (λ (l : ℕ). before (memory_run net c m).area ((schedules net forms sound l).reads origin.number)) (upper-is net forms sound k c is m)
        ∙ ap (λ (area : MemoryArea). before area share) (area-is net forms sound k c is m)
        ∙ ap (λ bs. answered_bytes (flat_map (wanted_allowed c.area (wanted_by is.lite c.area)) bs) values) (take_all (length (beats_of_parts share.parts)) (beats_of_parts share.parts) (omega arith))
