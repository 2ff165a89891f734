-- The answers on each link are within the ranges of a trace line: each was put by a subordinate further below.
use Rattle.std.proofs.Common.{◌≡◌, ◌<◌, ◌+◌, ◌/◌, ◌==◌, [], ℕ, zero, suc, Bool, true, false, Option, Some, None, length, map, refl, sym, ap, ◌∙◌, subst, arith}
use Rattle.std.specs.Prelude.{All, Contains, IfSome, IsTrue, slice_get}
use Rattle.std.specs.Option.{option_map_or}
use Rattle.std.proofs.lemmas.List.Elements.{All-append, All-contains, All-filter, All-map, All-nil, All-weaker}
use Rattle.axi_beats.specs.Bus.{IsBusWidth}
use Rattle.axi_beats.specs.declared.beat.BBeat.{BBeat}
use Rattle.axi_beats.specs.declared.beat.RBeat.{RBeat}
use Rattle.axi_beats.specs.declared.beat.WBeat.{WBeat}
use Rattle.axi_link.proofs.KeepLemmas.{All-appended}
use Rattle.axi_link.specs.LinkWords.{has_room, head_of, link_of}
use Rattle.axi_link.specs.Moves.{appended}
use Rattle.axi_link.specs.declared.out.Out.{Out}
use Rattle.axi_trail.proofs.TrailFacts.{links_are_queues}
use Rattle.axi_trail.specs.SelectionLaws.{goes_way}
use Rattle.axi_trail.specs.Trail.{Beats, IsFifo, moved_below, trail_below}
use Rattle.axi_trail.specs.Words.{number_of_read_data, number_of_response}
use Rattle.burst_address.specs.Bytes.{Byte}
use Rattle.demux_node.proofs.AnswerLemmas.{lower-among, port_of_parts-within}
use Rattle.demux_node.specs.DemuxState.{DemuxShape, DemuxState}
use Rattle.demux_node.specs.DemuxTrail.{read_lower, read_port, write_lower, write_port}
use Rattle.error_node.specs.ErrorState.{ErrorState}
use Rattle.error_node.specs.ErrorTable.{error_service}
use Rattle.lite_node.specs.LiteState.{LiteShape, LiteState}
use Rattle.lite_node.specs.LiteTable.{returned_b, returned_r}
use Rattle.lite_node.specs.LiteTrail.{returned_in_order}
use Rattle.memory_node.specs.Events.{Access}
use Rattle.memory_node.specs.MemoryArea.{MemoryArea, is_in_some, is_inside}
use Rattle.memory_node.specs.MemoryState.{MemoryState}
use Rattle.memory_node.specs.MemoryTable.{memory_service}
use Rattle.memory_node.specs.Status.{may_read}
use Rattle.memory_node.specs.Store.{byte_at}
use Rattle.mux_node.specs.MuxState.{MuxShape, MuxState}
use Rattle.mux_node.specs.MuxTable.{ids_of, narrowed_b, narrowed_r}
use Rattle.mux_node.specs.MuxTrail.{at_input}
use Rattle.net_history.proofs.ItemLemmas.{link-run, now, schedules}
use Rattle.net_history.proofs.ManagerRuns.{run-keeps}
use Rattle.net_history.proofs.MemoryRuns.{IsMemoryAt, area-is, has-form, memory-begins, memory-keeps, memory_run, memory_state, runs-alike, upper-link}
use Rattle.net_history.proofs.RunStates.{acted_as, holds-at, run_state, stands-at}
use Rattle.net_kinds.specs.NodeHolds.{node_holds}
use Rattle.net_kinds.specs.NodeKind.{KindName, NodeState, StateOf, kind_by_name, node_kind}
use Rattle.net_kinds.specs.NodeKind.KindName.{ADemux, ALite, ALiteMemory, AManager, AMemory, AMux, ARemap, ASlice, ASplit, AnError, AnUp}
use Rattle.net_model.specs.Network.{Network, lower_node, upper_node}
use Rattle.net_ranges.proofs.AnswerRanges.{accesses-write, inside-read, left-byte, read_data-put, responses-put, written-bytes}
use Rattle.net_ranges.proofs.BeatRanges.{IsAddressInRange, IsReadDataInRange, IsResponseInRange, narrowed-read_data, narrowed-response, read-on_bus, zeros-on_bus}
use Rattle.net_ranges.proofs.CutRanges.{head-has, lasts-read, read_data-returned, response-puts, responses-returned}
use Rattle.net_ranges.proofs.FormLemmas.{is-sound, one-of}
use Rattle.net_ranges.proofs.RemapRanges.{remap-gives_back}
use Rattle.net_ranges.proofs.RequestRanges.{data-carried, reads-asked, writes-asked}
use Rattle.net_ranges.proofs.UpRanges.{read_data-narrowed}
use Rattle.net_ranges.specs.TraceLines.{FitsLanes, FitsTraces}
use Rattle.net_runs.proofs.ContractFacts.{at-some, chosen-is}
use Rattle.net_runs.specs.Run.{chosen, lower_end, noted_by, passed_by, queues_after, upper_end}
use Rattle.net_ways.proofs.KnownLemmas.{is-scheduled}
use Rattle.net_ways.proofs.OriginLemmas.{own-lower, own-upper}
use Rattle.net_ways.specs.Sound.{IsSound}
use Rattle.node_core.specs.Acted.{Acted}
use Rattle.node_core.specs.Rows.{put_of}
use Rattle.node_shape.specs.Kind.{Passed, out_of}
use Rattle.node_shape.specs.LinkForm.{IsAlike, LinkForm}
use Rattle.plain_lists.proofs.PlaceLemmas.{at-contains}
use Rattle.plain_lists.proofs.PrefixLemmas.{All_front}
use Rattle.plain_lists.proofs.SelectedLemmas.{all-by_way}
use Rattle.plain_lists.specs.Keys.{of_key, selected}
use Rattle.plain_text.specs.ExactLaws.{AreBytes}
use Rattle.remap_node.specs.RemapState.{RemapShape, RemapState}
use Rattle.slice_node.specs.SliceState.{SliceState}
use Rattle.slice_node.specs.SliceTrail.{SliceKeeps}
use Rattle.split_node.specs.SplitState.{SplitState}
use Rattle.split_node.specs.SplitTable.{b_row, split_above}
use Rattle.split_node.specs.SplitTrail.{as_last_read}
use Rattle.subordinate.specs.Tracks.{KeepsOrder}
use Rattle.subordinate.specs.declared.entry.ReadEntry.{ReadEntry}
use Rattle.trace_text.specs.Ranges.{IsOnBus, IsTraceWriteData}
use Rattle.up_node.specs.UpState.{IsUpShape, UpState}
use Rattle.up_node.specs.declared.shape.UpShape.{UpShape}

module _ (net : Network NodeState) (forms : ℕ → LinkForm) (sound : IsSound node_kind net forms) (fits : FitsTraces net forms) where
  abbrev bus_of : ℕ → ℕ
  bus_of link = (forms link).bus

  -- what has been put on a link at its lower end
  pub record AreAnswersInRange (link n : ℕ) : Type 0 where
    pub b : All IsResponseInRange (lower_end node_kind net link n).b
    pub r : All (IsReadDataInRange (bus_of link)) (lower_end node_kind net link n).r

  pub fifo : (link : ℕ) → link < length net.links → (n : ℕ) → IsFifo (upper_end node_kind net link n) (lower_end node_kind net link n) (link_of (queues_after node_kind net n) link)
  fifo link known n = links_are_queues link (queues_after node_kind net) (chosen node_kind net (upper_node net.links link)) (chosen node_kind net (lower_node net.links link)) (link-run net forms sound link known) n

  -- what has come to the lower end of a link, and what has come back to its upper end
  writes-come : (link : ℕ) (known : link < length net.links) (n : ℕ) → All IsAddressInRange (lower_end node_kind net link n).aw
  writes-come link known n = let all = fifo link known n in All_front IsAddressInRange (record { rest = (link_of (queues_after node_kind net n) link).aw; whole = all.aw }) (writes-asked net forms sound fits link known n)

  reads-come : (link : ℕ) (known : link < length net.links) (n : ℕ) → All IsAddressInRange (lower_end node_kind net link n).ar
  reads-come link known n = let all = fifo link known n in All_front IsAddressInRange (record { rest = (link_of (queues_after node_kind net n) link).ar; whole = all.ar }) (reads-asked net forms sound fits link known n)

  responses-back : (link : ℕ) (known : link < length net.links) (n : ℕ) → AreAnswersInRange link n → All IsResponseInRange (upper_end node_kind net link n).b
  responses-back link known n answers = let all = fifo link known n in All_front IsResponseInRange (record { rest = (link_of (queues_after node_kind net n) link).b; whole = all.b }) answers.b

  read_data-back : (link : ℕ) (known : link < length net.links) (n : ℕ) → AreAnswersInRange link n → All (IsReadDataInRange (bus_of link)) (upper_end node_kind net link n).r
  read_data-back link known n answers = let all = fifo link known n in All_front (IsReadDataInRange (bus_of link)) (record { rest = (link_of (queues_after node_kind net n) link).r; whole = all.r }) answers.r

  -- where each round puts such responses, all are
  each-response : (link : ℕ) → ((n : ℕ) → All IsResponseInRange (moved_below (chosen node_kind net (lower_node net.links link) n) (queues_after node_kind net n) link).b) → (n : ℕ) →
      All IsResponseInRange (lower_end node_kind net link n).b
  each-response link each zero = All-nil IsResponseInRange
  each-response link each (suc n) =
      All-append IsResponseInRange (lower_end node_kind net link n).b (moved_below (chosen node_kind net (lower_node net.links link) n) (queues_after node_kind net n) link).b
      (each-response link each n) (each n)

  -- and where each round puts such answers
  each-round : (link : ℕ) → ((n : ℕ) → All IsResponseInRange (moved_below (chosen node_kind net (lower_node net.links link) n) (queues_after node_kind net n) link).b
      × All (IsReadDataInRange (bus_of link)) (moved_below (chosen node_kind net (lower_node net.links link) n) (queues_after node_kind net n) link).r) → (n : ℕ) → AreAnswersInRange link n
  each-round link each zero = record { b = All-nil IsResponseInRange; r = All-nil (IsReadDataInRange (bus_of link)) }
  each-round link each (suc n) =
      let before = each-round link each n in
      record {
        b = All-append IsResponseInRange (lower_end node_kind net link n).b (moved_below (chosen node_kind net (lower_node net.links link) n) (queues_after node_kind net n) link).b before.b (each n).0;
        r = All-append (IsReadDataInRange (bus_of link)) (lower_end node_kind net link n).r (moved_below (chosen node_kind net (lower_node net.links link) n) (queues_after node_kind net n) link).r before.r (each n).1;
      }

  -- the moves of a node of a kind
  moves-of : (name : KindName) (s : StateOf name) (out : Out) (node : ℕ) → slice_get net.nodes node ≡ Some (acted_as name s out) → (n : ℕ) →
      chosen node_kind net node n ≡ out_of (kind_by_name name) (suc n) (queues_after node_kind net n) (run_state net name s n)
  moves-of name s out node at n =
      let there = stands-at net node name s out at n in
      chosen-is node_kind node_holds net (schedules net forms sound) (now net forms sound) sound.wired (is-scheduled node_kind node_holds net forms sound) n node (acted_as name (run_state net name s n) there.out) there.at

  -- ---- a memory, of AXI4 or AXI4-Lite

  fill-by : (lite : Bool) (c : MemoryState) → FitsLanes (memory_state lite c).kind (memory_state lite c).state → c.area.fill < 256
  fill-by true c fit = fit
  fill-by false c fit = fit

  memory-moves : (node : ℕ) (lite : Bool) (c : MemoryState) (out : Out) → slice_get net.nodes node ≡ Some (record { state = memory_state lite c; out = out }) → (n : ℕ) →
      chosen node_kind net node n ≡ out_of (kind_by_name AMemory) (suc n) (queues_after node_kind net n) (memory_run net c n)
  memory-moves node true c out at n =
      moves-of ALiteMemory c out node at n ∙ ap (λ (s : MemoryState). out_of (kind_by_name AMemory) (suc n) (queues_after node_kind net n) s) (runs-alike net c n)
  memory-moves node false c out at n = moves-of AMemory c out node at n

  module _ (node : ℕ) (c : MemoryState) (is : IsMemoryAt net node c) where
    abbrev upper : ℕ
    upper = c.inner.upper

    known : upper < length net.links
    known = (upper-link net forms sound node c is).0

    module _ (n : ℕ) where
      abbrev run : MemoryState
      run = memory_run net c n

      fill-small : run.area.fill < 256
      fill-small =
          subst (λ (area : MemoryArea). area.fill < 256) (sym (area-is net forms sound node c is n))
          (fill-by is.lite c (at-some (λ (a : Acted NodeState). FitsLanes a.state.kind a.state.state) (slice_get net.nodes node) (record { state = memory_state is.lite c; out = is.out }) is.at (fits.nodes node)))

      values-small : All (λ (a : Access). a.write ≡ true → a.byte.value < 256) (noted_by node_kind net node n)
      values-small =
          accesses-write (noted_by node_kind net node n) (λ t.
          let accessed = (memory-keeps net forms sound node c is n).accessed in
          let sent = All-weaker (IsTraceWriteData (bus_of upper)) (λ (w : WBeat). AreBytes w.lanes) (λ w shown. shown.lanes.bytes) _ (data-carried net forms sound fits upper t) in
          subst (All (λ (byte : Byte). byte.value < 256)) (sym (accessed.written t)) (written-bytes run.area ((schedules net forms sound upper).writes t) _ sent))

      bytes-small : (address : ℕ) → IsTrue (may_read run.area address) → byte_at run.inner.kept address < 256
      bytes-small address may =
          let inside = inside-read (is_inside run.area address) (is_in_some run.area.hole address) may in
          subst (λ (value : ℕ). value < 256) ((memory-keeps net forms sound node c is n).accessed.bytes address inside)
          (left-byte address run.area.fill (noted_by node_kind net node n) fill-small values-small)

      bus-is : run.area.bus ≡ bus_of upper
      bus-is = ap (λ (area : MemoryArea). area.bus) (area-is net forms sound node c is n) ∙ sym (has-form net forms sound node c is).bus

      wide : IsBusWidth run.area.bus
      wide = subst (λ (area : MemoryArea). IsBusWidth area.bus) (sym (area-is net forms sound node c is n)) (memory-begins net forms sound node c is).area.bus

      lanes-small : (entry : ReadEntry) → IsOnBus (bus_of upper) ((memory_service run.area).beat_lanes run.inner.kept entry.request entry.put)
      lanes-small entry =
          subst (λ (bus : ℕ). IsOnBus bus ((memory_service run.area).beat_lanes run.inner.kept entry.request entry.put)) bus-is
          (read-on_bus run.area wide run.inner.kept bytes-small entry.request entry.put)

      memory-puts : All IsResponseInRange (moved_below (chosen node_kind net node n) (queues_after node_kind net n) upper).b
          × All (IsReadDataInRange (bus_of upper)) (moved_below (chosen node_kind net node n) (queues_after node_kind net n) upper).r
      memory-puts =
          let moves = memory-moves node is.lite c is.out is.at n in
          let order = (memory-keeps net forms sound node c is n).order in
          let trail = lower_end node_kind net upper n in
          subst (λ (out : Out). All IsResponseInRange (appended upper out.b_put) × All (IsReadDataInRange (bus_of upper)) (appended upper out.r_put)) (sym moves) (
            responses-put (memory_service run.area) (schedules net forms sound upper) run.inner trail order (queues_after node_kind net n) upper (writes-come upper known n),
            read_data-put (memory_service run.area) (schedules net forms sound upper) run.inner trail order (queues_after node_kind net n) upper (bus_of upper) lanes-small (reads-come upper known n),
          )

    memory-answers : (n : ℕ) → AreAnswersInRange upper n
    memory-answers n =
        each-round upper (λ m. subst (λ (k : ℕ). All IsResponseInRange (moved_below (chosen node_kind net k m) (queues_after node_kind net m) upper).b
        × All (IsReadDataInRange (bus_of upper)) (moved_below (chosen node_kind net k m) (queues_after node_kind net m) upper).r) (sym (upper-link net forms sound node c is).1) (memory-puts m)) n

  -- ---- an error subordinate

  module _ (node : ℕ) (s : ErrorState) (out : Out) (at : slice_get net.nodes node ≡ Some (acted_as AnError s out)) where
    error-upper : (n : ℕ) → (run_state net AnError s n).upper ≡ s.upper
    error-upper zero = refl
    error-upper (suc n) = error-upper n

    error-link : (s.upper < length net.links) × (lower_node net.links s.upper ≡ node)
    error-link = own-upper node_kind node_holds net forms sound node (acted_as AnError s out) at s.upper (0, omega arith, refl)

    error-order : (n : ℕ) → KeepsOrder error_service (schedules net forms sound s.upper) (run_state net AnError s n) (lower_end node_kind net s.upper n)
    error-order n =
        let here = holds-at net (λ (x : NodeState). node_kind.keeps (schedules net forms sound) n x (passed_by node_kind net node n)) node AnError s out at n ((run-keeps net forms sound n).nodes node) in
        let run = run_state net AnError s n in
        subst (λ (k : ℕ). KeepsOrder error_service (schedules net forms sound s.upper) run (trail_below (chosen node_kind net k) (queues_after node_kind net) n s.upper)) (sym error-link.1)
        (subst (λ (l : ℕ). KeepsOrder error_service (schedules net forms sound l) run (trail_below (chosen node_kind net node) (queues_after node_kind net) n l)) (error-upper n) here.order)

    error-puts : (n : ℕ) → All IsResponseInRange (moved_below (chosen node_kind net node n) (queues_after node_kind net n) s.upper).b
        × All (IsReadDataInRange (bus_of s.upper)) (moved_below (chosen node_kind net node n) (queues_after node_kind net n) s.upper).r
    error-puts n =
        let run = run_state net AnError s n in
        let trail = lower_end node_kind net s.upper n in
        let queues = queues_after node_kind net n in
        subst (λ (o : Out). All IsResponseInRange (appended s.upper o.b_put) × All (IsReadDataInRange (bus_of s.upper)) (appended s.upper o.r_put)) (sym (moves-of AnError s out node at n)) (
          responses-put error_service (schedules net forms sound s.upper) run trail (error-order n) queues s.upper (writes-come s.upper error-link.0 n),
          read_data-put error_service (schedules net forms sound s.upper) run trail (error-order n) queues s.upper (bus_of s.upper) (λ entry. zeros-on_bus (bus_of s.upper) 128 refl) (reads-come s.upper error-link.0 n),
        )

    error-answers : (n : ℕ) → AreAnswersInRange s.upper n
    error-answers n =
        each-round s.upper (λ m. subst (λ (k : ℕ). All IsResponseInRange (moved_below (chosen node_kind net k m) (queues_after node_kind net m) s.upper).b
        × All (IsReadDataInRange (bus_of s.upper)) (moved_below (chosen node_kind net k m) (queues_after node_kind net m) s.upper).r) (sym error-link.1) (error-puts m)) n

  -- ---- a splitter

  module _ (node : ℕ) (s : SplitState) (out : Out) (at : slice_get net.nodes node ≡ Some (acted_as ASplit s out)) where
    split-upper : (n : ℕ) → (run_state net ASplit s n).upper ≡ s.upper
    split-upper zero = refl
    split-upper (suc n) = split-upper n

    split-lower : (n : ℕ) → (run_state net ASplit s n).lower ≡ s.lower
    split-lower zero = refl
    split-lower (suc n) = split-lower n

    split-above : (s.upper < length net.links) × (lower_node net.links s.upper ≡ node)
    split-above = own-upper node_kind node_holds net forms sound node (acted_as ASplit s out) at s.upper (0, omega arith, refl)

    split-below : (s.lower < length net.links) × (upper_node net.links s.lower ≡ node)
    split-below = own-lower node_kind node_holds net forms sound node (acted_as ASplit s out) at s.lower (0, omega arith, refl)

    -- the response that it takes has waited on the link below it
    split-head : (n : ℕ) → AreAnswersInRange s.lower n → IfSome (head_of (link_of (queues_after node_kind net n) s.lower).b) IsResponseInRange
    split-head n answers =
        head-has IsResponseInRange _ (upper_end node_kind net s.lower n).b (link_of (queues_after node_kind net n) s.lower).b (fifo s.lower split-below.0 n).b answers.b

    split-puts : (n : ℕ) → AreAnswersInRange s.lower n → All IsResponseInRange (moved_below (chosen node_kind net node n) (queues_after node_kind net n) s.upper).b
    split-puts n answers =
        let run = run_state net ASplit s n in
        let queues = queues_after node_kind net n in
        let head : IfSome (head_of (link_of queues run.lower).b) IsResponseInRange =
        subst (λ (l : ℕ). IfSome (head_of (link_of queues l).b) IsResponseInRange) (sym (split-lower n)) (split-head n answers) in
        let room = has_room (split_above queues run).depth (split_above queues run).b in
        subst (λ (o : Out). All IsResponseInRange (appended s.upper o.b_put)) (sym (moves-of ASplit s out node at n))
        (some-put s.upper run.upper (b_row room (head_of (link_of queues run.lower).b) run.writes).put (response-puts room (head_of (link_of queues run.lower).b) run.writes head))
      where
        some-put : (link number : ℕ) (o : Option BBeat) → IfSome o IsResponseInRange → All IsResponseInRange (appended link (put_of number o))
        some-put link number None is = All-nil IsResponseInRange
        some-put link number (Some b) is = All-appended IsResponseInRange link (Some (number, b)) is

    split-responses : ((n : ℕ) → AreAnswersInRange s.lower n) → (n : ℕ) → All IsResponseInRange (lower_end node_kind net s.upper n).b
    split-responses answers =
        each-response s.upper (λ m. subst (λ (k : ℕ). All IsResponseInRange (moved_below (chosen node_kind net k m) (queues_after node_kind net m) s.upper).b) (sym split-above.1) (split-puts m (answers m)))

  -- ---- the nodes between

  module _ (n : ℕ) where
    -- the lower end of a link, as its node's trail
    abbrev AnswersOf : ℕ → Beats → Type 0
    AnswersOf link beats = All IsResponseInRange beats.b × All (IsReadDataInRange (bus_of link)) beats.r

    at-node : (link node : ℕ) → lower_node net.links link ≡ node → AnswersOf link ((passed_by node_kind net node n).uppers link) → AreAnswersInRange link n
    at-node link node below answers =
        let here = subst (λ (k : ℕ). AnswersOf link ((passed_by node_kind net k n).uppers link)) (sym below) answers in
        record { b = here.0; r = here.1 }

    -- what has come back to a node by a link below it
    back-at : (link node : ℕ) → link < length net.links → upper_node net.links link ≡ node → AreAnswersInRange link n → AnswersOf link ((passed_by node_kind net node n).lowers link)
    back-at link node known above answers =
        subst (λ (k : ℕ). AnswersOf link ((passed_by node_kind net k n).lowers link)) above (responses-back link known n answers, read_data-back link known n answers)

    -- and the requests that have come to it by a link above it
    requests-at : (link own node : ℕ) → lower_node net.links link ≡ node → link ≡ own → link < length net.links →
        All IsAddressInRange ((passed_by node_kind net node n).uppers own).aw × All IsAddressInRange ((passed_by node_kind net node n).uppers own).ar
    requests-at link own node below one known =
        let Are : Beats → Type 0 = λ beats. All IsAddressInRange beats.aw × All IsAddressInRange beats.ar in
        subst (λ (l : ℕ). Are ((passed_by node_kind net node n).uppers l)) one (subst (λ (k : ℕ). Are ((passed_by node_kind net k n).uppers link)) below (writes-come link known n, reads-come link known n))

    keeps-at : (name : KindName) (s : StateOf name) (out : Out) (node : ℕ) → slice_get net.nodes node ≡ Some (acted_as name s out) →
        (kind_by_name name).keeps (schedules net forms sound) n (run_state net name s n) (passed_by node_kind net node n)
    keeps-at name s out node at = holds-at net (λ (x : NodeState). node_kind.keeps (schedules net forms sound) n x (passed_by node_kind net node n)) node name s out at n ((run-keeps net forms sound n).nodes node)

    abbrev AreNarrowed : MuxShape → Passed Access → Type 0
    AreNarrowed shape trails =
        ((input : ℕ) → at_input shape.uppers (λ link. (trails.uppers link).b) input ≡ map (narrowed_b (ids_of shape)) (of_key (λ (b : BBeat). b.id / ids_of shape) input (trails.lowers shape.lower).b))
        × ((input : ℕ) → at_input shape.uppers (λ link. (trails.uppers link).r) input ≡ map (narrowed_r (ids_of shape)) (of_key (λ (r : RBeat). r.id / ids_of shape) input (trails.lowers shape.lower).r))

    abbrev AreParted : DemuxShape → Passed Access → Type 0
    AreParted shape trails =
        (lower : ℕ) →
        ((trails.lowers lower).b ≡ selected number_of_response (goes_way (write_lower shape (schedules net forms sound shape.upper)) lower) (trails.uppers shape.upper).b)
        × ((trails.lowers lower).r ≡ selected number_of_read_data (goes_way (read_lower shape (schedules net forms sound shape.upper)) lower) (trails.uppers shape.upper).r)

    slice-stays : (s : SliceState) (k : ℕ) → run_state net ASlice s k ≡ s
    slice-stays s zero = refl
    slice-stays s (suc k) = slice-stays s k

    mux-stays : (s : MuxState) (k : ℕ) → (run_state net AMux s k).shape ≡ s.shape
    mux-stays s zero = refl
    mux-stays s (suc k) = mux-stays s k

    demux-stays : (s : DemuxState) (k : ℕ) → (run_state net ADemux s k).shape ≡ s.shape
    demux-stays s zero = refl
    demux-stays s (suc k) = demux-stays s k

    remap-stays : (s : RemapState) (k : ℕ) → (run_state net ARemap s k).shape ≡ s.shape
    remap-stays s zero = refl
    remap-stays s (suc k) = remap-stays s k

    up-stays : (s : UpState) (k : ℕ) → (run_state net AnUp s k).shape ≡ s.shape
    up-stays s zero = refl
    up-stays s (suc k) = up-stays s k

    lite-stays : (s : LiteState) (k : ℕ) → (run_state net ALite s k).shape ≡ s.shape
    lite-stays s zero = refl
    lite-stays s (suc k) = lite-stays s k

    -- what has passed above a mux of the answers below it
    mux-parts : (s : MuxState) (out : Out) (node : ℕ) → slice_get net.nodes node ≡ Some (acted_as AMux s out) → AreNarrowed s.shape (passed_by node_kind net node n)
    mux-parts s out node at =
        let keeps = keeps-at AMux s out node at in
        subst (λ (shape : MuxShape). AreNarrowed shape (passed_by node_kind net node n)) (mux-stays s n) (keeps.b, keeps.r)

    -- and below a demux of those above it
    demux-parts : (s : DemuxState) (out : Out) (node : ℕ) → slice_get net.nodes node ≡ Some (acted_as ADemux s out) → AreParted s.shape (passed_by node_kind net node n)
    demux-parts s out node at =
        let keeps = keeps-at ADemux s out node at in
        subst (λ (shape : DemuxShape). AreParted shape (passed_by node_kind net node n)) (demux-stays s n) (λ lower. ((keeps.passed lower).b, (keeps.passed lower).r))

    -- where all answers that come to a node from below are in range, so are those that it gives above
    by-kind : (name : KindName) (s : StateOf name) (out : Out) (node : ℕ) → slice_get net.nodes node ≡ Some (acted_as name s out) → (link : ℕ) → link < length net.links → lower_node net.links link ≡ node →
        Contains ((kind_by_name name).uppers s) link → ((lower : ℕ) → Contains ((kind_by_name name).lowers s) lower → (m : ℕ) → AreAnswersInRange lower m) → AreAnswersInRange link n
    by-kind AManager s out node at link known below among answers = absurd (omega (arith, among.1))
    by-kind AMemory s out node at link known below among answers =
        subst (λ (l : ℕ). AreAnswersInRange l n) (sym (one-of link s.inner.upper among)) (memory-answers node s (record { lite = false; out = out; at = at }) n)
    by-kind AnError s out node at link known below among answers =
        subst (λ (l : ℕ). AreAnswersInRange l n) (sym (one-of link s.upper among)) (error-answers node s out at n)
    by-kind ALiteMemory s out node at link known below among answers =
        subst (λ (l : ℕ). AreAnswersInRange l n) (sym (one-of link s.inner.upper among)) (memory-answers node s (record { lite = true; out = out; at = at }) n)
    by-kind ASplit s out node at link known below among answers =
        let own = own-lower node_kind node_holds net forms sound node (acted_as ASplit s out) at s.lower (0, omega arith, refl) in
        let back = back-at s.lower node own.0 own.1 (answers s.lower (0, omega arith, refl) n) in
        let one = one-of link s.upper among in
        let trails = passed_by node_kind net node n in
        let bus : bus_of s.lower ≡ bus_of s.upper = (is-sound net forms sound ASplit s out node at).bus in
        let keeps = keeps-at ASplit s out node at in
        let same : (trails.lowers s.lower).r ≡ map as_last_read (trails.uppers s.upper).r =
        subst (λ (l : ℕ). (trails.lowers l).r ≡ map as_last_read (trails.uppers s.upper).r) (split-lower node s out at n)
        (subst (λ (l : ℕ). (trails.lowers (run_state net ASplit s n).lower).r ≡ map as_last_read (trails.uppers l).r) (split-upper node s out at n) keeps.r) in
        let read_data : All (IsReadDataInRange (bus_of s.upper)) (trails.uppers s.upper).r =
        lasts-read (bus_of s.upper) (trails.uppers s.upper).r
        (subst (All (IsReadDataInRange (bus_of s.upper))) same (subst (λ (b : ℕ). All (IsReadDataInRange b) (trails.lowers s.lower).r) bus back.1)) in
        let here : All (IsReadDataInRange (bus_of s.upper)) (lower_end node_kind net s.upper n).r =
        subst (λ (k : ℕ). All (IsReadDataInRange (bus_of s.upper)) ((passed_by node_kind net k n).uppers s.upper).r) (sym (split-above node s out at).1) read_data in
        subst (λ (l : ℕ). AreAnswersInRange l n) (sym one)
        (record { b = split-responses node s out at (answers s.lower (0, omega arith, refl)) n; r = here })
    by-kind ALite s out node at link known below among answers =
        let own = own-lower node_kind node_holds net forms sound node (acted_as ALite s out) at s.shape.lower (0, omega arith, refl) in
        let back = back-at s.shape.lower node own.0 own.1 (answers s.shape.lower (0, omega arith, refl) n) in
        let one = one-of link s.shape.upper among in
        let trails = passed_by node_kind net node n in
        let its = is-sound net forms sound ALite s out node at in
        let bus : bus_of s.shape.lower ≡ bus_of s.shape.upper = its.bus_below ∙ sym its.bus_above in
        let keeps = keeps-at ALite s out node at in
        let GivesBack : LiteShape → Type 0 = λ shape.
        ((trails.uppers shape.upper).b ≡ returned_in_order returned_b (trails.uppers shape.upper).aw (trails.lowers shape.lower).b)
        × ((trails.uppers shape.upper).r ≡ returned_in_order returned_r (trails.uppers shape.upper).ar (trails.lowers shape.lower).r) in
        let gives : GivesBack s.shape = subst GivesBack (lite-stays s n) (keeps.b, keeps.r) in
        let asked = requests-at link s.shape.upper node below one known in
        let there : AnswersOf s.shape.upper (trails.uppers s.shape.upper) = (
          subst (All IsResponseInRange) (sym gives.0) (responses-returned (trails.uppers s.shape.upper).aw (trails.lowers s.shape.lower).b asked.0 back.0),
          subst (All (IsReadDataInRange (bus_of s.shape.upper))) (sym gives.1)
              (read_data-returned (bus_of s.shape.upper) (trails.uppers s.shape.upper).ar (trails.lowers s.shape.lower).r asked.1
              (subst (λ (b : ℕ). All (IsReadDataInRange b) (trails.lowers s.shape.lower).r) bus back.1)),
        ) in
        at-node link node below (subst (λ (l : ℕ). AnswersOf l (trails.uppers l)) (sym one) there)
    by-kind ASlice s out node at link known below among answers =
        let own = own-lower node_kind node_holds net forms sound node (acted_as ASlice s out) at s.lower (0, omega arith, refl) in
        let back = back-at s.lower node own.0 own.1 (answers s.lower (0, omega arith, refl) n) in
        let keeps = subst (λ (x : SliceState). SliceKeeps (schedules net forms sound x.upper) (schedules net forms sound x.lower) ((passed_by node_kind net node n).uppers x.upper) ((passed_by node_kind net node n).lowers x.lower)) (slice-stays s n) (keeps-at ASlice s out node at) in
        let bus : bus_of s.lower ≡ bus_of s.upper = ap (λ (form : LinkForm). form.bus) (is-sound net forms sound ASlice s out node at) in
        let one = one-of link s.upper among in
        let there : AnswersOf s.upper ((passed_by node_kind net node n).uppers s.upper) =
        subst (λ (beats : Beats). AnswersOf s.upper beats) keeps.same (back.0, subst (λ (b : ℕ). All (IsReadDataInRange b) ((passed_by node_kind net node n).lowers s.lower).r) bus back.1) in
        at-node link node below (subst (λ (l : ℕ). AnswersOf l ((passed_by node_kind net node n).uppers l)) (sym one) there)
    by-kind ARemap s out node at link known below among answers =
        let own = own-lower node_kind node_holds net forms sound node (acted_as ARemap s out) at s.shape.lower (0, omega arith, refl) in
        let back = back-at s.shape.lower node own.0 own.1 (answers s.shape.lower (0, omega arith, refl) n) in
        let one = one-of link s.shape.upper among in
        let trails = passed_by node_kind net node n in
        let bus = (is-sound net forms sound ARemap s out node at).alike.bus in
        let GivesBack : RemapShape → Type 0 = λ shape.
        All IsAddressInRange (trails.uppers shape.upper).aw → All IsAddressInRange (trails.uppers shape.upper).ar → All IsResponseInRange (trails.lowers shape.lower).b →
        All (IsReadDataInRange (bus_of s.shape.upper)) (trails.lowers shape.lower).r →
        All IsResponseInRange (trails.uppers shape.upper).b × All (IsReadDataInRange (bus_of s.shape.upper)) (trails.uppers shape.upper).r in
        let gives : GivesBack s.shape =
        subst GivesBack (remap-stays s n) (remap-gives_back (schedules net forms sound) (run_state net ARemap s n) _ _ (keeps-at ARemap s out node at) (bus_of s.shape.upper)) in
        let asked = requests-at link s.shape.upper node below one known in
        let there : AnswersOf s.shape.upper (trails.uppers s.shape.upper) = gives asked.0 asked.1 back.0 (subst (λ (b : ℕ). All (IsReadDataInRange b) (trails.lowers s.shape.lower).r) bus back.1) in
        at-node link node below (subst (λ (l : ℕ). AnswersOf l (trails.uppers l)) (sym one) there)
    by-kind AnUp s out node at link known below among answers =
        let own = own-lower node_kind node_holds net forms sound node (acted_as AnUp s out) at s.shape.lower (0, omega arith, refl) in
        let back = back-at s.shape.lower node own.0 own.1 (answers s.shape.lower (0, omega arith, refl) n) in
        let one = one-of link s.shape.upper among in
        let trails = passed_by node_kind net node n in
        let its = is-sound net forms sound AnUp s out node at in
        let new = at-some (λ (a : Acted NodeState). node_kind.begins a.state) (slice_get net.nodes node) (acted_as AnUp s out) at (sound.begins node) in
        let keeps = keeps-at AnUp s out node at in
        let same : (trails.uppers s.shape.upper).b ≡ (trails.lowers s.shape.lower).b =
        subst (λ (shape : UpShape). (trails.uppers shape.upper).b ≡ (trails.lowers shape.lower).b) (up-stays s n) keeps.b in
        let Narrows : UpShape → Type 0 = λ shape.
        All (IsReadDataInRange shape.wide) (trails.lowers shape.lower).r → All (IsReadDataInRange shape.narrow) (trails.uppers shape.upper).r in
        let narrows : Narrows s.shape =
        subst Narrows (up-stays s n)
        (read_data-narrowed (run_state net AnUp s n).shape (subst IsUpShape (sym (up-stays s n)) new.shape)
        (λ t. ((schedules net forms sound (run_state net AnUp s n).shape.upper).reads t).parts) _ _ keeps.moved_read_data) in
        let wide : bus_of s.shape.lower ≡ s.shape.wide = ap (λ (form : LinkForm). form.bus) its.below in
        let there : AnswersOf s.shape.upper (trails.uppers s.shape.upper) = (
          subst (All IsResponseInRange) (sym same) back.0,
          subst (λ (bus : ℕ). All (IsReadDataInRange bus) (trails.uppers s.shape.upper).r) (sym its.narrow)
              (narrows (subst (λ (bus : ℕ). All (IsReadDataInRange bus) (trails.lowers s.shape.lower).r) wide back.1)),
        ) in
        at-node link node below (subst (λ (l : ℕ). AnswersOf l (trails.uppers l)) (sym one) there)
    by-kind AMux s out node at link known below among answers =
        let own = own-lower node_kind node_holds net forms sound node (acted_as AMux s out) at s.shape.lower (0, omega arith, refl) in
        let back = back-at s.shape.lower node own.0 own.1 (answers s.shape.lower (0, omega arith, refl) n) in
        let alike = All-contains (λ (l : ℕ). IsAlike (forms l) (forms s.shape.lower)) s.shape.uppers link (is-sound net forms sound AMux s out node at).alike among in
        let place = at-contains s.shape.uppers link among in
        let trails = passed_by node_kind net node n in
        let keeps = mux-parts s out node at in
        let ids = ids_of s.shape in
        let responses : (trails.uppers link).b ≡ map (narrowed_b ids) (of_key (λ (b : BBeat). b.id / ids) place.0 (trails.lowers s.shape.lower).b) =
        sym (ap (λ (o : Option ℕ). option_map_or (λ (l : ℕ). (trails.uppers l).b) o []) place.1) ∙ keeps.0 place.0 in
        let read_data : (trails.uppers link).r ≡ map (narrowed_r ids) (of_key (λ (r : RBeat). r.id / ids) place.0 (trails.lowers s.shape.lower).r) =
        sym (ap (λ (o : Option ℕ). option_map_or (λ (l : ℕ). (trails.uppers l).r) o []) place.1) ∙ keeps.1 place.0 in
        let Read : RBeat → Type 0 = IsReadDataInRange (bus_of link) in
        let below_r : All Read (trails.lowers s.shape.lower).r = subst (λ (b : ℕ). All (IsReadDataInRange b) (trails.lowers s.shape.lower).r) alike.bus back.1 in
        at-node link node below (
          subst (All IsResponseInRange) (sym responses)
              (All-map IsResponseInRange (narrowed_b ids) (of_key (λ (b : BBeat). b.id / ids) place.0 (trails.lowers s.shape.lower).b)
              (All-weaker IsResponseInRange (λ (b : BBeat). IsResponseInRange (narrowed_b ids b)) (narrowed-response ids) (of_key (λ (b : BBeat). b.id / ids) place.0 (trails.lowers s.shape.lower).b)
              (All-filter (λ (b : BBeat). b.id / ids == place.0) IsResponseInRange (trails.lowers s.shape.lower).b back.0))),
          subst (All Read) (sym read_data)
              (All-map Read (narrowed_r ids) (of_key (λ (r : RBeat). r.id / ids) place.0 (trails.lowers s.shape.lower).r)
              (All-weaker Read (λ (r : RBeat). Read (narrowed_r ids r)) (narrowed-read_data (bus_of link) ids) (of_key (λ (r : RBeat). r.id / ids) place.0 (trails.lowers s.shape.lower).r)
              (All-filter (λ (r : RBeat). r.id / ids == place.0) Read (trails.lowers s.shape.lower).r below_r))),
        )
    by-kind ADemux s out node at link known below among answers =
        let one = one-of link s.shape.upper among in
        let trails = passed_by node_kind net node n in
        let Read : RBeat → Type 0 = IsReadDataInRange (bus_of s.shape.upper) in
        let above = schedules net forms sound s.shape.upper in
        let new = at-some (λ (a : Acted NodeState). node_kind.begins a.state) (slice_get net.nodes node) (acted_as ADemux s out) at (sound.begins node) in
        let parts = demux-parts s out node at in
        let from : (lower : ℕ) → Contains s.shape.lowers lower → AnswersOf lower (trails.lowers lower) = λ lower has.
        let own = own-lower node_kind node_holds net forms sound node (acted_as ADemux s out) at lower has in
        back-at lower node own.0 own.1 (answers lower has n) in
        let bus : (lower : ℕ) → Contains s.shape.lowers lower → bus_of lower ≡ bus_of s.shape.upper = λ lower has.
        ap (λ (form : LinkForm). form.bus) (All-contains (λ (l : ℕ). forms l ≡ forms s.shape.upper) s.shape.lowers lower (is-sound net forms sound ADemux s out node at).alike has) in
        let there : AnswersOf s.shape.upper (trails.uppers s.shape.upper) = (
          all-by_way IsResponseInRange number_of_response (write_lower s.shape above) (trails.uppers s.shape.upper).b (λ t.
              let lower = write_lower s.shape above t in
              subst (All IsResponseInRange) (parts lower).0 (from lower (lower-among s.shape (write_port s.shape above t) (port_of_parts-within s.shape new.shape (above.writes t).parts))).0),
          all-by_way Read number_of_read_data (read_lower s.shape above) (trails.uppers s.shape.upper).r (λ t.
              let lower = read_lower s.shape above t in
              let has = lower-among s.shape (read_port s.shape above t) (port_of_parts-within s.shape new.shape (above.reads t).parts) in
              subst (All Read) (parts lower).1 (subst (λ (b : ℕ). All (IsReadDataInRange b) (trails.lowers lower).r) (bus lower has) (from lower has).1)),
        ) in
        at-node link node below (subst (λ (l : ℕ). AnswersOf l (trails.uppers l)) (sym one) there)

  -- by the rank of the node below, from the subordinates up
  by-rank : (left link : ℕ) → link < length net.links → length net.nodes < left + sound.wired.rank (lower_node net.links link) → (n : ℕ) → AreAnswersInRange link n
  by-rank zero link known enough n = absurd (omega (arith, enough, sound.wired.ranked (lower_node net.links link)))
  by-rank (suc left) link known enough n =
      go (λ lower within deep m. by-rank left lower within deep m) (slice_get net.nodes (lower_node net.links link)) refl (sound.wired.below link known)
    where
      go : ((lower : ℕ) → lower < length net.links → length net.nodes < left + sound.wired.rank (lower_node net.links lower) → (m : ℕ) → AreAnswersInRange lower m) →
          (o : Option (Acted NodeState)) → slice_get net.nodes (lower_node net.links link) ≡ o → Contains (option_map_or (λ (a : Acted NodeState). node_kind.uppers a.state) o []) link → AreAnswersInRange link n
      go again None none among = absurd (omega (arith, among.1))
      go again (Some a) at among =
          by-kind n a.state.kind a.state.state a.out (lower_node net.links link) at link known refl among (λ lower has m.
          let own = own-lower node_kind node_holds net forms sound (lower_node net.links link) a at lower has in
          let falls : sound.wired.rank (lower_node net.links link) < sound.wired.rank (lower_node net.links lower) = subst (λ (k : ℕ). sound.wired.rank k < sound.wired.rank (lower_node net.links lower)) own.1 (sound.wired.falls lower own.0) in
          again lower own.0 (omega (arith, enough, falls)) m)

  pub answers-in_range : (n link : ℕ) → link < length net.links → AreAnswersInRange link n
  answers-in_range n link known = by-rank (suc (length net.nodes)) link known (omega arith) n
