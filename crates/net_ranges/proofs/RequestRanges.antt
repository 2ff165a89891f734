-- The requests and the write data on each link are within the ranges of a trace line: they are those of a script.
use Rattle.std.proofs.Common.{◌≡◌, ◌<◌, ◌≤◌, ◌+◌, ◌^◌, ◌∷◌, [], ℕ, Bool, true, false, cond, List, Option, Some, None, get_or, length, refl, sym, ap, ◌∙◌, subst, inl, inr, arith}
use Rattle.std.specs.Prelude.{All, Contains, find, flat_map, map, slice_get, unwrap_or}
use Rattle.std.specs.Option.{option_and_then}
use Rattle.std.proofs.Math.Nat.{pow-le-pow_right}
use Rattle.std.proofs.lemmas.Bool.{cases_Bool, false≢true}
use Rattle.std.proofs.lemmas.List.{append-nil}
use Rattle.std.proofs.lemmas.List.Elements.{All-cons, All-nil}
use Rattle.std.proofs.lemmas.List.FromFn.{get_or-map-range_with_len, length-map-range_with_len}
use Rattle.std.proofs.lemmas.Option.{none-some}
use Rattle.axi_beats.specs.declared.beat.Addr.{Addr}
use Rattle.axi_beats.specs.declared.beat.WBeat.{WBeat}
use Rattle.axi_link.specs.declared.out.Out.{Out}
use Rattle.axi_trail.specs.LinkContracts.{Asks, without_id}
use Rattle.axi_trail.specs.Schedule.{Share, no_share}
use Rattle.axi_trail.specs.Words.{number_of_address, number_of_data}
use Rattle.burst_address.specs.Formulas.{beats_of}
use Rattle.burst_address.specs.Legal.{IsLegal}
use Rattle.manager_node.specs.Beats.{data_beat, data_beats, item_request}
use Rattle.manager_node.specs.ManagerState.{ManagerState}
use Rattle.manager_node.specs.ManagerTrail.{item_origin}
use Rattle.manager_node.specs.Script.{ScriptItem}
use Rattle.net_history.proofs.ItemLemmas.{now, schedules}
use Rattle.net_history.proofs.ManagerRuns.{IsManagerAt, begins, has-link, run-keeps}
use Rattle.net_history.proofs.RunStates.{acted_as}
use Rattle.net_kinds.specs.NodeHolds.{node_holds}
use Rattle.net_kinds.specs.NodeKind.{KindName, NodeState, StateOf, node_kind}
use Rattle.net_kinds.specs.NodeKind.KindName.{ADemux, ALite, ALiteMemory, AManager, AMemory, AMux, ARemap, ASlice, ASplit, AnError, AnUp}
use Rattle.net_model.specs.Network.{Network}
use Rattle.net_ranges.proofs.BeatRanges.{IsAddressInRange, IsPartInRange, data-in_range, request-in_range}
use Rattle.net_ranges.proofs.FormLemmas.{ShareFits, shares-along}
use Rattle.net_ranges.specs.TraceLines.{FitsItsBeats, FitsLanes, FitsTraces}
use Rattle.net_runs.proofs.ContractFacts.{at-some}
use Rattle.net_runs.specs.Run.{upper_end}
use Rattle.net_ways.proofs.OriginLemmas.{flat-from, is-found, its-way}
use Rattle.net_ways.proofs.WayLemmas.{is-carried}
use Rattle.net_ways.specs.Sound.{IsSound}
use Rattle.net_ways.specs.Ways.{carried, is_origin, origins_in, share_on, way_of}
use Rattle.node_core.specs.Acted.{Acted}
use Rattle.node_shape.specs.LinkForm.{LinkForm}
use Rattle.node_shape.specs.Way.{Origin}
use Rattle.plain_lists.proofs.CutLemmas.{all-unmap}
use Rattle.plain_lists.proofs.PlaceLemmas.{at-all, at-contains, contains-at, find-has, map-from}
use Rattle.plain_lists.proofs.PrefixLemmas.{All_front}
use Rattle.plain_lists.proofs.SelectedLemmas.{all-by_way}
use Rattle.plain_lists.specs.Keys.{of_key}
use Rattle.trace_text.specs.Ranges.{IsTraceTag, IsTraceWriteData}

module _ (net : Network NodeState) (forms : ℕ → LinkForm) (sound : IsSound node_kind net forms) (fits : FitsTraces net forms) where
  -- ---- each transaction is of a script

  pub record IsOfScript (origin : Origin) : Type 0 where
    pub node : ℕ
    pub s : ManagerState
    pub is : IsManagerAt net node s
    pub place : ℕ
    pub item : ScriptItem
    pub at : slice_get s.script place ≡ Some item
    pub same : item_origin s.bus s.lower item ≡ origin

  of-kind : (node : ℕ) (name : KindName) (s : StateOf name) (out : Out) (origin : Origin) → slice_get net.nodes node ≡ Some (acted_as name s out) →
      Contains (node_kind.way (acted_as name s out).state).origins origin → IsOfScript origin
  of-kind node AManager s out origin at among =
      let there = at-contains (map (item_origin s.bus s.lower) s.script) origin among in
      let from = map-from (item_origin s.bus s.lower) s.script there.0 origin there.1 in
      record { node = node; s = s; is = record { out = out; at = at }; place = there.0; item = from.0; at = from.1; same = from.2 }
  of-kind node ASlice s out origin at among = absurd (omega (arith, among.1))
  of-kind node AMemory s out origin at among = absurd (omega (arith, among.1))
  of-kind node AMux s out origin at among = absurd (omega (arith, among.1))
  of-kind node AnError s out origin at among = absurd (omega (arith, among.1))
  of-kind node ADemux s out origin at among = absurd (omega (arith, among.1))
  of-kind node ARemap s out origin at among = absurd (omega (arith, among.1))
  of-kind node AnUp s out origin at among = absurd (omega (arith, among.1))
  of-kind node ASplit s out origin at among = absurd (omega (arith, among.1))
  of-kind node ALite s out origin at among = absurd (omega (arith, among.1))
  of-kind node ALiteMemory s out origin at among = absurd (omega (arith, among.1))

  of-script : (origin : Origin) → Contains (origins_in node_kind net.nodes) origin → IsOfScript origin
  of-script origin among =
      let from = flat-from (λ (a : Acted NodeState). (node_kind.way a.state).origins) net.nodes origin among in
      of-kind from.0 from.1.state.kind from.1.state.state from.1.out origin from.2 from.3

  fits-item : (node : ℕ) (s : ManagerState) → IsManagerAt net node s → (place : ℕ) (item : ScriptItem) → slice_get s.script place ≡ Some item → FitsItsBeats item
  fits-item node s is place item at =
      at-all FitsItsBeats s.script place item
      (at-some (λ (a : Acted NodeState). FitsLanes a.state.kind a.state.state) (slice_get net.nodes node) (acted_as AManager s is.out) is.at (fits.nodes node)) at

  -- ---- what a link has to carry

  abbrev bus_of : ℕ → ℕ
  bus_of link = (forms link).bus

  -- a link carries a transaction of a script
  pub record IsItsOwn (write : Bool) (link : ℕ) (share : Share) : Type 0 where
    pub origin : Origin
    pub among : Contains (origins_in node_kind net.nodes) origin
    pub script : IsOfScript origin
    pub direction : origin.write ≡ write
    pub there : carried node_kind net origin.write link origin.number ≡ Some share

  own-share : (write : Bool) (link number : ℕ) (share : Share) → carried node_kind net write link number ≡ Some share → IsItsOwn write link share
  own-share write link number share there = go (find (is_origin write number) (origins_in node_kind net.nodes)) refl
    where
      go : (o : Option Origin) → find (is_origin write number) (origins_in node_kind net.nodes) ≡ o → IsItsOwn write link share
      go None none = absurd (none-some share (sym (ap (option_and_then (λ (o : Origin). share_on link (way_of node_kind net o))) none) ∙ there))
      go (Some origin) found =
          let has = find-has (is_origin write number) (origins_in node_kind net.nodes) origin found in
          let among = contains-at (origins_in node_kind net.nodes) has.1 origin has.2 in
          let its = its-way node_kind node_holds net forms sound write number origin found in
          let own : carried node_kind net origin.write link origin.number ≡ Some share =
          ap (λ (b : Bool). carried node_kind net b link origin.number) its.same_direction ∙ ap (carried node_kind net write link) its.same_number ∙ there in
          record { origin = origin; among = among; script = of-script origin among; direction = its.same_direction; there = own }

  -- the data of a script fits a trace line of its manager's link
  data-fits : (origin : Origin) → IsOfScript origin → origin.write ≡ true → Contains (origins_in node_kind net.nodes) origin →
      All (IsTraceWriteData (bus_of origin.link)) (flat_map (λ (beats : List WBeat). beats) origin.share.write_data)
  data-fits origin script direction among =
      let its = its-way node_kind node_holds net forms sound origin.write origin.number origin (is-found node_kind node_holds net forms sound origin among) in
      let new = begins net forms sound script.node script.s script.is in
      let item = fits-item script.node script.s script.is script.place script.item script.at in
      let beats_sent = data_beats script.item script.s.bus in
      let writes : script.item.txn.write ≡ true = ap (λ (o : Origin). o.write) script.same ∙ direction in
      let sent : flat_map (λ (beats : List WBeat). beats) origin.share.write_data ≡ beats_sent =
      ap (flat_map (λ (beats : List WBeat). beats)) (ap (λ (o : Origin). o.share.write_data) (sym script.same) ∙ ap (λ (b : Bool). cond b (beats_sent ∷ []) []) writes) ∙ append-nil beats_sent in
      let same : script.s.bus ≡ bus_of origin.link = sym (has-link net forms sound script.node script.s script.is).bus ∙ ap (λ (o : Origin). (forms o.link).bus) script.same in
      let strobes : All (λ (w : WBeat). w.strobe < 2 ^ bus_of origin.link) beats_sent = subst (All (λ (w : WBeat). w.strobe < 2 ^ bus_of origin.link)) sent (its.starts.fits.is.fits.strobes direction) in
      let beats = beats_of script.item.txn.request in
      subst (All (IsTraceWriteData (bus_of origin.link))) (sym sent) (λ n past within.
      let here : n < beats = subst (λ (k : ℕ). n < k) (length-map-range_with_len (data_beat script.item script.s.bus) 0 beats) within in
      let place : 0 + n ≡ n = omega arith in
      let is : get_or beats_sent n past ≡ data_beat script.item script.s.bus n = get_or-map-range_with_len (data_beat script.item script.s.bus) 0 beats n n past here place in
      let legal = at-all (λ (i : ScriptItem). IsLegal i.txn.request script.s.bus) script.s.script script.place script.item new.legal script.at in
      let strobe : (data_beat script.item script.s.bus n).strobe < 2 ^ script.s.bus =
      subst (λ (b : ℕ). (data_beat script.item script.s.bus n).strobe < 2 ^ b) (sym same) (subst (λ (w : WBeat). w.strobe < 2 ^ bus_of origin.link) is (strobes n past within)) in
      subst (λ (w : WBeat). IsTraceWriteData (bus_of origin.link) w) (sym is)
      (subst (λ (b : ℕ). IsTraceWriteData b (data_beat script.item script.s.bus n)) same (data-in_range script.item script.s.bus n new.bus_width legal item strobe)))

  -- a read has none
  no-data : (write : Bool) (beats_sent : List WBeat) → write ≡ false → flat_map (λ (beats : List WBeat). beats) (cond write (beats_sent ∷ []) []) ≡ []
  no-data true beats_sent is = absurd (false≢true (sym is))
  no-data false beats_sent is = refl

  -- what a script begins with fits trace lines
  first-fits : (origin : Origin) → IsOfScript origin → Contains (origins_in node_kind net.nodes) origin → ShareFits net forms sound origin.link origin.share
  first-fits origin script among =
      let item = fits-item script.node script.s script.is script.place script.item script.at in
      let part = without_id (item_request script.item) in
      let Tagged : Addr → Type 0 = λ a. IsTraceTag a.tag in
      record {
        tags =
            subst (λ (o : Origin). All Tagged o.share.parts) script.same
            (All-cons Tagged part [] (record { txn = item.number; low = omega arith; high = omega arith }) (All-nil Tagged));
        sent = elim (cases_Bool origin.write) [
          | inl writes ↦ data-fits origin script writes among
          | inr reads ↦
              subst (All (IsTraceWriteData (bus_of origin.link)))
              (sym (ap (λ (o : Origin). flat_map (λ (beats : List WBeat). beats) o.share.write_data) (sym script.same)
              ∙ no-data script.item.txn.write (data_beats script.item script.s.bus) (ap (λ (o : Origin). o.write) script.same ∙ reads)))
              (All-nil (IsTraceWriteData (bus_of origin.link)))
        ];
      }

  -- what a link carries fits trace lines
  fits-carried : (write : Bool) (link number : ℕ) (share : Share) → carried node_kind net write link number ≡ Some share → ShareFits net forms sound link share
  fits-carried write link number share there =
      let own = own-share write link number share there in
      shares-along net forms sound own.origin own.among (first-fits own.origin own.script own.among) link share own.there

  parts-in_range : (write : Bool) (link number : ℕ) → All (IsPartInRange (bus_of link)) (unwrap_or (carried node_kind net write link number) no_share).parts
  parts-in_range write link number = go (carried node_kind net write link number) refl
    where
      go : (o : Option Share) → carried node_kind net write link number ≡ o → All (IsPartInRange (bus_of link)) (unwrap_or o no_share).parts
      go None none = All-nil (IsPartInRange (bus_of link))
      go (Some share) there =
          let fit = (is-carried node_kind node_holds net forms sound write number link share there).fits in
          let sent = fits-carried write link number share there in
          λ k d within. record { legal = fit.legal k d within; start = fit.small k d within; tag = sent.tags k d within }

  pub data-carried : (link number : ℕ) → All (IsTraceWriteData (bus_of link)) (flat_map (λ (beats : List WBeat). beats) (unwrap_or (carried node_kind net true link number) no_share).write_data)
  data-carried link number = go (carried node_kind net true link number) refl
    where
      go : (o : Option Share) → carried node_kind net true link number ≡ o → All (IsTraceWriteData (bus_of link)) (flat_map (λ (beats : List WBeat). beats) (unwrap_or o no_share).write_data)
      go None none = All-nil (IsTraceWriteData (bus_of link))
      go (Some share) there = (fits-carried true link number share there).sent

  -- ---- what is asked on a link

  module _ (link : ℕ) (known : link < length net.links) (n : ℕ) where
    asks : Asks (schedules net forms sound link) (now net forms sound n) (upper_end node_kind net link n)
    asks = (run-keeps net forms sound n).asked link known

    -- addresses of which each is a part, but for its ID, which fits
    whole-addresses : (addresses : List Addr) → ((number : ℕ) → All (IsPartInRange (bus_of link)) (map without_id (of_key number_of_address number addresses))) →
        All (λ (a : Addr). a.id < 2 ^ (forms link).id_width) addresses → All IsAddressInRange addresses
    whole-addresses addresses parts ids =
        let Part : Addr → Type 0 = λ a. IsPartInRange (bus_of link) (without_id a) in
        let all = all-by_way Part number_of_address (λ t. t) addresses (λ number. all-unmap (IsPartInRange (bus_of link)) without_id (of_key number_of_address number addresses) (parts number)) in
        let most : 2 ^ (forms link).id_width ≤ 2 ^ 32 = pow-le-pow_right {n = 2} (omega arith) {i = (forms link).id_width} {j = 32} (fits.links link known).narrow in
        λ k d within.
        let a = get_or addresses k d in
        let part = all k d within in
        request-in_range a (bus_of link) (fits.links link known).width part.legal part.start part.tag (omega (arith, ids k d within, most))

    pub writes-asked : All IsAddressInRange (upper_end node_kind net link n).aw
    writes-asked =
        whole-addresses (upper_end node_kind net link n).aw (λ number. All_front (IsPartInRange (bus_of link)) (asks.writes.asks_only_its_parts number) (parts-in_range true link number)) asks.writes.ids_fit

    pub reads-asked : All IsAddressInRange (upper_end node_kind net link n).ar
    reads-asked =
        whole-addresses (upper_end node_kind net link n).ar (λ number. All_front (IsPartInRange (bus_of link)) (asks.reads.asks_only_its_parts number) (parts-in_range false link number)) asks.reads.ids_fit

    pub data-sent : All (IsTraceWriteData (bus_of link)) (upper_end node_kind net link n).w
    data-sent =
        all-by_way (IsTraceWriteData (bus_of link)) number_of_data (λ t. t) (upper_end node_kind net link n).w
        (λ number. All_front (IsTraceWriteData (bus_of link)) (asks.data_is_the_schedules number) (data-carried link number))
