-- A transaction of a plan's network is the one that is due by the plan.
use Rattle.std.proofs.Common.{◌≡◌, ◌∷◌, [], ℕ, Bool, true, false, cond, List, Option, Some, None, append-nil, length, refl, sym, ap, ◌∙◌, subst, inl, inr}
use Rattle.std.specs.Prelude.{flat_map, map, zip}
use Rattle.std.specs.List.{range_with_len}
use Rattle.std.proofs.lemmas.Bool.{cases_Bool}
use Rattle.std.proofs.lemmas.Simd.{map-map}
use Rattle.axi_beats.specs.Bus.{IsBusWidth}
use Rattle.axi_beats.specs.declared.beat.Addr.{Addr}
use Rattle.axi_beats.specs.declared.beat.WBeat.{WBeat}
use Rattle.axi_beats.specs.declared.response.Resp.{Resp}
use Rattle.axi_beats.specs.declared.response.Resp.TheVariants.{DecErr, Okay}
use Rattle.axi_history.specs.Records.{NamedByte, Transaction}
use Rattle.axi_trail.specs.Schedule.{Share}
use Rattle.burst_address.specs.Bytes.{Byte, beat_bytes, burst_bytes, written_bytes}
use Rattle.burst_address.specs.Formulas.{beats_of}
use Rattle.burst_address.specs.Legal.{IsLegal}
use Rattle.burst_address.specs.Status.{worst_among}
use Rattle.elaborate.specs.Plan.{first_part, plan_link_at, plan_node_at}
use Rattle.elaborate.specs.declared.part.Part.{Part}
use Rattle.elaborate.specs.declared.part.Part.TheVariants as part
use Rattle.manager_node.specs.Beats.{data_beats}
use Rattle.manager_node.specs.BurstLaws.{SendsItsBytes}
use Rattle.manager_node.specs.ManagerState.{ManagerState}
use Rattle.manager_node.specs.ManagerTrail.{IsManagerLink, IsNewManager}
use Rattle.manager_node.specs.Script.{ScriptItem}
use Rattle.memory_node.specs.MemoryArea.{MemoryArea}
use Rattle.memory_node.specs.MemoryState.{MemoryState}
use Rattle.memory_node.specs.MemoryTable.{memory_service}
use Rattle.memory_node.specs.Status.{may_read, may_write, read_status, write_status}
use Rattle.net_due.proofs.ByteStatuses.{given-same, map-same, may-read, may-write, written-same}
use Rattle.net_due.proofs.CarriedBytes.{burst-wanted, data-written, named_byte, part-bytes, part_of, wanted-are, written-are}
use Rattle.net_due.proofs.CarriedStatuses.{all-refused, error-ends, memory-ends, refused}
use Rattle.net_due.proofs.ErrorFills.{error-fill}
use Rattle.net_due.proofs.Targets.{IsPlanned, at-target, end, sound, starts, suits, target, target-is, target-kind, target-less}
use Rattle.net_due.proofs.WayForms.{end-fits, end-keeps, end-written, responses-are}
use Rattle.net_history.proofs.EndLemmas.{end-known}
use Rattle.net_history.proofs.ItemLemmas.{among}
use Rattle.net_history.proofs.ManagerRuns.{begins, has-link}
use Rattle.net_history.proofs.MemoryRuns.{IsMemoryAt, has-form, memory-begins, memory_state, one-upper}
use Rattle.net_history.proofs.TargetLemmas.{fill-by, may-by}
use Rattle.net_history.specs.Due.{byte_named, bytes_carried, fill_of, may_access, may_at_target, transaction_from}
use Rattle.net_kinds.proofs.StatusLemmas.{wanted-on_full}
use Rattle.net_kinds.specs.NodeCuts.{bytes_of_beat, responses_by, worst_from}
use Rattle.net_kinds.specs.NodeKind.{NodeState, kind_by_name, node_kind}
use Rattle.net_kinds.specs.NodeKind.KindName.{AMemory}
use Rattle.net_model.specs.Network.{Network}
use Rattle.net_opening.specs.Opening.{opening, state_by_part}
use Rattle.net_opening.specs.PlanLinks.{form_of_link, link_into}
use Rattle.net_opening.specs.States.{area_on, lite_memory_at, manager_at, memory_at}
use Rattle.net_plan.proofs.OnceLemmas.{manager-first}
use Rattle.net_plan.proofs.OpeningWired.{node-is}
use Rattle.net_plan.specs.PlanLaws.{CanRun}
use Rattle.net_ways.specs.Sound.{IsSound}
use Rattle.net_ways.specs.Ways.{Hop}
use Rattle.node_core.specs.Acted.{opened}
use Rattle.node_shape.specs.LinkForm.{FitsLink, LinkForm, wanted_bytes}
use Rattle.node_shape.specs.Way.{Origin, Way, start_here}
use Rattle.plain_lists.proofs.PlaceLemmas.{at-all}
use Rattle.plan_traffic.specs.Accepted.{IsTraffic}
use Rattle.plan_traffic.specs.Due.{bytes_at, bytes_strobed, given_status, is_accessed, response_at, response_of_write, status_by, transaction_due, written_status}
use Rattle.plan_traffic.specs.Scripts.{script_item}
use Rattle.plan_traffic.specs.Traffic.{TrafficItem}
use Rattle.subordinate.specs.Parts.{BeatOf}
use Rattle.subordinate.specs.Tracks.{ends_with}
use Rattle.topology.specs.Document.{DocumentNode, node_at}

abbrev as_named : Option ℕ → ℕ → Bool → NamedByte
as_named value address allowed = record { address = address; value = value; allowed = allowed }

-- both kinds of memory end transactions alike
ends-alike : (lite : Bool) (c : MemoryState) (write : Bool) (share : Share) → (node_kind.way (memory_state lite c)).ends write share ≡ ends_with (memory_service c.area) write share
ends-alike true c write share = refl
ends-alike false c write share = refl

abbrev as_due : Transaction → ℕ → ℕ → ℕ → List NamedByte → List Resp → Transaction
as_due t manager target fill bytes response = record t { manager = manager; target = target; fill = fill; bytes = bytes; response = response }

module _ (nodes : List DocumentNode) (items : List TrafficItem) (run : CanRun nodes) (traffic : IsTraffic nodes items) (number inner : ℕ) (item : TrafficItem) (planned : IsPlanned nodes items number inner item) where
  abbrev net : Network NodeState
  net = opening nodes items

  abbrev forms : ℕ → LinkForm
  forms = form_of_link nodes

  abbrev s : ManagerState
  s = manager_at nodes number items

  abbrev script : ScriptItem
  script = script_item item

  abbrev its_sound : IsSound node_kind (opening nodes items) (form_of_link nodes)
  its_sound = sound nodes items run traffic number inner item planned

  abbrev its_start : Origin
  its_start = starts nodes items run traffic number inner item planned

  abbrev its_end : Hop
  its_end = end nodes items run traffic number inner item planned

  abbrev its_target : ℕ
  its_target = target nodes items run traffic number inner item planned

  abbrev burst : Addr
  burst = part_of script

  -- the document node of its target
  abbrev there : DocumentNode
  there = node_at nodes (plan_node_at nodes its_target).document

  -- what its last link carries fits that link
  abbrev form : LinkForm
  form = forms its_end.link

  fits : FitsLink form item.txn.write its_end.share
  fits = end-fits net forms its_sound number s inner script planned.own

  -- the link below its manager, on which its burst is legal
  abbrev own_form : LinkForm
  own_form = forms s.lower

  its_link : IsManagerLink own_form s
  its_link = has-link net forms its_sound number s planned.own.is

  new : IsNewManager s
  new = begins net forms its_sound number s planned.own.is

  own-legal : IsLegal script.txn.request s.bus
  own-legal = at-all (λ (i : ScriptItem). IsLegal i.txn.request s.bus) s.script inner script new.legal planned.own.at

  width : IsBusWidth own_form.bus
  width = subst IsBusWidth (sym its_link.bus) new.bus_width

  legal : IsLegal burst own_form.bus
  legal = subst (IsLegal burst) (sym its_link.bus) own-legal

  sends : item.txn.write ≡ true → SendsItsBytes s.bus script
  sends writes = record {
    width = new.bus_width;
    legal = own-legal;
    sent = (suits nodes items run traffic number inner item planned).bytes ∙ ap (λ (b : Bool). cond b (length (burst_bytes item.txn.request)) 0) writes;
  }

  -- its data, which writes what the script strobes
  abbrev beats : List WBeat
  beats = data_beats script s.bus

  own-written : item.txn.write ≡ true → written_bytes s.bus burst beats ≡ bytes_strobed item
  own-written writes = data-written s.bus script (sends writes)

  sent-written : item.txn.write ≡ true → flat_map (λ (p : Addr × List WBeat). written_bytes form.bus p.0 p.1) (zip its_end.share.parts its_end.share.write_data) ≡ bytes_strobed item
  sent-written writes = end-written net forms its_sound number s inner script planned.own writes ∙ own-written writes

  -- and the bytes that are wanted of a read
  sent-wanted : flat_map (wanted_bytes form) its_end.share.parts ≡ burst_bytes item.txn.request
  sent-wanted =
      (end-keeps net forms its_sound number s inner script planned.own).bytes ∙ append-nil (wanted_bytes own_form burst) ∙ burst-wanted own_form its_link.axi width burst legal
      ∙ part-bytes script

  -- ---- bytes

  abbrev due : Transaction
  due = transaction_from net forms number its_start script

  module _ (kind : Part) (may : ℕ → Bool) (may-is : may_at_target net forms item.txn.write its_start ≡ may) where
    abbrev written : Byte → NamedByte
    written byte = as_named (Some byte.value) byte.address (is_accessed (written_status there kind byte.address))

    abbrev wanted : ℕ → NamedByte
    wanted address = as_named None address (is_accessed (given_status there kind address))

    written-bytes : item.txn.write ≡ true → ((address : ℕ) → may address ≡ is_accessed (written_status there kind address)) → due.bytes ≡ bytes_at there kind item
    written-bytes writes each =
        ap (λ (m : ℕ → Bool). bytes_carried form m item.txn.write its_end.share) may-is
        ∙ ap (λ (b : Bool). bytes_carried form may b its_end.share) writes
        ∙ written-are form may fits.width its_end.share.parts its_end.share.write_data fits.legal (fits.write_data writes)
        ∙ ap (map (named_byte form may)) (sent-written writes)
        ∙ map-same (named_byte form may) written (λ (byte : Byte). ap (as_named (Some byte.value) byte.address) (each byte.address)) (bytes_strobed item)
        ∙ sym (ap (λ (b : Bool). cond b (map written (bytes_strobed item)) (map wanted (burst_bytes item.txn.request))) writes)

    read-bytes : item.txn.write ≡ false → ((address : ℕ) → may address ≡ is_accessed (given_status there kind address)) → due.bytes ≡ bytes_at there kind item
    read-bytes reads each =
        ap (λ (m : ℕ → Bool). bytes_carried form m item.txn.write its_end.share) may-is
        ∙ ap (λ (b : Bool). bytes_carried form may b its_end.share) reads
        ∙ wanted-are form may its_end.share.parts
        ∙ ap (map (byte_named may None)) sent-wanted
        ∙ map-same (byte_named may None) wanted (λ (address : ℕ). ap (as_named None address) (each address)) (burst_bytes item.txn.request)
        ∙ sym (ap (λ (b : Bool). cond b (map written (bytes_strobed item)) (map wanted (burst_bytes item.txn.request))) reads)

  -- ---- responses

  -- those of the node there, by the status of each byte
  module _ (kind : Part) (is : (plan_node_at nodes its_target).part ≡ kind) where
    may-there : may_at_target net forms item.txn.write its_start ≡ may_access (state_by_part nodes items its_target kind).kind (state_by_part nodes items its_target kind).state item.txn.write
    may-there = at-target nodes items run traffic number inner item planned (λ address. false) (λ name state. may_access name state item.txn.write) kind is

    module _ (least : Resp) (status : ℕ → Resp) (ends : (node_kind.way (state_by_part nodes items its_target kind)).ends item.txn.write its_end.share ≡ responses_by least status form item.txn.write its_end.share) where
      way-is : due.response ≡ responses_by least status own_form item.txn.write its_start.share
      way-is =
          responses-are net forms its_sound number s inner script planned.own least status
          (ap (λ (w : Way). w.ends item.txn.write its_end.share)
          (at-target nodes items run traffic number inner item planned (start_here []) (λ name state. (kind_by_name name).way state) kind is) ∙ ends)

      written-response : item.txn.write ≡ true → due.response ≡ worst_from least (λ (byte : Byte). status byte.address) (bytes_strobed item) ∷ []
      written-response writes =
          let response : ℕ → Addr × List WBeat → Resp = λ bus p. worst_from least (λ (byte : Byte). status byte.address) (written_bytes bus p.0 p.1) in
          way-is
          ∙ ap (λ (b : Bool). responses_by least status own_form b its_start.share) writes
          ∙ ap (λ (b : Bool). map (response own_form.bus) (zip (burst ∷ []) (cond b (beats ∷ []) []))) writes
          ∙ ap (λ (bus : ℕ). response bus (burst, beats) ∷ []) its_link.bus
          ∙ ap (λ (bytes : List Byte). worst_from least (λ (byte : Byte). status byte.address) bytes ∷ []) (own-written writes)

      read-response : item.txn.write ≡ false → due.response ≡ map (λ (n : ℕ). worst_from least status (beat_bytes item.txn.request n)) (range_with_len 0 (beats_of item.txn.request))
      read-response reads =
          let beat : ℕ → BeatOf = λ n. record { request = burst; beat = n } in
          let response : BeatOf → Resp = λ b. worst_from least status (bytes_of_beat own_form b) in
          let ns = range_with_len 0 (beats_of item.txn.request) in
          way-is
          ∙ ap (λ (b : Bool). responses_by least status own_form b its_start.share) reads
          ∙ ap (map response) (append-nil (map beat ns)) ∙ map-map response beat ns
          ∙ map-same (λ (n : ℕ). response (beat n)) (λ (n : ℕ). worst_from least status (beat_bytes item.txn.request n))
          (λ (n : ℕ). ap (worst_from least status) (wanted-on_full own_form (beat n) its_link.axi width legal)) ns

  -- what is due, at the part of a document node
  pub record IsDueAs (kind : Part) : Type 0 where
    pub fill : due.fill ≡ there.fill
    pub bytes : due.bytes ≡ bytes_at there kind item
    pub response : due.response ≡ response_at there kind item

  -- ---- at a memory, of AXI4 or AXI4-Lite

  module _ (kind : Part) (is : (plan_node_at nodes its_target).part ≡ kind) (lite : Bool) (c : MemoryState) (area_bus : ℕ) (state-is : state_by_part nodes items its_target kind ≡ memory_state lite c) (area-is : c.area ≡ area_on area_bus there)
      (taken : (address : ℕ) → written_status there kind address ≡ status_by there there.read_only address) (given : (address : ℕ) → given_status there kind address ≡ status_by there there.hole address)
      (of_bytes : response_of_write there kind item kind ≡ worst_among (map (λ (byte : Byte). written_status there kind byte.address) (bytes_strobed item))) where
    is-memory : IsMemoryAt net its_target c
    is-memory = record {
      lite = lite;
      out = (opened (state_by_part nodes items its_target kind)).out;
      at = node-is nodes items its_target (target-less nodes items run traffic number inner item planned) ∙ ap (λ (p : Part). Some (opened (state_by_part nodes items its_target p))) is
          ∙ ap (λ (state : NodeState). Some (opened state)) state-is;
    }

    bus-is : c.area.bus ≡ form.bus
    bus-is =
        let known = end-known net forms its_sound its_start (among net forms its_sound number s inner script planned.own) in
        let link = one-upper net forms its_sound its_target c is-memory its_end.link known (target-is nodes items run traffic number inner item planned) in
        sym (has-form net forms its_sound its_target c is-memory).bus ∙ ap (λ (l : ℕ). (forms l).bus) (sym link)

    memory-may : may_at_target net forms item.txn.write its_start ≡ may_access AMemory c item.txn.write
    memory-may = may-there kind is ∙ ap (λ (state : NodeState). may_access state.kind state.state item.txn.write) state-is ∙ may-by lite c item.txn.write

    memory-bytes : due.bytes ≡ bytes_at there kind item
    memory-bytes =
        let may : ℕ → Bool = may_access AMemory c item.txn.write in
        elim (cases_Bool item.txn.write) [
          | inl writes ↦
              written-bytes kind may memory-may writes
              (λ address. ap (λ (b : Bool). cond b (may_write c.area address) (may_read c.area address)) writes ∙ ap (λ area. may_write area address) area-is ∙ may-write area_bus there address ∙ ap is_accessed (sym (taken address)))
          | inr reads ↦
              read-bytes kind may memory-may reads
              (λ address. ap (λ (b : Bool). cond b (may_write c.area address) (may_read c.area address)) reads ∙ ap (λ area. may_read area address) area-is ∙ may-read area_bus there address ∙ ap is_accessed (sym (given address)))
        ]

    -- the status of a byte that is written, or read
    abbrev status : ℕ → Resp
    status address = cond item.txn.write (write_status c.area address) (read_status c.area address)

    memory-end : (node_kind.way (state_by_part nodes items its_target kind)).ends item.txn.write its_end.share ≡ responses_by Okay status form item.txn.write its_end.share
    memory-end =
        ap (λ (state : NodeState). (node_kind.way state).ends item.txn.write its_end.share) state-is
        ∙ ends-alike lite c item.txn.write its_end.share
        ∙ memory-ends c.area form bus-is fits.width (memory-begins net forms its_sound its_target c is-memory).area item.txn.write its_end.share fits

    abbrev of_write : List Resp
    of_write = response_of_write there kind item kind ∷ []

    abbrev of_read : List Resp
    of_read = map (λ (n : ℕ). worst_among (map (given_status there kind) (beat_bytes item.txn.request n))) (range_with_len 0 (beats_of item.txn.request))

    memory-response : due.response ≡ response_at there kind item
    memory-response =
        elim (cases_Bool item.txn.write) [
          | inl writes ↦
              written-response kind is Okay status memory-end writes
              ∙ ap (λ (r : Resp). r ∷ [])
              (ap worst_among (map-same (λ (byte : Byte). status byte.address) (λ (byte : Byte). written_status there kind byte.address)
              (λ (byte : Byte). ap (λ (b : Bool). cond b (write_status c.area byte.address) (read_status c.area byte.address)) writes ∙ ap (λ area. write_status area byte.address) area-is
              ∙ written-same area_bus there byte.address ∙ sym (taken byte.address)) (bytes_strobed item))
              ∙ sym of_bytes)
              ∙ sym (ap (λ (b : Bool). cond b of_write of_read) writes)
          | inr reads ↦
              read-response kind is Okay status memory-end reads
              ∙ map-same (λ (n : ℕ). worst_from Okay status (beat_bytes item.txn.request n)) (λ (n : ℕ). worst_among (map (given_status there kind) (beat_bytes item.txn.request n)))
              (λ (n : ℕ). ap worst_among (map-same status (given_status there kind)
              (λ (address : ℕ). ap (λ (b : Bool). cond b (write_status c.area address) (read_status c.area address)) reads ∙ ap (λ area. read_status area address) area-is
              ∙ given-same area_bus there address ∙ sym (given address)) (beat_bytes item.txn.request n))) (range_with_len 0 (beats_of item.txn.request))
              ∙ sym (ap (λ (b : Bool). cond b of_write of_read) reads)
        ]

    at-any_memory : IsDueAs kind
    at-any_memory = record {
      fill = at-target nodes items run traffic number inner item planned 0 fill_of kind is ∙ ap (λ (state : NodeState). fill_of state.kind state.state) state-is ∙ fill-by lite c ∙ ap (λ (area : MemoryArea). area.fill) area-is;
      bytes = memory-bytes;
      response = memory-response;
    }

  at-memory : (plan_node_at nodes its_target).part ≡ part.Memory → IsDueAs part.Memory
  at-memory is = at-any_memory part.Memory is false (memory_at nodes its_target items) there.bus refl refl (λ address. refl) (λ address. refl) refl

  at-lite_memory : (plan_node_at nodes its_target).part ≡ part.LiteMemory → IsDueAs part.LiteMemory
  at-lite_memory is =
      at-any_memory part.LiteMemory is true (lite_memory_at nodes its_target items) (plan_link_at nodes (link_into nodes its_target)).link.bus refl refl (λ address. refl) (λ address. refl) refl

  -- ---- at an error subordinate

  module _ (is : (plan_node_at nodes its_target).part ≡ part.Error) where
    error-bytes : due.bytes ≡ bytes_at there part.Error item
    error-bytes = elim (cases_Bool item.txn.write) [
      | inl writes ↦ written-bytes part.Error (λ address. false) (may-there part.Error is) writes (λ address. refl)
      | inr reads ↦ read-bytes part.Error (λ address. false) (may-there part.Error is) reads (λ address. refl)
    ]

    abbrev of_error : List Resp
    of_error = map (λ (n : ℕ). worst_among (map (λ (address : ℕ). DecErr) (beat_bytes item.txn.request n))) (range_with_len 0 (beats_of item.txn.request))

    error-response : due.response ≡ response_at there part.Error item
    error-response =
        let end = error-ends form item.txn.write its_end.share fits in
        elim (cases_Bool item.txn.write) [
          | inl writes ↦ written-response part.Error is DecErr refused end writes ∙ sym (ap (λ (b : Bool). cond b (DecErr ∷ []) of_error) writes)
          | inr reads ↦
              read-response part.Error is DecErr refused end reads
              ∙ sym (map-same (λ (n : ℕ). worst_among (map refused (beat_bytes item.txn.request n))) (λ (n : ℕ). DecErr) (λ (n : ℕ). all-refused own_form.bus width burst legal n) (range_with_len 0 (beats_of item.txn.request)))
              ∙ sym (ap (λ (b : Bool). cond b (DecErr ∷ []) of_error) reads)
        ]

    at-error : IsDueAs part.Error
    at-error = record {
      fill = at-target nodes items run traffic number inner item planned 0 fill_of part.Error is ∙ sym (error-fill nodes items run its_target (target-less nodes items run traffic number inner item planned) is);
      bytes = error-bytes;
      response = error-response;
    }

  -- ---- all of them

  its-due : IsDueAs (plan_node_at nodes its_target).part
  its-due =
      elim (target-kind nodes items run traffic number inner item planned) [
        | inl is ↦ subst (λ (p : Part). IsDueAs p) (sym is) (at-memory is)
        | inr (inl is) ↦ subst (λ (p : Part). IsDueAs p) (sym is) (at-lite_memory is)
        | inr (inr is) ↦ subst (λ (p : Part). IsDueAs p) (sym is) (at-error is)
      ]

  pub due-is : transaction_from (opening nodes items) (form_of_link nodes) number (starts nodes items run traffic number inner item planned) (script_item item) ≡ transaction_due nodes item
  due-is =
      let manager : number ≡ first_part nodes item.manager = manager-first nodes items run number planned.less planned.first ∙ ap (first_part nodes) (sym planned.manager) in
      let place : due.target ≡ its_target = target-is nodes items run traffic number inner item planned in
      ap (λ (k : ℕ). as_due due k due.target due.fill due.bytes due.response) manager
      ∙ ap (λ (k : ℕ). as_due due (first_part nodes item.manager) k due.fill due.bytes due.response) place
      ∙ ap (λ (k : ℕ). as_due due (first_part nodes item.manager) its_target k due.bytes due.response) its-due.fill
      ∙ ap (λ (bytes : List NamedByte). as_due due (first_part nodes item.manager) its_target there.fill bytes due.response) its-due.bytes
      ∙ ap (λ (response : List Resp). as_due due (first_part nodes item.manager) its_target there.fill (bytes_at there (plan_node_at nodes its_target).part item) response) its-due.response
