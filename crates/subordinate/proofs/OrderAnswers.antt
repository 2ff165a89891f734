-- A subordinate answers as it should.
use Rattle.std.proofs.Common.{◌≡◌, ℕ, ◌+◌, ◌<◌, ◌≤◌, ◌==◌, ◌&&◌, suc, true, false, List, [], ◌∷◌, ◌++◌, length, map, take, drop, refl, sym, ◌∙◌, ap, subst, arith, eq-eqb, inl, inr, length-append, IsTrue}
use Rattle.std.specs.Prelude.{All, filter, flat_map, nat_lt, zip}
use Rattle.std.proofs.lemmas.Bool.{lt-ltb, cases_lt}
use Rattle.std.proofs.lemmas.List.{drop-append-le, drop_at, length-drop, length-map, take-append-le, take_all, take_at}
use Rattle.std.proofs.lemmas.List.Elements.{All-head, All-tail}
use Rattle.std.proofs.lemmas.Simd.{map-map}
use Rattle.axi_beats.specs.Response.{worst_of}
use Rattle.axi_beats.specs.declared.beat.Addr.{Addr}
use Rattle.axi_beats.specs.declared.beat.BBeat.{BBeat}
use Rattle.axi_beats.specs.declared.beat.WBeat.{WBeat}
use Rattle.axi_beats.specs.declared.response.Resp.{Resp}
use Rattle.axi_trail.specs.LinkContracts.{Answers, Asks, without_id}
use Rattle.axi_trail.specs.Schedule.{Progress, Schedule, bytes_on}
use Rattle.axi_trail.specs.Trail.{Beats}
use Rattle.axi_trail.specs.Waiting.{beats_by, waiting_shown}
use Rattle.axi_trail.specs.Words.{burst_asked, held_asked, id_of_waiting, len_of_asked, mark_of_data, marks, number_of_address, number_of_data, number_of_read_data, number_of_response, pending_asked, write_asked, write_reply}
use Rattle.axi_trail.proofs.FilterFacts.{length-marks}
use Rattle.axi_trail.proofs.StepFacts.{pending-shown}
use Rattle.axi_trail.proofs.WholeFacts.{answered_after_data}
use Rattle.burst_address.specs.Formulas.{beats_of}
use Rattle.plain_lists.specs.Keys.{of_key}
use Rattle.plain_lists.specs.Prefixes.{Agree, IsPrefix}
use Rattle.plain_lists.proofs.KeyLemmas.{filter-filter, of_key-map}
use Rattle.plain_lists.proofs.PrefixLemmas.{agree_prefix, length-filter_le, prefix_cons, prefix_length, prefix_nil, prefix_same, prefix_whole}
use Rattle.subordinate.specs.Parts.{beats_of_parts}
use Rattle.subordinate.specs.Service.{Service, worst_of_beats}
use Rattle.subordinate.specs.SubordinateState.{Subordinate}
use Rattle.subordinate.specs.SubordinateTable.{answer_to, lacks_data}
use Rattle.subordinate.specs.Tracks.{IsService, KeepsOrder, SuitsService, TracksWrites, data_waiting, is_written, len_of_address, number_of_write, tracked, with_data_so_far, write_waiting}
use Rattle.subordinate.specs.declared.entry.WriteEntry.{WriteEntry}
use Rattle.subordinate.proofs.DataLemmas.{IsWhole}
use Rattle.subordinate.proofs.PartPlaces.{beats-without_id, length-parts}
use Rattle.subordinate.proofs.WriteOrder.{beats-shown, writes-shown}

-- data comes in order of the addresses
pub data-in_order : (aw : List Addr) (w : List WBeat) → Agree (map mark_of_data w) (marks (map burst_asked aw)) → length w ≤ beats_by len_of_address aw → IsPrefix (map mark_of_data w) (marks (map burst_asked aw))
data-in_order aw w agree le =
    agree_prefix (map mark_of_data w) (marks (map burst_asked aw)) agree
    (omega (arith, le, length-map w mark_of_data, length-marks (map burst_asked aw), beats-shown len_of_asked burst_asked aw))

length-flat : (parts : List Addr) (written : List (List WBeat)) → map (λ (xs : List WBeat). length xs) written ≡ map beats_of parts →
    length (flat_map (λ (xs : List WBeat). xs) written) ≡ beats_by len_of_address parts
length-flat [] [] e = refl
length-flat [] (d ∷ written) e = absurd (cc)
length-flat (p ∷ parts) [] e = absurd (cc)
length-flat (p ∷ parts) (d ∷ written) e =
    let sizes : length d ∷ map (λ (xs : List WBeat). length xs) written ≡ beats_of p ∷ map beats_of parts = e in
    let size : length d ≡ p.len + 1 = cc in
    let later : map (λ (xs : List WBeat). length xs) written ≡ map beats_of parts = cc in
    omega (arith, size, length-append d (flat_map (λ (xs : List WBeat). xs) written), length-flat parts written later)

module _ {D : Type 0} (service : Service D) where
  -- a write with all its data
  whole-long : (a : Addr) (beats : List WBeat) (e : WriteEntry) → with_data_so_far service a (take (suc a.len) beats) ≡ e → lacks_data e ≡ false → a.len < length beats
  whole-long a beats e same whole = elim (cases_lt a.len (length beats)) [
    | inl lt ↦ lt
    | inr le ↦
        let lacks : lacks_data e ≡ true =
        sym (ap lacks_data same) ∙ ap (λ (t : List WBeat). nat_lt (length t) (a.len + 1)) (take_all (suc a.len) beats (omega arith)) ∙ lt-ltb (length beats) (a.len + 1) (omega arith) in
        absurd (let no : true ≡ false = sym lacks ∙ whole in cc)
  ]

  -- where all writes are answered, all their data has come
  pub answered-beats : (answered entries : List WriteEntry) (addresses : List Addr) (beats : List WBeat) → tracked service addresses beats ≡ answered ++ entries → All IsWhole answered →
      length addresses ≤ length answered → beats_by len_of_address addresses ≤ length beats
  answered-beats answered entries [] beats others whole le = omega arith
  answered-beats [] entries (a ∷ addresses) beats others whole le = absurd (omega arith)
  answered-beats (e ∷ answered) entries (a ∷ addresses) beats others whole le =
      let both : with_data_so_far service a (take (suc a.len) beats) ∷ tracked service addresses (drop (suc a.len) beats) ≡ e ∷ (answered ++ entries) = others in
      let head : with_data_so_far service a (take (suc a.len) beats) ≡ e = cc in
      let tail : tracked service addresses (drop (suc a.len) beats) ≡ answered ++ entries = cc in
      omega (
        arith,
        whole-long a beats e head (All-head IsWhole e answered whole),
        length-drop (suc a.len) beats,
        answered-beats answered entries addresses (drop (suc a.len) beats) tail (All-tail IsWhole e answered whole) (omega arith),
      )

  status-without_id : IsService service → (a : Addr) (n : ℕ) (beats : List WBeat) → worst_of_beats service (without_id a) n beats ≡ worst_of_beats service a n beats
  status-without_id is a n [] = refl
  status-without_id is a n (w ∷ beats) = ap (λ s. worst_of s (worst_of_beats service (without_id a) (suc n) beats)) (is.data_status a n w) ∙ ap (worst_of (service.data_status a n w)) (status-without_id is a (suc n) beats)

  abbrev due : List Addr → List (List WBeat) → List Resp
  due parts written = map (λ (p : Addr × List WBeat). worst_of_beats service p.0 0 p.1) (zip parts written)

  -- answered writes have the responses that are due
  responses-due : IsService service → (answered entries : List WriteEntry) (addresses parts : List Addr) (written : List (List WBeat)) (beats : List WBeat) →
      tracked service addresses beats ≡ answered ++ entries → All IsWhole answered → IsPrefix (map without_id addresses) parts →
      map (λ (xs : List WBeat). length xs) written ≡ map beats_of parts → IsPrefix beats (flat_map (λ (xs : List WBeat). xs) written) →
      IsPrefix (map (λ (e : WriteEntry). e.worst) answered) (due parts written)
  responses-due is [] entries addresses parts written beats others whole p lengths q = prefix_nil (due parts written)
  responses-due is (e ∷ answered) entries [] parts written beats others whole p lengths q = absurd (let no : [] ≡ e ∷ (answered ++ entries) = others in cc)
  responses-due is (e ∷ answered) entries (a ∷ addresses) [] written beats others whole p lengths q = absurd (let no : [] ≡ without_id a ∷ (map without_id addresses ++ p.rest) = p.whole in cc)
  responses-due is (e ∷ answered) entries (a ∷ addresses) (part ∷ parts) [] beats others whole p lengths q = absurd (cc)
  responses-due is (e ∷ answered) entries (a ∷ addresses) (part ∷ parts) (d ∷ written) beats others whole p lengths q =
      let both : with_data_so_far service a (take (suc a.len) beats) ∷ tracked service addresses (drop (suc a.len) beats) ≡ e ∷ (answered ++ entries) = others in
      let entry : with_data_so_far service a (take (suc a.len) beats) ≡ e = cc in
      let later : tracked service addresses (drop (suc a.len) beats) ≡ answered ++ entries = cc in
      let long : a.len < length beats = whole-long a beats e entry (All-head IsWhole e answered whole) in
      let asked : part ∷ parts ≡ without_id a ∷ (map without_id addresses ++ p.rest) = p.whole in
      let head : part ≡ without_id a = cc in
      let tail : parts ≡ map without_id addresses ++ p.rest = cc in
      let sizes : length d ∷ map (λ (xs : List WBeat). length xs) written ≡ beats_of part ∷ map beats_of parts = lengths in
      let size : length d ≡ beats_of part = cc in
      let more : map (λ (xs : List WBeat). length xs) written ≡ map beats_of parts = cc in
      let n : length d ≡ suc a.len = omega (arith, ap beats_of head) in
      let flat : d ++ flat_map (λ (xs : List WBeat). xs) written ≡ beats ++ q.rest = q.whole in
      let first : take (suc a.len) beats ≡ d =
      sym (take-append-le (suc a.len) beats q.rest (omega arith)) ∙ ap (take (suc a.len)) (sym flat) ∙ take_at d (flat_map (λ (xs : List WBeat). xs) written) (suc a.len) n in
      let rest : flat_map (λ (xs : List WBeat). xs) written ≡ drop (suc a.len) beats ++ q.rest =
      sym (drop_at d (flat_map (λ (xs : List WBeat). xs) written) (suc a.len) n) ∙ ap (drop (suc a.len)) flat ∙ drop-append-le (suc a.len) beats q.rest (omega arith) in
      let front : IsPrefix (map (λ (e : WriteEntry). e.worst) answered) (due parts written) =
      responses-due is answered entries addresses parts written (drop (suc a.len) beats) later (All-tail IsWhole e answered whole) (record { rest = p.rest; whole = tail }) more (record { rest = q.rest; whole = rest }) in
      let same : worst_of_beats service part 0 d ≡ e.worst =
      ap (λ x. worst_of_beats service x 0 d) head ∙ status-without_id is a 0 d ∙ ap (worst_of_beats service a 0) (sym first) ∙ ap (λ (x : WriteEntry). x.worst) entry in
      subst (λ (s : Resp). IsPrefix (e.worst ∷ map (λ (e : WriteEntry). e.worst) answered) (s ∷ due parts written)) (sym same) (prefix_cons e.worst front)

  -- of no ID do fewer writes lack a response than lack data
  fewer-lack : (entries : List WriteEntry) (aw : List Addr) (w : List WBeat) (b : List BBeat) → TracksWrites service entries aw w b → (id : ℕ) →
      length (of_key id_of_waiting id (pending_asked (length w) (map burst_asked aw))) ≤ length (of_key id_of_waiting id (held_asked (map write_asked aw) (map write_reply b)))
  fewer-lack entries aw w b is id =
      let of_id : WriteEntry → ℕ = λ e. e.request.id in
      let lacking : length (of_key id_of_waiting id (pending_asked (length w) (map burst_asked aw))) ≡ length (filter lacks_data (of_key of_id id entries)) =
      ap (λ ws. length (of_key id_of_waiting id ws)) (pending-shown burst_asked len_of_asked (length w) aw ∙ ap (map (waiting_shown burst_asked)) (sym is.lacking) ∙ map-map (waiting_shown burst_asked) data_waiting (filter lacks_data entries))
      ∙ ap length (of_key-map id_of_waiting (λ e. waiting_shown burst_asked (data_waiting e)) id (filter lacks_data entries))
      ∙ length-map (of_key of_id id (filter lacks_data entries)) (λ e. waiting_shown burst_asked (data_waiting e))
      ∙ ap length (filter-filter (λ e. of_id e == id) lacks_data entries) in
      let held_here : length (of_key id_of_waiting id (held_asked (map write_asked aw) (map write_reply b))) ≡ length (of_key of_id id entries) =
      ap (λ ws. length (of_key id_of_waiting id ws)) (writes-shown entries aw b is.open_writes ∙ map-map (waiting_shown write_asked) write_waiting entries)
      ∙ ap length (of_key-map id_of_waiting (λ e. waiting_shown write_asked (write_waiting e)) id entries)
      ∙ length-map (of_key of_id id entries) (λ e. waiting_shown write_asked (write_waiting e)) in
      omega (arith, lacking, held_here, length-filter_le lacks_data (of_key of_id id entries))

module _ {D : Type 0} (service : Service D) (schedule : Schedule) (now : Progress) (s : Subordinate D) (trail : Beats) (is_service : IsService service)
    (suits : (t : ℕ) → SuitsService service (schedule.writes t) (schedule.reads t)) (keeps : KeepsOrder service schedule s trail) (asks : Asks schedule now trail) where
  responses : (t : ℕ) → IsPrefix (map (λ b. b.resp) (of_key number_of_response t trail.b)) (schedule.writes t).responses
  responses t =
      let own = keeps.writes.own t in
      subst (λ (xs : List Resp). IsPrefix (map (λ b. b.resp) (of_key number_of_response t trail.b)) xs) (sym (suits t).responses)
      (prefix_same (ap (map (λ (b : BBeat). b.resp)) own.given ∙ map-map (λ (b : BBeat). b.resp) answer_to own.answered)
      (responses-due service is_service own.answered (of_key number_of_write t s.writes) (of_key number_of_address t trail.aw) (schedule.writes t).parts (schedule.writes t).write_data
      (of_key number_of_data t trail.w) own.others own.whole (asks.writes.asks_only_its_parts t) (suits t).write_data (asks.data_is_the_schedules t)))

  -- a write whose parts are all answered has all its data
  whole-write : (t : ℕ) → 0 < length (schedule.writes t).parts → length (schedule.writes t).parts ≤ length (of_key number_of_response t trail.b) →
      IsTrue (is_written (schedule.writes t) (length (of_key number_of_data t trail.w)))
  whole-write t some enough =
      let own = keeps.writes.own t in
      let parts : List Addr = (schedule.writes t).parts in
      let addresses : List Addr = of_key number_of_address t trail.aw in
      let asked : length addresses ≤ length parts = omega (arith, prefix_length (asks.writes.asks_only_its_parts t), length-map addresses without_id) in
      let all : length addresses ≤ length own.answered = omega (arith, asked, enough, ap length own.given, length-map own.answered answer_to) in
      let came : beats_by len_of_address addresses ≤ length (of_key number_of_data t trail.w) =
      answered-beats service own.answered (of_key number_of_write t s.writes) addresses (of_key number_of_data t trail.w) own.others own.whole all in
      let known : length own.answered + length (of_key number_of_write t s.writes) ≡ length addresses =
      sym (length-append own.answered (of_key number_of_write t s.writes)) ∙ ap length (sym own.others) ∙ length-tracked addresses (of_key number_of_data t trail.w) in
      let whole : parts ≡ map without_id addresses = prefix_whole (map without_id addresses) parts (asks.writes.asks_only_its_parts t)
      (omega (arith, known, length-map addresses without_id, enough, ap length own.given, length-map own.answered answer_to)) in
      let due_beats : beats_by len_of_address parts ≡ beats_by len_of_address addresses = ap (beats_by len_of_address) whole ∙ beats-without_id addresses in
      let within : length (of_key number_of_data t trail.w) ≤ beats_by len_of_address parts =
      omega (arith, prefix_length (asks.data_is_the_schedules t), length-flat parts (schedule.writes t).write_data (suits t).write_data) in
      let count : length (of_key number_of_data t trail.w) ≡ length (beats_of_parts parts) = omega (arith, came, due_beats, within, length-parts parts) in
      ap (λ b. b && length (of_key number_of_data t trail.w) == length (beats_of_parts parts)) (lt-ltb 0 (length parts) some)
      ∙ eq-eqb (length (of_key number_of_data t trail.w)) (length (beats_of_parts parts)) count
    where
      length-tracked : (addresses : List Addr) (beats : List WBeat) → length (tracked service addresses beats) ≡ length addresses
      length-tracked [] beats = refl
      length-tracked (a ∷ addresses) beats = ap suc (length-tracked addresses (drop (suc a.len) beats))

  -- it answers as it should, if what it knows to be written is known, and its bytes are
  pub answers-order : ((t : ℕ) → IsTrue (is_written (schedule.writes t) (length (of_key number_of_data t trail.w))) → IsTrue (now.written t)) →
      ((t : ℕ) → IsPrefix (bytes_on (of_key number_of_read_data t trail.r) (schedule.reads t).lanes) (now.filled t)) → Answers schedule now trail
  answers-order written filled = record {
    answers_in_order_of_id = keeps.writes.in_order_of_id;
    reads_in_order_of_id = keeps.reads.in_order_of_id;
    responses_are_the_schedules = responses;
    read_responses_are_the_schedules = keeps.reads.statuses;
    answered_after_its_data =
        answered_after_data trail.aw trail.w trail.b (data-in_order trail.aw trail.w asks.data_follows_addresses keeps.writes.addresses_first) keeps.writes.in_order_of_id
        (fewer-lack service s.writes trail.aw trail.w trail.b keeps.writes);
    done_when_answered = λ t some enough. written t (whole-write t some enough);
    lanes_are_whole = keeps.reads.lanes_are_whole;
    bytes_are_filled = filled;
  }
