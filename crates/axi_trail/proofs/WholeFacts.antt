-- Writes that lack data, and writes that lack their response.
use Rattle.std.proofs.Common.{◌≡◌, ℕ, ◌+◌, ◌≤◌, zero, suc, List, [], ◌∷◌, ◌++◌, length, map, filter, refl, sym, ◌∙◌, ap, arith, append_assoc, append-nil, length-append}
use Rattle.std.specs.Prelude.{slice_range}
use Rattle.std.proofs.lemmas.List.{length-map, map-append, take-map}
use Rattle.std.proofs.lemmas.Option.{same_Some}
use Rattle.axi_beats.specs.Lanes.{Span}
use Rattle.axi_beats.specs.declared.beat.Addr.{Addr}
use Rattle.axi_beats.specs.declared.beat.WBeat.{WBeat}
use Rattle.axi_trail.specs.DataLaws.{AnsweredAfterData, BytesOfOneMore, NoneLacksData, OldestHasItsData}
use Rattle.axi_trail.specs.Schedule.{bytes_on}
use Rattle.axi_trail.specs.Waiting.{Waiting, complete, waiting_request}
use Rattle.axi_trail.specs.Words.{Asked, Mark, Reply, beats_due, burst_asked, completed, held_asked, id_of_address, id_of_asked, id_of_reply, id_of_waiting, len_of_asked, mark_of_data, mark_of_reply, marks, marks_of, pending_asked, write_asked, write_reply}
use Rattle.axi_trail.proofs.DataFacts.{beats_due-writes}
use Rattle.axi_trail.proofs.FilterFacts.{length-marks}
use Rattle.axi_trail.proofs.MarkFacts.{completed_are_complete}
use Rattle.axi_trail.proofs.StepFacts.{own_pending}
use Rattle.axi_trail.proofs.WaitingFacts.{complete-beats, complete-pending, none-pending, pending-past, pending-within}
use Rattle.plain_lists.specs.Keys.{of_key}
use Rattle.plain_lists.specs.Prefixes.{IsPrefix}
use Rattle.plain_lists.proofs.KeyLemmas.{of_key-append, of_key-cons, of_key-map, of_key-push}
use Rattle.plain_lists.proofs.PrefixLemmas.{prefix_flat_map, prefix_first, prefix_length, prefix_map, prefix_of_key, prefix_total}

-- each request has a beat
length-beats : (xs : List Asked) → length xs ≤ beats_due xs
length-beats [] = omega arith
length-beats (x ∷ xs) = omega (arith, length-beats xs)

-- at most as many requests are complete as beats have come
pending-long : (count : ℕ) (xs : List Asked) → length xs ≤ length (pending_asked count xs) + count
pending-long count xs =
    let parts : complete len_of_asked count xs ++ map waiting_request (pending_asked count xs) ≡ xs = complete-pending len_of_asked count xs in
    omega (
      arith,
      ap (λ (t : List Asked). length t) parts,
      length-append (complete len_of_asked count xs) (map waiting_request (pending_asked count xs)),
      length-map (pending_asked count xs) waiting_request,
      length-beats (complete len_of_asked count xs),
      complete-beats len_of_asked count xs,
    )

-- of writes, each has one answer: those that are held, and as many as answers
held-and-answered : (count : ℕ) (xs : List Addr) → count ≤ length xs → length (pending_asked count (map write_asked xs)) + count ≡ length xs
held-and-answered zero [] le = refl
held-and-answered (suc count) [] le = absurd (omega arith)
held-and-answered zero (x ∷ xs) le =
    omega (arith, ap (λ (t : List (Waiting Asked)). length t) (pending-within len_of_asked 0 (write_asked x) (map write_asked xs) (omega arith)), held-and-answered 0 xs (omega arith))
held-and-answered (suc count) (x ∷ xs) le =
    let next : pending_asked (suc count) (map write_asked (x ∷ xs)) ≡ pending_asked count (map write_asked xs) =
    pending-past len_of_asked (suc count) (write_asked x) (map write_asked xs) (omega arith) ∙ ap (λ (n : ℕ). pending_asked n (map write_asked xs)) (omega arith) in
    omega (arith, ap (λ (t : List (Waiting Asked)). length t) next, held-and-answered count xs (omega arith))

-- how many there are of an ID
unfoldable count_id : ℕ → List Addr → ℕ
count_id id xs = length (of_key id_of_address id xs)

bursts-of_id : (id : ℕ) (xs : List Addr) → length (of_key id_of_asked id (map burst_asked xs)) ≡ count_id id xs
unfolding count_id
bursts-of_id id xs = ap (λ (t : List Asked). length t) (of_key-map id_of_asked burst_asked id xs) ∙ length-map (of_key id_of_address id xs) burst_asked

writes-of_id : (id : ℕ) (xs : List Addr) → length (of_key id_of_asked id (map write_asked xs)) ≡ count_id id xs
unfolding count_id
writes-of_id id xs = ap (λ (t : List Asked). length t) (of_key-map id_of_asked write_asked id xs) ∙ length-map (of_key id_of_address id xs) write_asked

beats-of_id : (id : ℕ) (xs : List Addr) → beats_due (of_key id_of_asked id (map write_asked xs)) ≡ count_id id xs
unfolding count_id
beats-of_id id xs = ap beats_due (of_key-map id_of_asked write_asked id xs) ∙ beats_due-writes (of_key id_of_address id xs)

-- of an ID, those that are complete and those that are pending
parts-of_id : (id count : ℕ) (xs : List Asked) →
    length (of_key id_of_asked id xs) ≡ length (of_key id_of_asked id (complete len_of_asked count xs)) + length (of_key id_of_waiting id (pending_asked count xs))
parts-of_id id count xs =
    let whole : of_key id_of_asked id xs ≡ of_key id_of_asked id (complete len_of_asked count xs) ++ of_key id_of_asked id (map waiting_request (pending_asked count xs)) =
    ap (of_key id_of_asked id) (sym (complete-pending len_of_asked count xs)) ∙ of_key-append id_of_asked id (complete len_of_asked count xs) (map waiting_request (pending_asked count xs)) in
    let shown : length (of_key id_of_asked id (map waiting_request (pending_asked count xs))) ≡ length (of_key id_of_waiting id (pending_asked count xs)) =
    ap (λ (t : List Asked). length t) (of_key-map id_of_asked waiting_request id (pending_asked count xs)) ∙ length-map (of_key id_of_waiting id (pending_asked count xs)) waiting_request in
    omega (
      arith,
      ap (λ (t : List Asked). length t) whole,
      length-append (of_key id_of_asked id (complete len_of_asked count xs)) (of_key id_of_asked id (map waiting_request (pending_asked count xs))),
      shown,
    )

-- the writes of an ID whose data has come are those that aren't pending
complete-of_id : (id : ℕ) (aw : List Addr) (w : List WBeat) → IsPrefix (map mark_of_data w) (marks (map burst_asked aw)) →
    count_id id (completed aw (map mark_of_data w)) + length (of_key id_of_waiting id (pending_asked (length w) (map burst_asked aw))) ≡ count_id id aw
complete-of_id id aw w in_order =
    let bursts = map burst_asked aw in
    let passed = map mark_of_data w in
    let done = completed aw passed in
    let complete_ones : map burst_asked done ≡ complete len_of_asked (length w) bursts =
    sym (take-map burst_asked (length (filter (λ (m : Mark). m.last) passed)) aw) ∙ completed_are_complete bursts passed in_order
    ∙ ap (λ (n : ℕ). complete len_of_asked n bursts) (length-map w mark_of_data) in
    let same : count_id id done ≡ length (of_key id_of_asked id (complete len_of_asked (length w) bursts)) =
    sym (bursts-of_id id done) ∙ ap (λ (t : List Asked). length (of_key id_of_asked id t)) complete_ones in
    omega (arith, same, parts-of_id id (length w) bursts, bursts-of_id id aw)

-- the held writes of an ID, counted
held-of_write_id : (id : ℕ) (aw : List Addr) (replies : List Reply) →
    length (of_key id_of_waiting id (held_asked (map write_asked aw) replies)) ≡ length (pending_asked (length (map mark_of_reply (of_key id_of_reply id replies))) (of_key id_of_asked id (map write_asked aw)))
held-of_write_id id aw replies = ap (λ (t : List (Waiting Asked)). length t) (own_pending (map write_asked aw) replies id)

pub oldest_has_its_data : OldestHasItsData
oldest_has_its_data aw w b next in_order answered after_data =
    let id = next.id in
    let replies = map write_reply b in
    let done = completed aw (map mark_of_data w) in
    -- the answers, with the next one
    let came : of_key id_of_reply id (map write_reply (b ++ next ∷ [])) ≡ of_key id_of_reply id replies ++ write_reply next ∷ [] =
    ap (of_key id_of_reply id) (map-append write_reply b (next ∷ [])) ∙ of_key-push id_of_reply id replies (write_reply next) refl in
    let more : length (of_key id_of_reply id (map write_reply (b ++ next ∷ []))) ≡ suc (length (of_key id_of_reply id replies)) =
    omega (arith, ap (λ (t : List Reply). length t) came, length-append (of_key id_of_reply id replies) (write_reply next ∷ [])) in
    let within : suc (length (of_key id_of_reply id replies)) ≤ count_id id done =
    omega (
      arith,
      prefix_length (after_data id),
      length-map (of_key id_of_reply id (map write_reply (b ++ next ∷ []))) mark_of_reply,
      more,
      length-marks (of_key id_of_asked id (map write_asked done)),
      beats-of_id id done,
    ) in
    omega (
      arith,
      within,
      complete-of_id id aw w in_order,
      writes-of_id id aw,
      held-of_write_id id aw replies,
      pending-long (length (map mark_of_reply (of_key id_of_reply id replies))) (of_key id_of_asked id (map write_asked aw)),
      length-map (of_key id_of_reply id replies) mark_of_reply,
    )

pub answered_after_data : AnsweredAfterData
unfolding count_id
answered_after_data aw w b in_order answered fewer id =
    let replies = map write_reply b in
    let passed = map mark_of_data w in
    let done = completed aw passed in
    let own = of_key id_of_address id aw in
    let answers = length (map mark_of_reply (of_key id_of_reply id replies)) in
    let writes : of_key id_of_asked id (map write_asked aw) ≡ map write_asked own = of_key-map id_of_asked write_asked id aw in
    let within : answers ≤ length own = omega (arith, prefix_length (answered id), length-marks (of_key id_of_asked id (map write_asked aw)), beats-of_id id aw) in
    let held_ones : length (of_key id_of_waiting id (held_asked (map write_asked aw) replies)) + answers ≡ length own =
    omega (arith, held-of_write_id id aw replies, ap (λ (xs : List Asked). length (pending_asked answers xs)) writes, held-and-answered answers own within) in
    let front : IsPrefix (marks (of_key id_of_asked id (map write_asked done))) (marks (of_key id_of_asked id (map write_asked aw))) =
    prefix_flat_map marks_of (prefix_of_key id_of_asked id (prefix_map write_asked (prefix_first (length (filter (λ (m : Mark). m.last) passed)) aw))) in
    prefix_total (answered id) front
    (omega (arith, fewer id, held_ones, complete-of_id id aw w in_order, length-marks (of_key id_of_asked id (map write_asked done)), beats-of_id id done))

no-waiting : (ws : List (Waiting Asked)) → ((id : ℕ) → length (of_key id_of_waiting id ws) ≡ 0) → ws ≡ []
no-waiting [] none = refl
no-waiting (w ∷ ws) none =
    let first : length (of_key id_of_waiting w.request.id (w ∷ ws)) ≡ suc (length (of_key id_of_waiting w.request.id ws)) = ap length (of_key-cons id_of_waiting w.request.id w ws refl) in
    absurd (omega (arith, first, none w.request.id))

pub none_lacks_data : NoneLacksData
none_lacks_data aw w replies in_order answered none = no-waiting (pending_asked (length w) (map burst_asked aw)) (λ id.
    let done = completed aw (map mark_of_data w) in
    let below : beats_due (of_key id_of_asked id (map write_asked aw)) ≤ length (map mark_of_reply (of_key id_of_reply id replies)) =
    none-pending len_of_asked (length (map mark_of_reply (of_key id_of_reply id replies))) (of_key id_of_asked id (map write_asked aw))
    (sym (own_pending (map write_asked aw) replies id) ∙ ap (of_key id_of_waiting id) none) in
    omega (
      arith,
      below,
      prefix_length (answered id),
      complete-of_id id aw w in_order,
      beats-of_id id aw,
      length-marks (of_key id_of_asked id (map write_asked done)),
      beats-of_id id done,
    ))

-- ---- read data

pub bytes_of_one_more : BytesOfOneMore
bytes_of_one_more rs [] r span at = absurd (cc)
bytes_of_one_more [] (first ∷ spans) r span at =
    let same : first ≡ span = same_Some first span at
    in append-nil (slice_range r.lanes first.low (first.high + 1)) ∙ ap (λ (s : Span). slice_range r.lanes s.low (s.high + 1)) same
bytes_of_one_more (q ∷ rs) (first ∷ spans) r span at =
    ap (λ (bs : List ℕ). slice_range q.lanes first.low (first.high + 1) ++ bs) (bytes_of_one_more rs spans r span at)
    ∙ sym (append_assoc (slice_range q.lanes first.low (first.high + 1)) (bytes_on rs spans) (slice_range r.lanes span.low (span.high + 1)))
