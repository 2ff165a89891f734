-- An answer is offered only after its request, so rules 11 and 12 are kept.
use Rattle.std.proofs.Common.{◌≡◌, ℕ, zero, suc, ◌+◌, ◌-◌, ◌<◌, ◌≤◌, ◌==◌, cond, List, [], ◌∷◌, ◌++◌, length, map, take, get_or, refl, sym, ap, ◌∙◌, inl, inr, arith, append_assoc, eq-eqb, length-append, lt-ltb}
use Rattle.std.specs.Prelude.{filter, count_by, sum}
use Rattle.std.proofs.lemmas.Bool.{ne_eqb, le-ltb, cases_lt, cases_eq}
use Rattle.std.proofs.lemmas.List.{length-map, get_or_at, get_or-append_right, map-append, take-map}
use Rattle.std.proofs.lemmas.List.Sums.{length-filter, sum_by-cons}
use Rattle.axi_beats.specs.declared.beat.Addr.{Addr}
use Rattle.axi_beats.specs.declared.beat.WBeat.{WBeat}
use Rattle.axi_beats.specs.declared.beat.BBeat.{BBeat}
use Rattle.axi_beats.specs.declared.beat.RBeat.{RBeat}
use Rattle.axi_history.specs.PortHistory.{beats_asked, ends_a_request}
use Rattle.axi_history.specs.PortRules.{writes_of, responses_of, read_beats_of, reads_of}
use Rattle.axi_trail.specs.Words.{Mark, InOrderOfId, burst_marks, marks, completed, write_asked, burst_asked, write_reply, read_reply, mark_of_data, mark_of_reply, id_of_address, id_of_asked, id_of_reply, beats_due}
use Rattle.axi_trail.proofs.DataFacts.{beats_due-writes}
use Rattle.axi_trail.proofs.FilterFacts.{length-burst_marks, length-marks}
use Rattle.link_ports.specs.PortView.{seen_address, seen_itself, seen_response, seen_read_beat}
use Rattle.plain_lists.proofs.KeyLemmas.{of_key-map, filter_map, of_key-between}
use Rattle.plain_lists.proofs.PrefixLemmas.{prefix_length}
use Rattle.plain_lists.specs.Keys.{of_key}

-- ---- which beat of its burst has `last`

-- beat k of a burst
burst_mark_at : (number len k : ℕ) (more : List Mark) (past : Mark) → k ≤ len → (get_or (burst_marks number len ++ more) k past).last ≡ (k == len)
burst_mark_at number zero zero more past le = refl
burst_mark_at number zero (suc k) more past le = absurd (omega arith)
burst_mark_at number (suc len) zero more past le = sym (ne_eqb 0 (suc len) (λ e. omega arith))
burst_mark_at number (suc len) (suc k) more past le = burst_mark_at number len k more past (omega arith) ∙ elim (cases_eq k len) [
  | inl e ↦ eq-eqb k len e ∙ sym (eq-eqb (suc k) (suc len) (ap suc e))
  | inr ne ↦ ne_eqb k len ne ∙ sym (ne_eqb (suc k) (suc len) (λ e. ne (omega arith)))
]

-- beat k of all that are asked for
mark_at : (addresses : List Addr) (k : ℕ) (past : Mark) → k < length (marks (map burst_asked addresses)) →
    (get_or (marks (map burst_asked addresses)) k past).last ≡ ends_a_request (map (λ (a : Addr). a.len + 1) addresses) k
mark_at [] k past within = absurd (omega arith)
mark_at (a ∷ addresses) k past within = elim (cases_lt k (a.len + 1)) [
  | inl lt ↦
      burst_mark_at a.tag.txn a.len k (marks (map burst_asked addresses)) past (omega arith)
      ∙ elim (cases_eq k a.len) [
        | inl e ↦ eq-eqb k a.len e ∙ sym (eq-eqb (k + 1) (a.len + 1) (ap (λ n. n + 1) e))
        | inr ne ↦ ne_eqb k a.len ne ∙ sym (ne_eqb (k + 1) (a.len + 1) (λ e. ne (omega arith)))
      ]
      ∙ sym (ap (λ b. cond b (k + 1 == a.len + 1) (ends_a_request (map (λ (a : Addr). a.len + 1) addresses) (k - (a.len + 1)))) (lt-ltb k (a.len + 1) lt))
  | inr ge ↦
      let size : length (burst_marks a.tag.txn a.len) ≡ a.len + 1 = length-burst_marks a.tag.txn a.len ∙ omega arith in
      ap (λ (m : Mark). m.last) (get_or-append_right (burst_marks a.tag.txn a.len) (marks (map burst_asked addresses)) (a.len + 1) k past size ge)
      ∙ mark_at addresses (k - (a.len + 1)) past (omega (arith, length-append (burst_marks a.tag.txn a.len) (marks (map burst_asked addresses))))
      ∙ sym (ap (λ b. cond b (k + 1 == a.len + 1) (ends_a_request (map (λ (a : Addr). a.len + 1) addresses) (k - (a.len + 1)))) (le-ltb k (a.len + 1) ge))
]

-- how many are asked for
sum_of_beats : (addresses : List Addr) → sum (map (λ (a : Addr). a.len + 1) addresses) ≡ length (marks (map burst_asked addresses))
sum_of_beats [] = refl
sum_of_beats (a ∷ addresses) =
    sum_by-cons (λ n. n) (a.len + 1) (map (λ (a : Addr). a.len + 1) addresses)
    ∙ omega (arith, sum_of_beats addresses, length-append (burst_marks a.tag.txn a.len) (marks (map burst_asked addresses)), length-burst_marks a.tag.txn a.len)

-- ---- read data

-- what a port shows of the reads of an ID, and of their data
asked_twice : (addresses : List Addr) → map beats_asked (map seen_address addresses) ≡ map (λ (a : Addr). a.len + 1) addresses
asked_twice [] = refl
asked_twice (a ∷ addresses) = ap (λ t. (a.len + 1) ∷ t) (asked_twice addresses)

seen_reads : (id : ℕ) (addresses : List Addr) → reads_of id (map seen_address addresses) ≡ map (λ (a : Addr). a.len + 1) (of_key id_of_address id addresses)
seen_reads id addresses = ap (map beats_asked) (of_key-map (λ a. a.id) seen_address id addresses) ∙ asked_twice (of_key id_of_address id addresses)

seen_beats : (id : ℕ) (beats : List RBeat) → length (read_beats_of id (map seen_read_beat beats)) ≡ length (of_key (λ r. r.id) id beats)
seen_beats id beats = ap length (of_key-map (λ r. r.id) seen_read_beat id beats) ∙ length-map (of_key (λ r. r.id) id beats) seen_read_beat

-- beat m stands among all that are asked for
step_of_marks : (own : List Addr) (front : List Mark) (m : Mark) (rest : List Mark) → marks (map burst_asked own) ≡ front ++ m ∷ rest →
    (length front < sum (map (λ (a : Addr). a.len + 1) own)) × (m.last ≡ ends_a_request (map (λ (a : Addr). a.len + 1) own) (length front))
step_of_marks own front m rest whole =
    let within : length front < length (marks (map burst_asked own)) = omega (arith, ap length whole, length-append front (m ∷ rest)) in
    let here : get_or (marks (map burst_asked own)) (length front) m ≡ m = ap (λ t. get_or t (length front) m) whole ∙ get_or_at front m rest m (length front) refl in (
      omega (arith, sum_of_beats own),
      sym (ap (λ (x : Mark). x.last) here) ∙ mark_at own (length front) m within,
    )

-- the marks of beats of read data
marks_read : List RBeat → List Mark
marks_read beats = map mark_of_reply (map read_reply beats)

marks_read-between : (xs : List RBeat) (y : RBeat) (ys : List RBeat) → marks_read (xs ++ y ∷ ys) ≡ marks_read xs ++ mark_of_reply (read_reply y) ∷ marks_read ys
unfolding marks_read
marks_read-between xs y ys = ap (map mark_of_reply) (map-append read_reply xs (y ∷ ys)) ∙ map-append mark_of_reply (map read_reply xs) (map read_reply (y ∷ ys))

length-marks_read : (beats : List RBeat) → length (marks_read beats) ≡ length beats
unfolding marks_read
length-marks_read beats = length-map (map read_reply beats) mark_of_reply ∙ length-map beats read_reply

marks_read-of_key : (id : ℕ) (beats : List RBeat) → map mark_of_reply (of_key id_of_reply id (map read_reply beats)) ≡ marks_read (of_key (λ r. r.id) id beats)
unfolding marks_read
marks_read-of_key id beats = ap (map mark_of_reply) (of_key-map id_of_reply read_reply id beats)

module _ (addresses : List Addr) (taken : List RBeat) (r : RBeat) (later : List RBeat) (order : InOrderOfId (map burst_asked addresses) (map read_reply (taken ++ r ∷ later))) where
  -- the data of an ID that has come, then this beat, and then what is still asked for
  read_stands : marks (map burst_asked (of_key id_of_address r.id addresses)) ≡ marks_read (of_key (λ r. r.id) r.id taken) ++ mark_of_reply (read_reply r) ∷ (marks_read (of_key (λ r. r.id) r.id later) ++ (order r.id).rest)
  read_stands =
      ap marks (sym (of_key-map id_of_asked burst_asked r.id addresses))
      ∙ (order r.id).whole
      ∙ ap (λ t. t ++ (order r.id).rest) (marks_read-of_key r.id (taken ++ r ∷ later) ∙ ap marks_read (of_key-between (λ r. r.id) taken r later) ∙ marks_read-between (of_key (λ r. r.id) r.id taken) r (of_key (λ r. r.id) r.id later))
      ∙ append_assoc (marks_read (of_key (λ r. r.id) r.id taken)) (mark_of_reply (read_reply r) ∷ marks_read (of_key (λ r. r.id) r.id later)) (order r.id).rest

  read_step : (length (marks_read (of_key (λ r. r.id) r.id taken)) < sum (map (λ (a : Addr). a.len + 1) (of_key id_of_address r.id addresses)))
      × (r.last ≡ ends_a_request (map (λ (a : Addr). a.len + 1) (of_key id_of_address r.id addresses)) (length (marks_read (of_key (λ r. r.id) r.id taken))))
  read_step = step_of_marks (of_key id_of_address r.id addresses) (marks_read (of_key (λ r. r.id) r.id taken)) (mark_of_reply (read_reply r)) (marks_read (of_key (λ r. r.id) r.id later) ++ (order r.id).rest) read_stands

  counted : length (read_beats_of r.id (map seen_read_beat taken)) ≡ length (marks_read (of_key (λ r. r.id) r.id taken))
  counted = seen_beats r.id taken ∙ sym (length-marks_read (of_key (λ r. r.id) r.id taken))

  -- rule 11
  pub read_follows : length (read_beats_of r.id (map seen_read_beat taken)) < sum (reads_of r.id (map seen_address addresses))
  read_follows = omega (arith, counted, read_step.0, ap sum (seen_reads r.id addresses))

  -- rule 12
  pub read_ends : r.last ≡ ends_a_request (reads_of r.id (map seen_address addresses)) (length (read_beats_of r.id (map seen_read_beat taken)))
  read_ends =
      read_step.1
      ∙ ap (ends_a_request (map (λ (a : Addr). a.len + 1) (of_key id_of_address r.id addresses))) (sym counted)
      ∙ ap (λ reads. ends_a_request reads (length (read_beats_of r.id (map seen_read_beat taken)))) (sym (seen_reads r.id addresses))

-- ---- write responses

-- a beat of write data is seen as it is
pub itself : (beats : List WBeat) → map seen_itself beats ≡ beats
itself [] = refl
itself (w ∷ beats) = ap (λ t. w ∷ t) (itself beats)

-- the writes that a port shows as whole are the completed ones
whole_count : (beats : List WBeat) → count_by (λ (w : WBeat). w.last) (map seen_itself beats) ≡ length (filter (λ (m : Mark). m.last) (map mark_of_data beats))
whole_count beats =
    ap (count_by (λ (w : WBeat). w.last)) (itself beats)
    ∙ sym (length-filter (λ (w : WBeat). w.last) beats)
    ∙ sym (ap length (filter_map (λ (m : Mark). m.last) mark_of_data beats) ∙ length-map (filter (λ (w : WBeat). w.last) beats) mark_of_data)

seen_whole : (id : ℕ) (addresses : List Addr) (beats : List WBeat) →
    length (writes_of id (take (count_by (λ (w : WBeat). w.last) (map seen_itself beats)) (map seen_address addresses))) ≡ length (of_key id_of_address id (completed addresses (map mark_of_data beats)))
seen_whole id addresses beats =
    ap (λ n. length (writes_of id (take n (map seen_address addresses)))) (whole_count beats)
    ∙ ap (λ t. length (writes_of id t)) (take-map seen_address (length (filter (λ (m : Mark). m.last) (map mark_of_data beats))) addresses)
    ∙ ap length (of_key-map (λ a. a.id) seen_address id (completed addresses (map mark_of_data beats)))
    ∙ length-map (of_key id_of_address id (completed addresses (map mark_of_data beats))) seen_address

seen_responses : (id : ℕ) (responses : List BBeat) → length (responses_of id (map seen_response responses)) ≡ length (of_key (λ b. b.id) id responses)
seen_responses id responses = ap length (of_key-map (λ b. b.id) seen_response id responses) ∙ length-map (of_key (λ b. b.id) id responses) seen_response

module _ (addresses : List Addr) (beats : List WBeat) (taken : List BBeat) (b : BBeat) (later : List BBeat)
    (order : InOrderOfId (map write_asked (completed addresses (map mark_of_data beats))) (map write_reply (taken ++ b ∷ later))) where
  -- responses of an ID are no more than its completed writes
  at_most_completed : length (of_key (λ b. b.id) b.id (taken ++ b ∷ later)) ≤ length (of_key id_of_address b.id (completed addresses (map mark_of_data beats)))
  at_most_completed =
      omega (
        arith,
        prefix_length (order b.id),
        length-map (of_key id_of_reply b.id (map write_reply (taken ++ b ∷ later))) mark_of_reply,
        ap length (of_key-map id_of_reply write_reply b.id (taken ++ b ∷ later)),
        length-map (of_key (λ b. b.id) b.id (taken ++ b ∷ later)) write_reply,
        length-marks (of_key id_of_asked b.id (map write_asked (completed addresses (map mark_of_data beats)))),
        ap beats_due (of_key-map id_of_asked write_asked b.id (completed addresses (map mark_of_data beats))),
        beats_due-writes (of_key id_of_address b.id (completed addresses (map mark_of_data beats))),
      )

  -- rule 11
  pub response_follows : length (responses_of b.id (map seen_response taken)) < length (writes_of b.id (take (count_by (λ (w : WBeat). w.last) (map seen_itself beats)) (map seen_address addresses)))
  response_follows =
      omega (
        arith,
        at_most_completed,
        ap length (of_key-between (λ b. b.id) taken b later),
        length-append (of_key (λ b. b.id) b.id taken) (b ∷ of_key (λ b. b.id) b.id later),
        seen_responses b.id taken,
        seen_whole b.id addresses beats,
      )
