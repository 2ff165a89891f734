-- A write is answered after its data.
use Rattle.std.proofs.Common.{◌≡◌, ℕ, ◌≤◌, List, [], ◌∷◌, length, map, take, refl, sym, ◌∙◌, ap, inl, inr, arith, filter}
use Rattle.std.proofs.lemmas.Bool.{cases_lt}
use Rattle.std.proofs.lemmas.List.{length-map, take-map}
use Rattle.axi_beats.specs.declared.beat.Addr.{Addr}
use Rattle.axi_trail.specs.ContractLaws.{AnsweredHaveTheirData}
use Rattle.axi_trail.specs.Waiting.{complete}
use Rattle.axi_trail.specs.Words.{Mark, Asked, Reply, InOrderOfId, completed, marks, marks_of, beats_due, data_marks, write_asked, burst_asked, write_reply, write_replies, mark_of_data, number_of_mark, number_of_asked, number_of_reply, number_of_address, number_of_data, number_of_response, id_of_asked, id_of_reply, len_of_asked}
use Rattle.axi_trail.proofs.FilterFacts.{length-marks, ids_of_beats, length-ids_of_beats, count_of-ids_of_beats}
use Rattle.axi_trail.proofs.MarkFacts.{completed_are_complete}
use Rattle.axi_trail.proofs.OrderFacts.{at_most_asked, own_ids, own_beats}
use Rattle.axi_trail.proofs.WaitingFacts.{complete-beats}
use Rattle.plain_lists.specs.Keys.{of_key, count_of}
use Rattle.plain_lists.specs.Prefixes.{IsPrefix, Agree}
use Rattle.plain_lists.proofs.KeyLemmas.{of_key-of_key, of_key-map, length-by_counts}
use Rattle.plain_lists.proofs.PrefixLemmas.{agree_prefix, prefix_total, prefix_length, prefix_map, prefix_flat_map, prefix_of_key, prefix_first, prefix_trans}
use Rattle.plain_lists.proofs.PartLemmas.{length-take_le}

-- a transaction has no more answers than its requests ask for
pub own_answers_within : (asked : List Asked) (replies : List Reply) (t : ℕ) → InOrderOfId asked replies → length (of_key number_of_reply t replies) ≤ beats_due (of_key number_of_asked t asked)
own_answers_within asked replies t order =
    let fewer : (i : ℕ) → count_of i (map id_of_reply (of_key number_of_reply t replies)) ≤ count_of i (ids_of_beats (of_key number_of_asked t asked)) = λ i.
    omega (arith, own_ids i t replies, at_most_asked asked replies order t i, count_of-ids_of_beats i (of_key number_of_asked t asked), ap beats_due (of_key-of_key id_of_asked number_of_asked i t asked)) in
    omega (
      arith,
      length-by_counts (map id_of_reply (of_key number_of_reply t replies)) (ids_of_beats (of_key number_of_asked t asked)) fewer,
      length-map (of_key number_of_reply t replies) id_of_reply,
      length-ids_of_beats (of_key number_of_asked t asked),
    )

-- a write asks for one answer
pub beats_due-writes : (addresses : List Addr) → beats_due (map write_asked addresses) ≡ length addresses
beats_due-writes [] = refl
beats_due-writes (a ∷ addresses) = omega (arith, beats_due-writes addresses)

-- the data of completed addresses has passed
completed_marks : (addresses : List Addr) (passed : List Mark) → Agree passed (marks (map burst_asked addresses)) → IsPrefix (marks (map burst_asked (completed addresses passed))) passed
completed_marks addresses passed agree =
    let among : IsPrefix (marks (map burst_asked (completed addresses passed))) (marks (map burst_asked addresses)) =
    prefix_flat_map marks_of (prefix_map burst_asked (prefix_first (length (filter (λ (m : Mark). m.last) passed)) addresses)) in
    elim (cases_lt (length passed) (length (marks (map burst_asked addresses)))) [
      | inr ge ↦ prefix_trans among (agree_prefix (marks (map burst_asked addresses)) passed (record { same = λ place past in_marks in_passed. sym (agree.same place past in_passed in_marks) }) ge)
      | inl lt ↦
          let front : IsPrefix passed (marks (map burst_asked addresses)) = agree_prefix passed (marks (map burst_asked addresses)) agree (omega arith) in
          let whole : map burst_asked (completed addresses passed) ≡ complete len_of_asked (length passed) (map burst_asked addresses) =
          sym (take-map burst_asked (length (filter (λ (m : Mark). m.last) passed)) addresses) ∙ completed_are_complete (map burst_asked addresses) passed front in
          prefix_total among front (omega (arith, length-marks (map burst_asked (completed addresses passed)), ap beats_due whole, complete-beats len_of_asked (length passed) (map burst_asked addresses)))
    ]

-- the requests of a transaction, each shown as one answer or as its burst
own_writes : (t : ℕ) (addresses : List Addr) → of_key number_of_asked t (map write_asked addresses) ≡ map write_asked (of_key number_of_address t addresses)
own_writes t addresses = of_key-map number_of_asked write_asked t addresses

same_lengths : (t : ℕ) (addresses : List Addr) → length (of_key number_of_asked t (map write_asked addresses)) ≡ length (of_key number_of_asked t (map burst_asked addresses))
same_lengths t addresses =
    ap length (own_writes t addresses) ∙ length-map (of_key number_of_address t addresses) write_asked
    ∙ sym (ap length (of_key-map number_of_asked burst_asked t addresses) ∙ length-map (of_key number_of_address t addresses) burst_asked)

single_beats : (t : ℕ) (addresses : List Addr) → beats_due (of_key number_of_asked t (map write_asked addresses)) ≡ length (of_key number_of_asked t (map write_asked addresses))
single_beats t addresses =
    ap beats_due (own_writes t addresses) ∙ beats_due-writes (of_key number_of_address t addresses)
    ∙ sym (ap length (own_writes t addresses) ∙ length-map (of_key number_of_address t addresses) write_asked)

pub answered_have_their_data : AnsweredHaveTheirData
answered_have_their_data schedule now trail asks answers t =
    let front : IsPrefix (completed trail.aw (data_marks trail)) trail.aw = prefix_first (length (filter (λ (m : Mark). m.last) (data_marks trail))) trail.aw in
    let own_front : IsPrefix (of_key number_of_asked t (map burst_asked (completed trail.aw (data_marks trail)))) (of_key number_of_asked t (map burst_asked trail.aw)) =
    prefix_of_key number_of_asked t (prefix_map burst_asked front) in
    let as_writes : length (of_key number_of_asked t (map write_asked (completed trail.aw (data_marks trail)))) ≡ length (of_key number_of_asked t (map burst_asked (completed trail.aw (data_marks trail)))) =
    same_lengths t (completed trail.aw (data_marks trail)) in
    let singles : beats_due (of_key number_of_asked t (map write_asked (completed trail.aw (data_marks trail)))) ≡ length (of_key number_of_asked t (map write_asked (completed trail.aw (data_marks trail)))) =
    single_beats t (completed trail.aw (data_marks trail)) in
    let few : length (of_key number_of_reply t (write_replies trail)) ≤ length (of_key number_of_asked t (map burst_asked (completed trail.aw (data_marks trail)))) =
    omega (arith, own_answers_within (map write_asked (completed trail.aw (data_marks trail))) (write_replies trail) t answers.answered_after_its_data) in
    let replied : length (of_key number_of_reply t (write_replies trail)) ≡ length (of_key number_of_response t trail.b) =
    ap length (of_key-map number_of_reply write_reply t trail.b) ∙ length-map (of_key number_of_response t trail.b) write_reply in
    let answered : IsPrefix (take (length (of_key number_of_response t trail.b)) (of_key number_of_asked t (map burst_asked trail.aw))) (of_key number_of_asked t (map burst_asked (completed trail.aw (data_marks trail)))) =
    prefix_total (prefix_first (length (of_key number_of_response t trail.b)) (of_key number_of_asked t (map burst_asked trail.aw))) own_front
    (omega (arith, length-take_le (length (of_key number_of_response t trail.b)) (of_key number_of_asked t (map burst_asked trail.aw)))) in
    let passed : IsPrefix (of_key number_of_mark t (marks (map burst_asked (completed trail.aw (data_marks trail))))) (of_key number_of_mark t (data_marks trail)) =
    prefix_of_key number_of_mark t (completed_marks trail.aw (data_marks trail) asks.data_follows_addresses) in
    let counted : length (of_key number_of_mark t (data_marks trail)) ≡ length (of_key number_of_data t trail.w) =
    ap length (of_key-map number_of_mark mark_of_data t trail.w) ∙ length-map (of_key number_of_data t trail.w) mark_of_data in
    omega (
      arith,
      prefix_length (prefix_flat_map marks_of answered),
      length-marks (take (length (of_key number_of_response t trail.b)) (of_key number_of_asked t (map burst_asked trail.aw))),
      length-marks (of_key number_of_asked t (map burst_asked (completed trail.aw (data_marks trail)))),
      prefix_length passed,
      own_beats t (map burst_asked (completed trail.aw (data_marks trail))),
    )
