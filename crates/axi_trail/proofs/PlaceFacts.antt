-- The oldest held request of an ID, among the requests of its transaction.
use Rattle.std.proofs.Common.{◌≡◌, ◌≢◌, ℕ, ◌+◌, ◌-◌, ◌≤◌, ◌==◌, suc, List, [], ◌∷◌, ◌++◌, length, map, take, replicate, refl, sym, ◌∙◌, ap, subst, inl, inr, arith, append-nil, length-append, eq-eqb}
use Rattle.std.proofs.lemmas.Bool.{cases_eq}
use Rattle.std.proofs.lemmas.List.{length-map, length-replicate, take_at}
use Rattle.std.proofs.lemmas.List.Concat.{flat_map-append}
use Rattle.axi_trail.specs.ContractLaws.{OldestHeldIsNextOfItsOwn}
use Rattle.axi_trail.specs.LinkContracts.{OneIdAtATime}
use Rattle.axi_trail.specs.Schedule.{Share}
use Rattle.axi_trail.specs.Words.{Mark, Asked, Reply, IsAnswered, InOrderOfId, held_asked, beats_due, marks, marks_of, mark_of_reply, number_of_mark, number_of_asked, number_of_reply, id_of_asked, id_of_reply, len_of_asked}
use Rattle.axi_trail.proofs.FilterFacts.{length-marks, beats_due-append, ids_of_beats, length-ids_of_beats, count_of-ids_of_beats}
use Rattle.axi_trail.proofs.MarkFacts.{length_own, take_past}
use Rattle.axi_trail.proofs.OrderFacts.{own_marks, own_ids, own_beats, at_most_asked, earlier, later}
use Rattle.axi_trail.proofs.StepFacts.{own_pending, first_has_id}
use Rattle.axi_trail.proofs.WaitingFacts.{pending-place}
use Rattle.plain_lists.specs.Keys.{of_key, count_of}
use Rattle.plain_lists.specs.Prefixes.{IsPrefix}
use Rattle.plain_lists.proofs.KeyLemmas.{of_key-of_key, of_key-append, of_key-cons, of_key-skip, of_key-push, length-by_counts, count_of-append, count_of-replicate, count_of-replicate_other, place_in}

-- how many beats of a transaction are among the first marks: all of its requests before one, and so many of it
pub own_up_to : (t done : ℕ) (front : List Asked) (a : Asked) (rest : List Asked) (ms : List Mark) → IsPrefix ms (marks (front ++ a ∷ rest)) → length ms ≡ beats_due front + done → done ≤ a.len → a.number ≡ t →
    length (of_key number_of_mark t ms) ≡ beats_due (of_key number_of_asked t front) + done
own_up_to t done front a rest ms p counted le e =
    let whole : ms ≡ marks front ++ take done (marks_of a ++ marks rest) =
    sym (take_at ms p.rest (length ms) refl)
    ∙ ap (take (length ms)) (sym p.whole ∙ flat_map-append marks_of front (a ∷ rest))
    ∙ take_past (length ms) (marks front) (marks_of a ++ marks rest) (omega (arith, length-marks front))
    ∙ ap (λ n. marks front ++ take n (marks_of a ++ marks rest)) (left_over (length-marks front)) in
    ap (λ t'. length (of_key number_of_mark t t')) whole
    ∙ ap length (of_key-append number_of_mark t (marks front) (take done (marks_of a ++ marks rest)))
    ∙ length-append (of_key number_of_mark t (marks front)) (of_key number_of_mark t (take done (marks_of a ++ marks rest)))
    ∙ sums (own_beats t front) (length_own (λ n. n == t) a.number done a.len (marks rest) (eq-eqb a.number t e) le)
  where
    left_over : length (marks front) ≡ beats_due front → length ms - length (marks front) ≡ done
    left_over m = omega arith

    sums : {a b c d : ℕ} → a ≡ b → c ≡ d → a + c ≡ b + d
    sums e f = omega arith

module _ (shares : ℕ → Share) (asked : List Asked) (replies : List Reply) (one : OneIdAtATime shares asked replies) (order : InOrderOfId asked replies)
    (before : List Asked) (a : Asked) (after : List Asked) (place : asked ≡ before ++ a ∷ after) (done : ℕ) (le : done ≤ a.len)
    (counted : beats_due (of_key id_of_asked a.id before) + done ≡ length (of_key id_of_reply a.id replies)) where
  split : of_key id_of_asked a.id asked ≡ of_key id_of_asked a.id before ++ a ∷ of_key id_of_asked a.id after
  split = ap (of_key id_of_asked a.id) place ∙ of_key-append id_of_asked a.id before (a ∷ after) ∙ ap (λ xs. of_key id_of_asked a.id before ++ xs) (of_key-cons id_of_asked a.id a after refl)

  held_here : ¬ IsAnswered before a replies
  held_here answered =
      let whole : beats_due (of_key id_of_asked a.id (before ++ a ∷ [])) ≡ beats_due (of_key id_of_asked a.id before) + suc a.len =
      ap beats_due (of_key-push id_of_asked a.id before a refl) ∙ beats_due-append (of_key id_of_asked a.id before) (a ∷ []) ∙ omega arith in
      omega arith

  of_this_id : length (of_key id_of_reply a.id (of_key number_of_reply a.number replies)) ≡ beats_due (of_key id_of_asked a.id (of_key number_of_asked a.number before)) + done
  of_this_id =
      let front : IsPrefix (map mark_of_reply (of_key id_of_reply a.id replies)) (marks (of_key id_of_asked a.id before ++ a ∷ of_key id_of_asked a.id after)) =
      record { rest = (order a.id).rest; whole = ap marks (sym split) ∙ (order a.id).whole } in
      own_marks a.id a.number replies
      ∙ own_up_to a.number done (of_key id_of_asked a.id before) a (of_key id_of_asked a.id after) (map mark_of_reply (of_key id_of_reply a.id replies)) front
      (length-map (of_key id_of_reply a.id replies) mark_of_reply ∙ sym counted) le refl
      ∙ ap (λ xs. beats_due xs + done) (sym (of_key-of_key id_of_asked number_of_asked a.id a.number before))

  of_other_id : (i : ℕ) → i ≢ a.id → length (of_key id_of_reply i (of_key number_of_reply a.number replies)) ≡ beats_due (of_key id_of_asked i (of_key number_of_asked a.number before))
  of_other_id i other =
      let none : of_key id_of_asked i (of_key number_of_asked a.number (a ∷ after)) ≡ [] =
      ap (of_key id_of_asked i) (of_key-cons number_of_asked a.number a after refl) ∙ of_key-skip id_of_asked i a (of_key number_of_asked a.number after) (λ h. other (sym h))
      ∙ later shares asked replies one order before a after place held_here i other [] after refl in
      let whole : beats_due (of_key number_of_asked a.number (of_key id_of_asked i asked)) ≡ beats_due (of_key id_of_asked i (of_key number_of_asked a.number before)) =
      ap beats_due (sym (of_key-of_key id_of_asked number_of_asked i a.number asked)
      ∙ ap (λ xs. of_key id_of_asked i (of_key number_of_asked a.number xs)) place
      ∙ ap (of_key id_of_asked i) (of_key-append number_of_asked a.number before (a ∷ after))
      ∙ of_key-append id_of_asked i (of_key number_of_asked a.number before) (of_key number_of_asked a.number (a ∷ after))
      ∙ ap (λ xs. of_key id_of_asked i (of_key number_of_asked a.number before) ++ xs) none
      ∙ append-nil (of_key id_of_asked i (of_key number_of_asked a.number before))) in
      omega (arith, at_most_asked asked replies order a.number i, earlier shares asked replies one order before a after place i other [] before refl (omega arith))

  same_counts : (i : ℕ) → count_of i (map id_of_reply (of_key number_of_reply a.number replies)) ≡ count_of i (ids_of_beats (of_key number_of_asked a.number before) ++ replicate done a.id)
  same_counts i = own_ids i a.number replies ∙ elim (cases_eq i a.id) [
    | inl same ↦ subst (λ (k : ℕ). length (of_key id_of_reply k (of_key number_of_reply a.number replies)) ≡ count_of k (ids_of_beats (of_key number_of_asked a.number before) ++ replicate done a.id)) (sym same)
        (omega (arith, of_this_id, count_of-append a.id (ids_of_beats (of_key number_of_asked a.number before)) (replicate done a.id), count_of-replicate a.id done, count_of-ids_of_beats a.id (of_key number_of_asked a.number before)))
    | inr other ↦ omega (
      arith,
      of_other_id i other,
      count_of-append i (ids_of_beats (of_key number_of_asked a.number before)) (replicate done a.id),
      count_of-replicate_other i a.id done (λ h. other (sym h)),
      count_of-ids_of_beats i (of_key number_of_asked a.number before),
    )
  ]

  own_answers : length (of_key number_of_reply a.number replies) ≡ beats_due (of_key number_of_asked a.number before) + done
  own_answers =
      omega (
        arith,
        length-by_counts (map id_of_reply (of_key number_of_reply a.number replies)) (ids_of_beats (of_key number_of_asked a.number before) ++ replicate done a.id) (λ i. omega (arith, same_counts i)),
        length-by_counts (ids_of_beats (of_key number_of_asked a.number before) ++ replicate done a.id) (map id_of_reply (of_key number_of_reply a.number replies)) (λ i. omega (arith, same_counts i)),
        length-map (of_key number_of_reply a.number replies) id_of_reply,
        length-append (ids_of_beats (of_key number_of_asked a.number before)) (replicate done a.id),
        length-ids_of_beats (of_key number_of_asked a.number before),
        length-replicate done a.id,
      )

pub oldest_held_is_next_of_its_own : OldestHeldIsNextOfItsOwn
oldest_held_is_next_of_its_own shares asked replies one order id w others e =
    let first : (front : List Asked) × (back : List Asked) × (of_key id_of_asked id asked ≡ front ++ w.request ∷ back) × (beats_due front + w.done ≡ length (map mark_of_reply (of_key id_of_reply id replies))) × (w.done ≤ w.request.len) =
    pending-place len_of_asked (length (map mark_of_reply (of_key id_of_reply id replies))) (of_key id_of_asked id asked) w others (sym (own_pending asked replies id) ∙ e) in
    let found : (left : List Asked) × (right : List Asked) × (asked ≡ left ++ w.request ∷ right) × (of_key id_of_asked id left ≡ first.0) = place_in id_of_asked id asked first.0 w.request first.1 first.2 in
    let mine : w.request.id ≡ id = first_has_id (held_asked asked replies) id w others e in
    let counted : beats_due (of_key id_of_asked w.request.id found.0) + w.done ≡ length (of_key id_of_reply w.request.id replies) =
    subst (λ (i : ℕ). beats_due (of_key id_of_asked i found.0) + w.done ≡ length (of_key id_of_reply i replies)) (sym mine)
    (ap (λ xs. beats_due xs + w.done) found.3 ∙ first.3 ∙ length-map (of_key id_of_reply id replies) mark_of_reply) in
    (found.0, found.1, found.2, own_answers shares asked replies one order found.0 w.request found.1 found.2 w.done first.4 counted)
