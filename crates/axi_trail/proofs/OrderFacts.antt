-- The requests of a transaction are answered in their order.
use Rattle.std.proofs.Common.{◌≡◌, ◌≢◌, ℕ, ◌+◌, ◌<◌, ◌≤◌, ◌==◌, suc, List, [], ◌∷◌, ◌++◌, length, map, replicate, refl, sym, ◌∙◌, ap, subst, inl, inr, arith, append_assoc, append-nil, length-append}
use Rattle.std.proofs.lemmas.Bool.{cases_eq, cases_lt}
use Rattle.std.proofs.lemmas.List.{length-map, length-replicate}
use Rattle.std.proofs.lemmas.List.Concat.{flat_map-append}
use Rattle.axi_trail.specs.ContractLaws.{OwnRequestsInOrder, HeldHaveOneId}
use Rattle.axi_trail.specs.LinkContracts.{OneIdAtATime}
use Rattle.axi_trail.specs.Schedule.{Share}
use Rattle.axi_trail.specs.Words.{Asked, Reply, IsAnswered, InOrderOfId, beats_due, marks, marks_of, mark_of_reply, number_of_mark, number_of_asked, number_of_reply, id_of_asked, id_of_reply}
use Rattle.axi_trail.proofs.FilterFacts.{marks-of_number, length-marks, beats_due-append, ids_of_beats, length-ids_of_beats, count_of-ids_of_beats}
use Rattle.plain_lists.specs.Keys.{of_key, count_of}
use Rattle.plain_lists.specs.Prefixes.{IsPrefix}
use Rattle.plain_lists.proofs.KeyLemmas.{of_key-of_key, of_key-append, of_key-cons, of_key-skip, of_key-push, of_key-push_other, of_key-map, length-by_counts, count_of-append, count_of-replicate}
use Rattle.plain_lists.proofs.PrefixLemmas.{prefix_length, prefix_of_key, count_front, prefix_total}

-- the answers to a transaction under one ID, counted by their marks
pub own_marks : (i t : ℕ) (replies : List Reply) →
    length (of_key id_of_reply i (of_key number_of_reply t replies)) ≡ length (of_key number_of_mark t (map mark_of_reply (of_key id_of_reply i replies)))
own_marks i t replies =
    ap length (of_key-of_key id_of_reply number_of_reply i t replies)
    ∙ sym (ap length (of_key-map number_of_mark mark_of_reply t (of_key id_of_reply i replies)) ∙ length-map (of_key number_of_reply t (of_key id_of_reply i replies)) mark_of_reply)

pub own_ids : (i t : ℕ) (replies : List Reply) → count_of i (map id_of_reply (of_key number_of_reply t replies)) ≡ length (of_key id_of_reply i (of_key number_of_reply t replies))
own_ids i t replies = ap length (of_key-map (λ k. k) id_of_reply i (of_key number_of_reply t replies)) ∙ length-map (of_key id_of_reply i (of_key number_of_reply t replies)) id_of_reply

pub own_beats : (t : ℕ) (asked : List Asked) → length (of_key number_of_mark t (marks asked)) ≡ beats_due (of_key number_of_asked t asked)
own_beats t asked = ap length (marks-of_number t asked) ∙ length-marks (of_key number_of_asked t asked)

-- what the answers under one ID say of the answers to one transaction under this ID
module _ (asked : List Asked) (replies : List Reply) (order : InOrderOfId asked replies) (t i : ℕ) where
  pub at_most_asked : length (of_key id_of_reply i (of_key number_of_reply t replies)) ≤ beats_due (of_key number_of_asked t (of_key id_of_asked i asked))
  at_most_asked = omega (arith, own_marks i t replies, prefix_length (prefix_of_key number_of_mark t (order i)), own_beats t (of_key id_of_asked i asked))

  pub at_least_answered : (front rest : List Asked) → of_key id_of_asked i asked ≡ front ++ rest → beats_due front ≤ length (of_key id_of_reply i replies) →
      beats_due (of_key number_of_asked t front) ≤ length (of_key id_of_reply i (of_key number_of_reply t replies))
  at_least_answered front rest e answered =
      let all : IsPrefix (marks front) (marks (of_key id_of_asked i asked)) = record { rest = marks rest; whole = ap marks e ∙ flat_map-append marks_of front rest } in
      let some : IsPrefix (marks front) (map mark_of_reply (of_key id_of_reply i replies)) =
      prefix_total all (order i) (omega (arith, length-marks front, length-map (of_key id_of_reply i replies) mark_of_reply)) in
      omega (arith, own_marks i t replies, prefix_length (prefix_of_key number_of_mark t some), own_beats t front)

  at_most_partly : (front rest : List Asked) (a : Asked) → of_key id_of_asked i asked ≡ front ++ a ∷ rest → length (of_key id_of_reply i replies) < beats_due (front ++ a ∷ []) →
      length (of_key id_of_reply i (of_key number_of_reply t replies)) ≤ beats_due (of_key number_of_asked t front) + a.len
  at_most_partly front rest a e open' =
      let whole : marks (of_key id_of_asked i asked) ≡ marks front ++ marks (a ∷ rest) = ap marks e ∙ flat_map-append marks_of front (a ∷ rest) in
      let few : length (map mark_of_reply (of_key id_of_reply i replies)) ≤ length (marks front) + a.len =
      omega (arith, length-marks front, length-map (of_key id_of_reply i replies) mark_of_reply, beats_due-append front (a ∷ [])) in
      let counted : length (of_key number_of_mark t (map mark_of_reply (of_key id_of_reply i replies))) ≤ length (of_key number_of_mark t (marks front)) + a.len =
      count_front (λ m. number_of_mark m == t) a.len (map mark_of_reply (of_key id_of_reply i replies)) (marks front) (order i).rest (marks (a ∷ rest)) (sym (order i).whole ∙ whole) few in
      omega (arith, own_marks i t replies, own_beats t front)

regroup : (xs : List Asked) (x : Asked) (ys zs : List Asked) → (xs ++ x ∷ ys) ++ zs ≡ (xs ++ x ∷ []) ++ (ys ++ zs)
regroup xs x ys zs = simp append_assoc

module _ (shares : ℕ → Share) (asked : List Asked) (replies : List Reply) (one : OneIdAtATime shares asked replies) (order : InOrderOfId asked replies)
    (before : List Asked) (a : Asked) (after : List Asked) (place : asked ≡ before ++ a ∷ after) where
  own_up_to : beats_due (of_key number_of_asked a.number (before ++ a ∷ [])) ≡ beats_due (of_key number_of_asked a.number before) + suc a.len
  own_up_to = ap beats_due (of_key-push number_of_asked a.number before a refl) ∙ beats_due-append (of_key number_of_asked a.number before) (a ∷ []) ∙ omega arith

  -- requests of the transaction that stand before an answered one under another ID are answered
  earlier-step : (i : ℕ) → i ≢ a.id → (front : List Asked) (z : Asked) (back : List Asked) → before ≡ front ++ z ∷ back →
      beats_due (of_key id_of_asked i (of_key number_of_asked a.number front)) ≤ length (of_key id_of_reply i (of_key number_of_reply a.number replies)) →
      beats_due (of_key id_of_asked i (of_key number_of_asked a.number (front ++ z ∷ []))) ≤ length (of_key id_of_reply i (of_key number_of_reply a.number replies))
  earlier-step i other front z back e so_far =
      elim (cases_eq z.number a.number) [
        | inr ne ↦ subst (λ (xs : List Asked). beats_due (of_key id_of_asked i xs) ≤ length (of_key id_of_reply i (of_key number_of_reply a.number replies)))
            (sym (of_key-push_other number_of_asked a.number front z ne)) so_far
        | inl own ↦ elim (cases_eq z.id i) [
          | inr ne ↦ subst (λ (xs : List Asked). beats_due xs ≤ length (of_key id_of_reply i (of_key number_of_reply a.number replies)))
              (sym (ap (of_key id_of_asked i) (of_key-push number_of_asked a.number front z own) ∙ of_key-push_other id_of_asked i (of_key number_of_asked a.number front) z ne)) so_far
          | inl same ↦
              let where_z : asked ≡ (front ++ z ∷ back) ++ a ∷ after = place ∙ ap (λ xs. xs ++ a ∷ after) e in
              let answered : beats_due (of_key id_of_asked z.id (front ++ z ∷ [])) ≤ length (of_key id_of_reply z.id replies) =
              one front z back a after where_z (ap (λ n. (shares n).chain) own) (λ h. other (sym same ∙ h)) in
              let here : beats_due (of_key id_of_asked i (front ++ z ∷ [])) ≤ length (of_key id_of_reply i replies) =
              subst (λ (k : ℕ). beats_due (of_key id_of_asked k (front ++ z ∷ [])) ≤ length (of_key id_of_reply k replies)) same answered in
              let split : of_key id_of_asked i asked ≡ of_key id_of_asked i (front ++ z ∷ []) ++ of_key id_of_asked i (back ++ a ∷ after) =
              ap (of_key id_of_asked i) (where_z ∙ regroup front z back (a ∷ after)) ∙ of_key-append id_of_asked i (front ++ z ∷ []) (back ++ a ∷ after) in
              subst (λ (xs : List Asked). beats_due xs ≤ length (of_key id_of_reply i (of_key number_of_reply a.number replies)))
              (sym (of_key-of_key id_of_asked number_of_asked i a.number (front ++ z ∷ [])))
              (at_least_answered asked replies order a.number i (of_key id_of_asked i (front ++ z ∷ [])) (of_key id_of_asked i (back ++ a ∷ after)) split here)
        ]
      ]

  pub earlier : (i : ℕ) → i ≢ a.id → (front back : List Asked) → before ≡ front ++ back →
      beats_due (of_key id_of_asked i (of_key number_of_asked a.number front)) ≤ length (of_key id_of_reply i (of_key number_of_reply a.number replies)) →
      beats_due (of_key id_of_asked i (of_key number_of_asked a.number before)) ≤ length (of_key id_of_reply i (of_key number_of_reply a.number replies))
  earlier i other front [] e so_far =
      subst (λ (xs : List Asked). beats_due (of_key id_of_asked i (of_key number_of_asked a.number xs)) ≤ length (of_key id_of_reply i (of_key number_of_reply a.number replies))) (sym (e ∙ append-nil front)) so_far
  earlier i other front (z ∷ back) e so_far =
      earlier i other (front ++ z ∷ []) back (e ∙ sym (append_assoc front (z ∷ []) back)) (earlier-step i other front z back e so_far)

  -- an answered request, by the answers to its transaction
  answered_by_number : IsAnswered before a replies → beats_due (of_key number_of_asked a.number (before ++ a ∷ [])) ≤ length (of_key number_of_reply a.number replies)
  answered_by_number answered =
      let split : of_key id_of_asked a.id asked ≡ of_key id_of_asked a.id (before ++ a ∷ []) ++ of_key id_of_asked a.id after =
      ap (of_key id_of_asked a.id) (place ∙ sym (append_assoc before (a ∷ []) after)) ∙ of_key-append id_of_asked a.id (before ++ a ∷ []) after in
      let mine : beats_due (of_key number_of_asked a.number (of_key id_of_asked a.id (before ++ a ∷ []))) ≤ length (of_key id_of_reply a.id (of_key number_of_reply a.number replies)) =
      at_least_answered asked replies order a.number a.id (of_key id_of_asked a.id (before ++ a ∷ [])) (of_key id_of_asked a.id after) split answered in
      let own : List Asked = of_key number_of_asked a.number (before ++ a ∷ []) in
      let fewer : (i : ℕ) → count_of i (ids_of_beats (of_key number_of_asked a.number (before ++ a ∷ []))) ≤ count_of i (map id_of_reply (of_key number_of_reply a.number replies)) = λ i. elim (cases_eq i a.id) [
        | inl same ↦ subst (λ (k : ℕ). count_of k (ids_of_beats (of_key number_of_asked a.number (before ++ a ∷ []))) ≤ count_of k (map id_of_reply (of_key number_of_reply a.number replies))) (sym same)
            (omega (arith, count_of-ids_of_beats a.id (of_key number_of_asked a.number (before ++ a ∷ [])), own_ids a.id a.number replies, ap beats_due (of_key-of_key id_of_asked number_of_asked a.id a.number (before ++ a ∷ []))))
        | inr other ↦
            let without : of_key id_of_asked i (of_key number_of_asked a.number (before ++ a ∷ [])) ≡ of_key id_of_asked i (of_key number_of_asked a.number before) =
            ap (of_key id_of_asked i) (of_key-push number_of_asked a.number before a refl) ∙ of_key-push_other id_of_asked i (of_key number_of_asked a.number before) a (λ h. other (sym h)) in
            omega (arith, count_of-ids_of_beats i (of_key number_of_asked a.number (before ++ a ∷ [])), own_ids i a.number replies, ap beats_due without, earlier i other [] before refl (omega arith))
      ] in
      omega (
        arith,
        length-by_counts (ids_of_beats (of_key number_of_asked a.number (before ++ a ∷ []))) (map id_of_reply (of_key number_of_reply a.number replies)) fewer,
        length-ids_of_beats (of_key number_of_asked a.number (before ++ a ∷ [])),
        length-map (of_key number_of_reply a.number replies) id_of_reply,
      )

  -- behind a request that isn't answered, its transaction has no request under another ID
  pub later : ¬ IsAnswered before a replies → (i : ℕ) → i ≢ a.id → (between rest : List Asked) → after ≡ between ++ rest → of_key id_of_asked i (of_key number_of_asked a.number rest) ≡ []
  later held i other between [] e = refl
  later held i other between (z ∷ rest) e =
      let tail : of_key id_of_asked i (of_key number_of_asked a.number rest) ≡ [] = later held i other (between ++ z ∷ []) rest (e ∙ sym (append_assoc between (z ∷ []) rest)) in
      elim (cases_eq z.number a.number) [
        | inr ne ↦ ap (of_key id_of_asked i) (of_key-skip number_of_asked a.number z rest ne) ∙ tail
        | inl own ↦ elim (cases_eq z.id i) [
          | inr ne ↦ ap (of_key id_of_asked i) (of_key-cons number_of_asked a.number z rest own) ∙ of_key-skip id_of_asked i z (of_key number_of_asked a.number rest) ne ∙ tail
          | inl same ↦ absurd (held (one before a between z rest (place ∙ ap (λ xs. before ++ a ∷ xs) e ∙ sym (append_assoc before (a ∷ between) (z ∷ rest))) (sym (ap (λ n. (shares n).chain) own)) (λ h. other (sym same ∙ sym h))))
        ]
      ]

  -- a request that isn't answered, by the answers to its transaction
  held_by_number : ¬ IsAnswered before a replies → length (of_key number_of_reply a.number replies) ≤ beats_due (of_key number_of_asked a.number before) + a.len
  held_by_number held =
      let split : of_key id_of_asked a.id asked ≡ of_key id_of_asked a.id before ++ a ∷ of_key id_of_asked a.id after =
      ap (of_key id_of_asked a.id) place ∙ of_key-append id_of_asked a.id before (a ∷ after) ∙ ap (λ xs. of_key id_of_asked a.id before ++ xs) (of_key-cons id_of_asked a.id a after refl) in
      let few : length (of_key id_of_reply a.id replies) < beats_due (of_key id_of_asked a.id before ++ a ∷ []) =
      elim (cases_lt (length (of_key id_of_reply a.id replies)) (beats_due (of_key id_of_asked a.id before ++ a ∷ []))) [
        | inl lt ↦ lt
        | inr ge ↦ absurd (held (subst (λ (xs : List Asked). beats_due xs ≤ length (of_key id_of_reply a.id replies)) (sym (of_key-push id_of_asked a.id before a refl)) ge))
      ] in
      let mine : length (of_key id_of_reply a.id (of_key number_of_reply a.number replies)) ≤ beats_due (of_key number_of_asked a.number (of_key id_of_asked a.id before)) + a.len =
      at_most_partly asked replies order a.number a.id (of_key id_of_asked a.id before) (of_key id_of_asked a.id after) a split few in
      let most : List ℕ = ids_of_beats (of_key number_of_asked a.number before) ++ replicate a.len a.id in
      let fewer : (i : ℕ) → count_of i (map id_of_reply (of_key number_of_reply a.number replies)) ≤ count_of i (ids_of_beats (of_key number_of_asked a.number before) ++ replicate a.len a.id) = λ i. elim (cases_eq i a.id) [
        | inl same ↦ subst (λ (k : ℕ). count_of k (map id_of_reply (of_key number_of_reply a.number replies)) ≤ count_of k (ids_of_beats (of_key number_of_asked a.number before) ++ replicate a.len a.id)) (sym same)
            (omega (
              arith,
              own_ids a.id a.number replies,
              count_of-append a.id (ids_of_beats (of_key number_of_asked a.number before)) (replicate a.len a.id),
              count_of-replicate a.id a.len,
              count_of-ids_of_beats a.id (of_key number_of_asked a.number before),
              ap beats_due (of_key-of_key id_of_asked number_of_asked a.id a.number before),
            ))
        | inr other ↦
            let none : of_key id_of_asked i (of_key number_of_asked a.number (a ∷ after)) ≡ [] =
            ap (of_key id_of_asked i) (of_key-cons number_of_asked a.number a after refl) ∙ of_key-skip id_of_asked i a (of_key number_of_asked a.number after) (λ h. other (sym h)) ∙ later held i other [] after refl in
            let whole : beats_due (of_key number_of_asked a.number (of_key id_of_asked i asked)) ≡ beats_due (of_key id_of_asked i (of_key number_of_asked a.number before)) =
            ap beats_due (sym (of_key-of_key id_of_asked number_of_asked i a.number asked)
            ∙ ap (λ xs. of_key id_of_asked i (of_key number_of_asked a.number xs)) place
            ∙ ap (of_key id_of_asked i) (of_key-append number_of_asked a.number before (a ∷ after))
            ∙ of_key-append id_of_asked i (of_key number_of_asked a.number before) (of_key number_of_asked a.number (a ∷ after))
            ∙ ap (λ xs. of_key id_of_asked i (of_key number_of_asked a.number before) ++ xs) none
            ∙ append-nil (of_key id_of_asked i (of_key number_of_asked a.number before))) in
            omega (
              arith,
              own_ids i a.number replies,
              at_most_asked asked replies order a.number i,
              count_of-append i (ids_of_beats (of_key number_of_asked a.number before)) (replicate a.len a.id),
              count_of-ids_of_beats i (of_key number_of_asked a.number before),
            )
      ] in
      omega (
        arith,
        length-by_counts (map id_of_reply (of_key number_of_reply a.number replies)) (ids_of_beats (of_key number_of_asked a.number before) ++ replicate a.len a.id) fewer,
        length-map (of_key number_of_reply a.number replies) id_of_reply,
        length-append (ids_of_beats (of_key number_of_asked a.number before)) (replicate a.len a.id),
        length-ids_of_beats (of_key number_of_asked a.number before),
        length-replicate a.len a.id,
      )

  answered_from_number : beats_due (of_key number_of_asked a.number (before ++ a ∷ [])) ≤ length (of_key number_of_reply a.number replies) → IsAnswered before a replies
  answered_from_number enough =
      elim (cases_lt (length (of_key id_of_reply a.id replies)) (beats_due (of_key id_of_asked a.id (before ++ a ∷ [])))) [
        | inr ge ↦ ge
        | inl lt ↦ absurd (omega (arith, own_up_to, held_by_number (λ answered. omega arith)))
      ]

pub own_requests_in_order : OwnRequestsInOrder
own_requests_in_order shares asked replies one order before a after place =
    (answered_by_number shares asked replies one order before a after place, answered_from_number shares asked replies one order before a after place)

pub held_have_one_id : HeldHaveOneId
held_have_one_id shares asked replies one before a between next after place chain held =
    elim (cases_eq a.id next.id) [
      | inl same ↦ same
      | inr differ ↦ absurd (held (one before a between next after place chain differ))
    ]
