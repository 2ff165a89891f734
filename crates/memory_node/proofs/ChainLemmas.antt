-- Where beats come in order of their addresses, nothing of a later transaction of a chain has come yet.
use Rattle.std.proofs.Common.{◌≡◌, ◌≢◌, ℕ, ◌+◌, ◌<◌, ◌≤◌, ◌==◌, List, [], ◌∷◌, ◌++◌, length, map, refl, sym, ◌∙◌, ap, subst, arith, inl, inr, append_assoc, length-append}
use Rattle.std.proofs.lemmas.List.{length-map, map-append}
use Rattle.std.proofs.lemmas.List.Concat.{flat_map-append}
use Rattle.axi_beats.specs.declared.beat.Addr.{Addr}
use Rattle.axi_trail.specs.LinkContracts.{WholeBeforeTheNext, without_id}
use Rattle.axi_trail.specs.Schedule.{ComesBefore, Share}
use Rattle.axi_trail.specs.Waiting.{Waiting, beats_by, pending}
use Rattle.axi_trail.specs.Words.{Asked, Mark, burst_asked, len_of_asked, marks, marks_of, number_of_address, number_of_asked, number_of_mark}
use Rattle.axi_trail.proofs.FilterFacts.{length-marks}
use Rattle.axi_trail.proofs.OrderFacts.{own_beats}
use Rattle.axi_trail.proofs.WaitingFacts.{pending-place}
use Rattle.subordinate.specs.Tracks.{len_of_address}
use Rattle.subordinate.proofs.WriteOrder.{beats-append, beats-shown}
use Rattle.plain_lists.specs.Prefixes.{IsPrefix}
use Rattle.plain_lists.proofs.KeyLemmas.{of_key-append, of_key-cons, of_key-map, of_key-push_other, find_key}
use Rattle.plain_lists.proofs.PrefixLemmas.{count_front, prefix_length}
use Rattle.plain_lists.specs.Keys.{of_key}

-- how many of these beats are of a transaction
abbrev pub count_marks : ℕ → List Mark → ℕ
count_marks t passed = length (of_key number_of_mark t passed)

module _ (shares : ℕ → Share) (shown : Addr → Asked) (counts : (n : ℕ) (xs : List Addr) → length (of_key number_of_asked n (map shown xs)) ≡ length (of_key number_of_address n xs))
    (numbers : (a : Addr) → number_of_asked (shown a) ≡ a.tag.txn) (xs : List Addr) (whole : WholeBeforeTheNext shares (map shown xs)) where
  -- where a request of a transaction is still to come, none of a later one of its chain has come
  none-before : (bef : List Addr) (a : Addr) (aft : List Addr) (after : ℕ) → xs ≡ bef ++ a ∷ aft → length (of_key number_of_address a.tag.txn xs) ≤ length (shares a.tag.txn).parts → ComesBefore shares a.tag.txn after →
      of_key number_of_address after bef ≡ []
  none-before bef a aft after e few chain = elim (find_key number_of_address after bef) [
    | inl none ↦ none
    | inr found ↦
        let at : xs ≡ found.0 ++ found.1 ∷ (found.2 ++ a ∷ aft) = e ∙ ap (λ ys. ys ++ a ∷ aft) found.3 ∙ append_assoc found.0 (found.1 ∷ found.2) (a ∷ aft) in
        let mine : after ≡ number_of_asked (shown found.1) = sym found.4 ∙ sym (numbers found.1) in
        let all : length (of_key number_of_asked a.tag.txn (map shown found.0)) ≡ length (shares a.tag.txn).parts =
        whole (map shown found.0) (shown found.1) (map shown (found.2 ++ a ∷ aft)) a.tag.txn (ap (map shown) at ∙ map-append shown found.0 (found.1 ∷ (found.2 ++ a ∷ aft)))
        (subst (λ (n : ℕ). ComesBefore shares a.tag.txn n) mine chain) in
        let own : of_key number_of_address a.tag.txn xs ≡ of_key number_of_address a.tag.txn found.0 ++ (of_key number_of_address a.tag.txn (found.1 ∷ found.2) ++ a ∷ of_key number_of_address a.tag.txn aft) =
        ap (of_key number_of_address a.tag.txn) at
        ∙ of_key-append number_of_address a.tag.txn found.0 (found.1 ∷ (found.2 ++ a ∷ aft))
        ∙ ap (λ t. of_key number_of_address a.tag.txn found.0 ++ t) (of_key-append number_of_address a.tag.txn (found.1 ∷ found.2) (a ∷ aft) ∙ ap (λ t. of_key number_of_address a.tag.txn (found.1 ∷ found.2) ++ t) (of_key-cons number_of_address a.tag.txn a aft refl)) in
        absurd (too_many (of_key number_of_address a.tag.txn found.0) (of_key number_of_address a.tag.txn (found.1 ∷ found.2)) a (of_key number_of_address a.tag.txn aft) (length (shares a.tag.txn).parts)
        (sym (counts a.tag.txn found.0) ∙ all) (omega (arith, few, ap length own)))
  ]
    where
      too_many : (us vs : List Addr) (a : Addr) (ws : List Addr) (n : ℕ) → length us ≡ n → length (us ++ (vs ++ a ∷ ws)) ≤ n → ⊥
      too_many us vs a ws n e le = omega (arith, length-append us (vs ++ a ∷ ws), length-append vs (a ∷ ws))

  pub none-later : (passed : List Mark) (count : ℕ) (v : Waiting Addr) (others : List (Waiting Addr)) (after : ℕ) → IsPrefix (map without_id (of_key number_of_address v.request.tag.txn xs)) (shares v.request.tag.txn).parts →
      IsPrefix passed (marks (map burst_asked xs)) → length passed ≡ count → pending len_of_address count xs ≡ v ∷ others → ComesBefore shares v.request.tag.txn after → count_marks after passed ≡ 0
  none-later passed count v others after asked p counted e chain =
      let place : (before : List Addr) × (after : List Addr) × (xs ≡ before ++ v.request ∷ after) × (beats_by len_of_address before + v.done ≡ count) × (v.done ≤ v.request.len) = pending-place len_of_address count xs v others e in
      let few : length (of_key number_of_address v.request.tag.txn xs) ≤ length (shares v.request.tag.txn).parts = omega (arith, prefix_length asked, length-map (of_key number_of_address v.request.tag.txn xs) without_id) in
      let none : of_key number_of_address after place.0 ≡ [] = none-before place.0 v.request place.1 after place.2 few chain in
      let differ : v.request.tag.txn ≢ after = λ same. let lt : v.request.tag.txn < after = chain.0 in absurd (omega arith) in
      let parts : marks (map burst_asked xs) ≡ marks (map burst_asked (place.0 ++ v.request ∷ [])) ++ marks (map burst_asked place.1) =
      ap (λ ys. marks (map burst_asked ys)) (place.2 ∙ sym (append_assoc place.0 (v.request ∷ []) place.1))
      ∙ ap marks (map-append burst_asked (place.0 ++ v.request ∷ []) place.1)
      ∙ flat_map-append marks_of (map burst_asked (place.0 ++ v.request ∷ [])) (map burst_asked place.1) in
      let long : length passed ≤ length (marks (map burst_asked (place.0 ++ v.request ∷ []))) + 0 =
      omega (arith, length-marks (map burst_asked (place.0 ++ v.request ∷ [])), beats-shown len_of_asked burst_asked (place.0 ++ v.request ∷ []), beats-append len_of_address place.0 v.request, place.3, place.4) in
      let fewer : count_marks after passed ≤ count_marks after (marks (map burst_asked (place.0 ++ v.request ∷ []))) + 0 =
      count_front (λ m. number_of_mark m == after) 0 passed (marks (map burst_asked (place.0 ++ v.request ∷ []))) p.rest (marks (map burst_asked place.1)) (sym p.whole ∙ parts) long in
      let zero : of_key number_of_asked after (map burst_asked (place.0 ++ v.request ∷ [])) ≡ [] =
      of_key-map number_of_asked burst_asked after (place.0 ++ v.request ∷ [])
      ∙ ap (map burst_asked) (of_key-push_other number_of_address after place.0 v.request differ ∙ none) in
      omega (arith, own_beats after (map burst_asked (place.0 ++ v.request ∷ [])), ap length (ap marks zero), length-marks (of_key number_of_asked after (map burst_asked (place.0 ++ v.request ∷ []))))
