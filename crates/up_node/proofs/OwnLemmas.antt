-- The next beat of the oldest request of an ID is the next one of its transaction.
use Rattle.std.proofs.Common.{◌≡◌, ◌+◌, ◌≤◌, ℕ, suc, List, [], ◌∷◌, ◌++◌, length, refl, sym, ◌∙◌, ap, inl, inr, arith, append_assoc, length-append}
use Rattle.std.proofs.lemmas.Bool.{cases_lt}
use Rattle.axi_trail.proofs.FilterFacts.{beats_due-append}
use Rattle.axi_trail.proofs.OrderFacts.{own_requests_in_order}
use Rattle.axi_trail.proofs.PlaceFacts.{oldest_held_is_next_of_its_own}
use Rattle.axi_trail.specs.LinkContracts.{OneIdAtATime}
use Rattle.axi_trail.specs.Schedule.{Share}
use Rattle.axi_trail.specs.Waiting.{Waiting}
use Rattle.axi_trail.specs.Words.{Asked, InOrderOfId, Reply, beats_due, held_asked, id_of_asked, id_of_reply, id_of_waiting, number_of_asked, number_of_reply}
use Rattle.plain_lists.proofs.KeyLemmas.{of_key-push}
use Rattle.plain_lists.proofs.PrefixLemmas.{prefix_of_key, prefix_total, prefix_whole}
use Rattle.plain_lists.specs.Keys.{of_key}
use Rattle.plain_lists.specs.Prefixes.{IsPrefix}

due-front : (key_of : Asked → ℕ) (key : ℕ) {xs ys : List Asked} → IsPrefix xs ys → beats_due (of_key key_of key xs) ≤ beats_due (of_key key_of key ys)
due-front key_of key {xs} {ys} p =
    let q = prefix_of_key key_of key p in
    let sum : beats_due (of_key key_of key ys) ≡ beats_due (of_key key_of key xs) + beats_due q.rest = ap beats_due q.whole ∙ beats_due-append (of_key key_of key xs) q.rest in
    omega (arith, sum)

due-push : (key_of : Asked → ℕ) (xs : List Asked) (a : Asked) → beats_due (of_key key_of (key_of a) (xs ++ a ∷ [])) ≡ beats_due (of_key key_of (key_of a) xs) + suc a.len
due-push key_of xs a = ap beats_due (of_key-push key_of (key_of a) xs a refl) ∙ beats_due-append (of_key key_of (key_of a) xs) (a ∷ []) ∙ omega arith

first-of : (asked before : List Asked) (a : Asked) (after : List Asked) → asked ≡ before ++ a ∷ after → IsPrefix (before ++ a ∷ []) asked
first-of asked before a after split = record { rest = after; whole = split ∙ sym (append_assoc before (a ∷ []) after) }

module _ (shares : ℕ → Share) (asked : List Asked) (replies : List Reply) (one : OneIdAtATime shares asked replies) (order : InOrderOfId asked replies)
    (before : List Asked) (a : Asked) (after : List Asked) (split : asked ≡ before ++ a ∷ after) (done : ℕ) (le : done ≤ a.len)
    (counted : beats_due (of_key id_of_asked a.id before) + done ≡ length (of_key id_of_reply a.id replies)) where
  abbrev own : ℕ
  own = length (of_key number_of_reply a.number replies)

  pub own-count : (others : List (Waiting Asked)) → of_key id_of_waiting a.id (held_asked asked replies) ≡ record { request = a; done = done } ∷ others →
      length (of_key number_of_reply a.number replies) ≡ beats_due (of_key number_of_asked a.number before) + done
  own-count others first = go (oldest_held_is_next_of_its_own shares asked replies one order a.id (record { request = a; done = done }) others first)
    where
      go : ((left : List Asked) × (right : List Asked) × (asked ≡ left ++ a ∷ right) × (own ≡ beats_due (of_key number_of_asked a.number left) + done)) → own ≡ beats_due (of_key number_of_asked a.number before) + done
      go (left, right, place, count) = elim (cases_lt (length left) (length before)) [
        | inl shorter ↦
            let inside : IsPrefix (left ++ a ∷ []) before =
            prefix_total (first-of asked left a right place) (record { rest = a ∷ after; whole = split }) (omega (arith, shorter, length-append left (a ∷ []))) in
            let by_id : beats_due (of_key id_of_asked a.id (left ++ a ∷ [])) ≤ length (of_key id_of_reply a.id replies) = omega (arith, due-front id_of_asked a.id inside, counted) in
            let all = (own_requests_in_order shares asked replies one order left a right place).0 by_id in
            absurd (omega (arith, all, due-push number_of_asked left a, count, le))
        | inr longer ↦ elim (cases_lt (length before) (length left)) [
          | inl shorter ↦
              let inside : IsPrefix (before ++ a ∷ []) left =
              prefix_total (first-of asked before a after split) (record { rest = a ∷ right; whole = place }) (omega (arith, shorter, length-append before (a ∷ []))) in
              let all : beats_due (of_key number_of_asked a.number (before ++ a ∷ [])) ≤ own = omega (arith, due-front number_of_asked a.number inside, count) in
              let by_id = (own_requests_in_order shares asked replies one order before a after split).1 all in
              absurd (omega (arith, by_id, due-push id_of_asked before a, counted, le))
          | inr same ↦
              let front : IsPrefix left before = prefix_total (record { rest = a ∷ right; whole = place }) (record { rest = a ∷ after; whole = split }) (omega (arith, same)) in
              let equal : before ≡ left = prefix_whole left before front (omega (arith, longer)) in
              count ∙ ap (λ (xs : List Asked). beats_due (of_key number_of_asked a.number xs) + done) (sym equal)
        ]
      ]
