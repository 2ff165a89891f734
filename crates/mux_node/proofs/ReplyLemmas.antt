-- Answers that are told apart by the input in their IDs.
use Rattle.std.proofs.Common.{[], ◌%◌, ◌*◌, ◌++◌, ◌+◌, ◌/◌, ◌<◌, ◌∙◌, ◌∷◌, ◌≡◌, ◌≢◌, ◌≤◌, Bool, List, ap, ap₂, arith, eq-eqb, inl, inr, length, map, refl, subst, sym, ℕ}
use Rattle.std.specs.Prelude.{All, Contains, filter}
use Rattle.std.proofs.lemmas.Bool.{cases_eq, cases_lt, eqb-true, ne_eqb}
use Rattle.std.proofs.lemmas.List.{length-map, take-map}
use Rattle.std.proofs.lemmas.List.Elements.{All-contains, All-map, All-weaker, filter_passes}
use Rattle.std.proofs.lemmas.Nat.{div-add-mod', div-mul-add, mod-mul-add, mod_below}
use Rattle.axi_beats.specs.declared.beat.Addr.{Addr}
use Rattle.axi_trail.proofs.IdFacts.{answers_have_requests}
use Rattle.axi_trail.proofs.SelectionFacts.{completed-selected}
use Rattle.axi_trail.specs.SelectionLaws.{goes_way}
use Rattle.axi_trail.specs.Words.{Asked, InOrderOfId, Mark, Reply, burst_asked, completed, id_of_asked, id_of_reply, mark_of_reply, marks, marks_of, number_of_address, number_of_asked, number_of_mark}
use Rattle.mux_node.proofs.MergeLemmas.{all-by_input, sel-id}
use Rattle.mux_node.specs.MuxTable.{widened}
use Rattle.mux_node.specs.MuxTrail.{AreMerged}
use Rattle.plain_lists.proofs.KeyLemmas.{of_key-cons, of_key-skip}
use Rattle.plain_lists.proofs.PrefixLemmas.{prefix_nil, prefix_of_same, prefix_same}
use Rattle.plain_lists.proofs.SelectedLemmas.{of_key-way, of_number-left_out, of_number-selected}
use Rattle.plain_lists.specs.Keys.{of_key, selected}
use Rattle.plain_lists.specs.Prefixes.{IsPrefix}

-- as it shows at its input
abbrev pub narrowed_reply : ℕ → Reply → Reply
narrowed_reply ids p = record { number = p.number; id = p.id % ids; last = p.last }

abbrev pub widened_asked : ℕ → ℕ → Asked → Asked
widened_asked ids j a = record { number = a.number; id = j * ids + a.id; len = a.len }

-- the answers of an input
abbrev pub of_room : ℕ → ℕ → List Reply → List Reply
of_room ids j replies = of_key (λ p. p.id / ids) j replies

-- those of one of its IDs are those of the ID below
pub parted : (ids j id : ℕ) → id < ids → (replies : List Reply) →
    map mark_of_reply (of_key id_of_reply (j * ids + id) replies) ≡ map mark_of_reply (of_key id_of_reply id (map (narrowed_reply ids) (of_room ids j replies)))
parted ids j id small [] = refl
parted ids j id small (p ∷ ps) = elim (cases_eq p.id (j * ids + id)) [
  | inl own ↦
      let row : p.id / ids ≡ j = ap (λ (i : ℕ). i / ids) own ∙ div-mul-add j ids id small in
      let column : p.id % ids ≡ id = ap (λ (i : ℕ). i % ids) own ∙ mod-mul-add j ids id small in
      ap (map mark_of_reply) (of_key-cons id_of_reply (j * ids + id) p ps own)
      ∙ ap (λ (ms : List Mark). mark_of_reply p ∷ ms) (parted ids j id small ps)
      ∙ sym (ap (λ (qs : List Reply). map mark_of_reply (of_key id_of_reply id (map (narrowed_reply ids) qs))) (of_key-cons (λ (q : Reply). q.id / ids) j p ps row)
      ∙ ap (map mark_of_reply) (of_key-cons id_of_reply id (narrowed_reply ids p) (map (narrowed_reply ids) (of_room ids j ps)) column))
  | inr other ↦
      ap (map mark_of_reply) (of_key-skip id_of_reply (j * ids + id) p ps other) ∙ parted ids j id small ps
      ∙ elim (cases_eq (p.id / ids) j) [
        | inl row ↦
            let column : p.id % ids ≢ id = λ e. other (sym (div-add-mod' p.id ids) ∙ ap₂ (λ (a b : ℕ). a * ids + b) row e) in
            sym (ap (λ (qs : List Reply). map mark_of_reply (of_key id_of_reply id (map (narrowed_reply ids) qs))) (of_key-cons (λ (q : Reply). q.id / ids) j p ps row)
            ∙ ap (map mark_of_reply) (of_key-skip id_of_reply id (narrowed_reply ids p) (map (narrowed_reply ids) (of_room ids j ps)) column))
        | inr far ↦ sym (ap (λ (qs : List Reply). map mark_of_reply (of_key id_of_reply id (map (narrowed_reply ids) qs))) (of_key-skip (λ (q : Reply). q.id / ids) j p ps far))
      ]
]

pub parted-count : (ids j id : ℕ) → id < ids → (replies : List Reply) → length (of_key id_of_reply (j * ids + id) replies) ≡ length (of_key id_of_reply id (map (narrowed_reply ids) (of_room ids j replies)))
parted-count ids j id small replies =
    sym (length-map (of_key id_of_reply (j * ids + id) replies) mark_of_reply) ∙ ap length (parted ids j id small replies)
    ∙ length-map (of_key id_of_reply id (map (narrowed_reply ids) (of_room ids j replies))) mark_of_reply

-- there are none of greater IDs
none-beyond : (ids id : ℕ) → 0 < ids → ids ≤ id → (replies : List Reply) → of_key id_of_reply id (map (narrowed_reply ids) replies) ≡ []
none-beyond ids id some big [] = refl
none-beyond ids id some big (p ∷ ps) =
    of_key-skip id_of_reply id (narrowed_reply ids p) (map (narrowed_reply ids) ps) (λ e. absurd (omega (arith, e, big, mod_below p.id ids some))) ∙ none-beyond ids id some big ps

pub marks-wider : (ids j id : ℕ) (xs : List Asked) → marks (of_key id_of_asked (j * ids + id) (map (widened_asked ids j) xs)) ≡ marks (of_key id_of_asked id xs)
marks-wider ids j id [] = refl
marks-wider ids j id (x ∷ xs) = elim (cases_eq x.id id) [
  | inl own ↦
      ap marks (of_key-cons id_of_asked (j * ids + id) (widened_asked ids j x) (map (widened_asked ids j) xs) (ap (λ (i : ℕ). j * ids + i) own))
      ∙ ap (λ (ms : List Mark). marks_of x ++ ms) (marks-wider ids j id xs) ∙ sym (ap marks (of_key-cons id_of_asked id x xs own))
  | inr other ↦
      ap marks (of_key-skip id_of_asked (j * ids + id) (widened_asked ids j x) (map (widened_asked ids j) xs) (λ same. other (omega (arith, same))))
      ∙ marks-wider ids j id xs ∙ sym (ap marks (of_key-skip id_of_asked id x xs other))
]

-- answers that come in order below come in order at each input
pub up-order : (ids j : ℕ) (route : ℕ → ℕ) (asked mine : List Asked) (replies : List Reply) → 0 < ids → All (λ (a : Asked). a.id / ids ≡ route a.number) asked →
    selected number_of_asked (goes_way route j) asked ≡ map (widened_asked ids j) mine → InOrderOfId asked replies → InOrderOfId mine (map (narrowed_reply ids) (of_room ids j replies))
up-order ids j route asked mine replies some have parts order id = elim (cases_lt id ids) [
  | inl small ↦
      let only : All (λ (x : Asked). x.id ≡ j * ids + id → route x.number ≡ j) asked =
      All-weaker (λ (a : Asked). a.id / ids ≡ route a.number) (λ (x : Asked). x.id ≡ j * ids + id → route x.number ≡ j)
      (λ x h same. sym h ∙ ap (λ (i : ℕ). i / ids) same ∙ div-mul-add j ids id small) asked have in
      prefix_of_same (prefix_same (sym (parted ids j id small replies)) (order (j * ids + id)))
      (ap marks (sel-id route j (j * ids + id) asked only ∙ ap (of_key id_of_asked (j * ids + id)) parts) ∙ marks-wider ids j id mine)
  | inr big ↦ prefix_same (ap (map mark_of_reply) (none-beyond ids id some big (of_room ids j replies))) (prefix_nil (marks (of_key id_of_asked id mine)))
]

-- ---- by number

module _ {X : Type 0} (number_of input_of : X → ℕ) (route : ℕ → ℕ) where
  abbrev pub KnowsInput : X → Type 0
  KnowsInput x = input_of x ≡ route (number_of x)

  pub own-number : (j t : ℕ) → route t ≡ j → (xs : List X) → All KnowsInput xs → of_key number_of t (of_key input_of j xs) ≡ of_key number_of t xs
  own-number j t by xs all =
      ap (of_key number_of t) (of_key-way input_of number_of route j xs all) ∙ of_number-selected number_of (goes_way route j) t xs (eq-eqb (route t) j by)

  pub other-number : (j t : ℕ) → route t ≢ j → (xs : List X) → All KnowsInput xs → of_key number_of t (of_key input_of j xs) ≡ []
  other-number j t far xs all =
      ap (of_key number_of t) (of_key-way input_of number_of route j xs all) ∙ of_number-left_out number_of (goes_way route j) t xs (ne_eqb (route t) j far)

-- ---- what has its input in its ID

pub merged-inputs : (route : ℕ → ℕ) (ids : ℕ) (merged : List Addr) (inputs : ℕ → List Addr) → AreMerged route ids merged inputs → All (λ (a : Addr). a.id / ids ≡ route a.tag.txn) merged
merged-inputs route ids merged inputs is = all-by_input (λ (a : Addr). a.id / ids ≡ route a.tag.txn) number_of_address route merged each
  where
    at_own : (j : ℕ) → All (λ (a : Addr). a.id / ids ≡ j) (selected number_of_address (goes_way route j) merged)
    at_own j =
        subst (λ (xs : List Addr). All (λ (a : Addr). a.id / ids ≡ j) xs) (sym (is.parts j))
        (All-map (λ (a : Addr). a.id / ids ≡ j) (widened ids j) (inputs j) (All-weaker (λ (a : Addr). a.id < ids) (λ (a : Addr). (j * ids + a.id) / ids ≡ j) (λ a small. div-mul-add j ids a.id small) (inputs j) (is.small j)))

    each : (j : ℕ) → All (λ (a : Addr). a.id / ids ≡ route a.tag.txn) (selected number_of_address (goes_way route j) merged)
    each j k d within =
        let by = filter_passes (λ (a : Addr). goes_way route j (number_of_address a)) merged k d within in
        at_own j k d within ∙ sym (eqb-true (route _) j by)

pub reply-inputs : (route : ℕ → ℕ) (ids : ℕ) (asked : List Asked) (replies : List Reply) → All (λ (a : Asked). a.id / ids ≡ route a.number) asked → InOrderOfId asked replies → All (λ (p : Reply). p.id / ids ≡ route p.number) replies
reply-inputs route ids asked replies have order =
    All-weaker (λ (p : Reply). (a : Asked) × Contains asked a × (a.id ≡ p.id) × (a.number ≡ p.number)) (λ (p : Reply). p.id / ids ≡ route p.number)
    (λ p has. ap (λ (i : ℕ). i / ids) (sym has.2) ∙ All-contains (λ (a : Asked). a.id / ids ≡ route a.number) asked has.0 have has.1 ∙ ap route has.3) replies (answers_have_requests asked replies order)

-- ---- the completed requests of an input

pub completed-of_input : (sub : ℕ → Bool) (aw : List Addr) (passed : List Mark) → IsPrefix passed (marks (map burst_asked aw)) →
    selected number_of_address sub (completed aw passed) ≡ completed (selected number_of_address sub aw) (selected number_of_mark sub passed)
completed-of_input sub aw passed front = completed-selected burst_asked sub aw passed front

pub completed-mapped : (f : Addr → Addr) (xs : List Addr) (passed : List Mark) → completed (map f xs) passed ≡ map f (completed xs passed)
completed-mapped f xs passed = take-map f (length (filter (λ (m : Mark). m.last) passed)) xs
