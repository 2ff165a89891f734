-- One answer for each whole group leaves held what the beats leave held.
use Rattle.std.proofs.Common.{◌≡◌, ◌≢◌, ℕ, List, [], ◌∷◌, ◌++◌, map, refl, sym, ◌∙◌, ap, subst, inl, inr, append_assoc, append-nil, eq-eqb}
use Rattle.std.proofs.lemmas.Bool.{cases_Bool, cases_eq, eqb-true, true≢false}
use Rattle.plain_lists.specs.Keys.{of_key}
use Rattle.plain_lists.proofs.KeyLemmas.{filter-push, filter-push_skip, of_key-cons, of_key-skip}
use Rattle.axi_trail.proofs.HeldFacts.{held-answer, once-other, once-own}
use Rattle.plain_lists.proofs.PrefixLemmas.{prefix_map, prefix_of_key, prefix_append, prefix_trans}
use Rattle.axi_trail.proofs.StepFacts.{next_answer}
use Rattle.axi_trail.proofs.WaitingFacts.{advanced-last, advanced-more}
use Rattle.axi_trail.specs.Waiting.{Waiting, answered_once, fresh, held}
use Rattle.axi_trail.specs.Words.{Asked, InOrderOfId, Reply, held_asked, id_of_asked, id_of_reply, id_of_waiting, len_of_asked, mark_of_reply}
use Rattle.burst_cuts.proofs.CutLemmas.{map-append}
use Rattle.burst_cuts.specs.CutLaws.{WholeGroupsHeld, ends, single}

abbrev whole : Waiting Asked → Waiting Asked
whole w = fresh (single w.request)

abbrev once : ℕ → List (Waiting Asked) → List (Waiting Asked)
once id ws = answered_once len_of_asked id_of_asked id ws

same-first : (v w : Waiting Asked) (vs others : List (Waiting Asked)) → v ∷ vs ≡ w ∷ others → v ≡ w
same-first v w vs others same = cc

-- the last beat of the oldest request of an ID is its answer
once-last : (id : ℕ) (ws : List (Waiting Asked)) (w : Waiting Asked) (others : List (Waiting Asked)) → of_key id_of_waiting id ws ≡ w ∷ others → w.done ≡ w.request.len → map whole (once id ws) ≡ once id (map whole ws)
once-last id [] w others first last = refl
once-last id (v ∷ ws) w others first last = elim (cases_eq v.request.id id) [
  | inl own ↦
      let is : v ≡ w = same-first v w (of_key id_of_waiting id ws) others (sym (of_key-cons id_of_waiting id v ws own) ∙ first) in
      let done : v.done ≡ v.request.len = subst (λ (x : Waiting Asked). x.done ≡ x.request.len) (sym is) last in
      ap (map whole) (once-own len_of_asked id_of_asked id v ws own ∙ advanced-last len_of_asked v ws done)
      ∙ sym (once-own len_of_asked id_of_asked id (whole v) (map whole ws) own ∙ advanced-last len_of_asked (whole v) (map whole ws) refl)
  | inr other ↦
      ap (map whole) (once-other len_of_asked id_of_asked id v ws other)
      ∙ ap (λ (l : List (Waiting Asked)). whole v ∷ l) (once-last id ws w others (sym (of_key-skip id_of_waiting id v ws other) ∙ first) last)
      ∙ sym (once-other len_of_asked id_of_asked id (whole v) (map whole ws) other)
]

-- and no other beat is
once-open : (id : ℕ) (ws : List (Waiting Asked)) (w : Waiting Asked) (others : List (Waiting Asked)) → of_key id_of_waiting id ws ≡ w ∷ others → w.done ≢ w.request.len → map whole (once id ws) ≡ map whole ws
once-open id [] w others first more = refl
once-open id (v ∷ ws) w others first more = elim (cases_eq v.request.id id) [
  | inl own ↦
      let is : v ≡ w = same-first v w (of_key id_of_waiting id ws) others (sym (of_key-cons id_of_waiting id v ws own) ∙ first) in
      ap (map whole) (once-own len_of_asked id_of_asked id v ws own ∙ advanced-more len_of_asked v ws (λ done. more (subst (λ (x : Waiting Asked). x.done ≡ x.request.len) is done)))
  | inr other ↦
      ap (map whole) (once-other len_of_asked id_of_asked id v ws other)
      ∙ ap (λ (l : List (Waiting Asked)). whole v ∷ l) (once-open id ws w others (sym (of_key-skip id_of_waiting id v ws other) ∙ first) more)
]

fresh-singles : (asked : List Asked) → map fresh (map single asked) ≡ map whole (map fresh asked)
fresh-singles [] = refl
fresh-singles (a ∷ asked) = ap (λ (l : List (Waiting Asked)). fresh (single a) ∷ l) (fresh-singles asked)

module _ (asked : List Asked) where
  abbrev AreAlike : List Reply → Type 0
  AreAlike beats = held_asked (map single asked) (ends beats) ≡ map whole (held_asked asked beats)

  held-push : (xs : List Asked) (replies : List Reply) (p : Reply) → held_asked xs (replies ++ p ∷ []) ≡ once p.id (held_asked xs replies)
  held-push xs replies p = ap (held len_of_asked id_of_asked xs) (map-append id_of_reply replies (p ∷ [])) ∙ held-answer len_of_asked id_of_asked xs (map id_of_reply replies) p.id

  one-more : (front : List Reply) (p : Reply) → InOrderOfId asked (front ++ p ∷ []) → AreAlike front → AreAlike (front ++ p ∷ [])
  one-more front p order alike =
      let next = next_answer asked front p order in
      let w = next.0 in
      elim (cases_Bool p.last) [
        | inl last ↦
            let done : w.done ≡ w.request.len = eqb-true w.done w.request.len (sym (ap (λ (q : Reply). q.last) next.3) ∙ last) in
            ap (held_asked (map single asked)) (filter-push (λ (q : Reply). q.last) front p last)
            ∙ held-push (map single asked) (ends front) p ∙ ap (once p.id) alike ∙ sym (once-last p.id (held_asked asked front) w next.1 next.2 done) ∙ ap (map whole) (sym (held-push asked front p))
        | inr more ↦
            let open_ : w.done ≢ w.request.len = λ done. true≢false (sym (eq-eqb w.done w.request.len done) ∙ sym (ap (λ (q : Reply). q.last) next.3) ∙ more) in
            ap (held_asked (map single asked)) (filter-push_skip (λ (q : Reply). q.last) front p more)
            ∙ alike ∙ sym (once-open p.id (held_asked asked front) w next.1 next.2 open_) ∙ ap (map whole) (sym (held-push asked front p))
      ]

  front-order : (front more : List Reply) → InOrderOfId asked (front ++ more) → InOrderOfId asked front
  front-order front more order = λ id. prefix_trans (prefix_map mark_of_reply (prefix_of_key id_of_reply id (prefix_append front more))) (order id)

  all-alike : (front rest : List Reply) → InOrderOfId asked (front ++ rest) → AreAlike front → AreAlike (front ++ rest)
  all-alike front [] order alike = subst AreAlike (sym (append-nil front)) alike
  all-alike front (p ∷ rest) order alike =
      let split : (front ++ p ∷ []) ++ rest ≡ front ++ p ∷ rest = append_assoc front (p ∷ []) rest in
      let order' : InOrderOfId asked ((front ++ p ∷ []) ++ rest) = subst (λ (l : List Reply). InOrderOfId asked l) (sym split) order in
      subst AreAlike split (all-alike (front ++ p ∷ []) rest order' (one-more front p (front-order (front ++ p ∷ []) rest order') alike))

pub whole-groups_held : WholeGroupsHeld
whole-groups_held asked beats order = all-alike asked [] beats order (fresh-singles asked)
