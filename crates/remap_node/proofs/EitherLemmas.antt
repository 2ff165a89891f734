-- Requests that lack answers, by either of two IDs: two views of one list.
use Rattle.std.proofs.Common.{◌≡◌, ◌≢◌, ◌<◌, ◌≤◌, ◌+◌, ◌==◌, ℕ, suc, Bool, true, false, cond, List, [], ◌∷◌, ◌++◌, map, refl, sym, ◌∙◌, ap, subst, inl, inr, arith}
use Rattle.std.specs.Prelude.{◌↔◌, All}
use Rattle.std.proofs.lemmas.Bool.{cases_eq, cases_lt}
use Rattle.std.proofs.lemmas.List.{map-append}
use Rattle.std.proofs.lemmas.List.Elements.{All-cons, All-filter, All-head, All-nil, All-tail}
use Rattle.axi_trail.proofs.HeldFacts.{held-of_key, once-other, once-own}
use Rattle.axi_trail.proofs.WaitingFacts.{pending-has, pending-none}
use Rattle.axi_trail.specs.Waiting.{Waiting, advanced, answered_by, answered_once, beats_by, fresh, held, pending}
use Rattle.plain_lists.proofs.CutLemmas.{all-cut, all-left}
use Rattle.plain_lists.proofs.KeyLemmas.{of_key-cons, of_key-push, of_key-skip}
use Rattle.plain_lists.specs.Keys.{count_of, of_key}

module _ {X : Type 0} (len_of id_of : X → ℕ) where
  -- what holds of the requests that lack answers holds of those that do after one more answer
  pub once-all : (P : X → Type 0) (id : ℕ) (ws : List (Waiting X)) → All (λ w. P w.request) ws → All (λ w. P w.request) (answered_once len_of id_of id ws)
  once-all P id [] all = all
  once-all P id (w ∷ ws) all =
      let P' : Waiting X → Type 0 = λ v. P v.request in
      let first : P w.request = All-head P' w ws all in
      let rest : All P' ws = All-tail P' w ws all in
      let go : (b c : Bool) → All P' (cond b (cond c ws (record { request = w.request; done = suc w.done } ∷ ws)) (w ∷ answered_once len_of id_of id ws)) =
      elim [
        | true ↦ elim [ true ↦ rest | false ↦ All-cons P' (record { request = w.request; done = suc w.done }) ws first rest ]
        | false ↦ λ c. All-cons P' w (answered_once len_of id_of id ws) first (once-all P id ws rest)
      ]
      in go (id_of w.request == id) (w.done == len_of w.request)

  -- so what holds of the requests holds of the held ones
  pub by-all : (P : X → Type 0) (ids : List ℕ) (ws : List (Waiting X)) → All (λ w. P w.request) ws → All (λ w. P w.request) (answered_by len_of id_of ws ids)
  by-all P [] ws all = all
  by-all P (id ∷ ids) ws all = by-all P ids (answered_once len_of id_of id ws) (once-all P id ws all)

  fresh-all : (P : X → Type 0) (xs : List X) → All P xs → All (λ (w : Waiting X). P w.request) (map fresh xs)
  fresh-all P [] all = All-nil (λ (w : Waiting X). P w.request)
  fresh-all P (x ∷ xs) all = All-cons (λ (w : Waiting X). P w.request) (fresh x) (map fresh xs) (All-head P x xs all) (fresh-all P xs (All-tail P x xs all))

  pub held-all : (P : X → Type 0) (xs : List X) (ids : List ℕ) → All P xs → All (λ w. P w.request) (held len_of id_of xs ids)
  held-all P xs ids all = by-all P ids (map fresh xs) (fresh-all P xs all)

  -- the first requests are answered alike, whatever comes behind them
  once-front : (id : ℕ) (ws vs : List (Waiting X)) → (more : List (Waiting X)) × (answered_once len_of id_of id (ws ++ vs) ≡ answered_once len_of id_of id ws ++ more)
  once-front id [] vs = (answered_once len_of id_of id vs, refl)
  once-front id (w ∷ ws) vs = go (once-front id ws vs) (id_of w.request == id)
    where
      last-or : (c : Bool) → cond c (ws ++ vs) (record { request = w.request; done = suc w.done } ∷ (ws ++ vs)) ≡ cond c ws (record { request = w.request; done = suc w.done } ∷ ws) ++ vs
      last-or true = refl
      last-or false = refl

      go : ((more : List (Waiting X)) × (answered_once len_of id_of id (ws ++ vs) ≡ answered_once len_of id_of id ws ++ more)) → (b : Bool) →
          (more : List (Waiting X)) × (cond b (advanced len_of (w ∷ (ws ++ vs))) (w ∷ answered_once len_of id_of id (ws ++ vs)) ≡ cond b (advanced len_of (w ∷ ws)) (w ∷ answered_once len_of id_of id ws) ++ more)
      go rest true = (vs, last-or (w.done == len_of w.request))
      go rest false = (rest.0, ap (λ (zs : List (Waiting X)). w ∷ zs) rest.1)

  by-front : (ids : List ℕ) (ws vs : List (Waiting X)) → (more : List (Waiting X)) × (answered_by len_of id_of (ws ++ vs) ids ≡ answered_by len_of id_of ws ids ++ more)
  by-front [] ws vs = (vs, refl)
  by-front (id ∷ ids) ws vs =
      let one = once-front id ws vs in
      let rest = by-front ids (answered_once len_of id_of id ws) one.0 in
      (rest.0, ap (λ (zs : List (Waiting X)). answered_by len_of id_of zs ids) one.1 ∙ rest.1)

  -- what holds of all held requests holds of those that are held of the first ones
  pub held-front : (P : Waiting X → Type 0) (xs ys : List X) (ids : List ℕ) → All P (held len_of id_of (xs ++ ys) ids) → All P (held len_of id_of xs ids)
  held-front P xs ys ids all =
      let rest = by-front ids (map fresh xs) (map fresh ys) in
      all-left P (held len_of id_of xs ids) rest.0 (subst (λ (ws : List (Waiting X)). All P ws) (ap (λ (ws : List (Waiting X)). answered_by len_of id_of ws ids) (map-append fresh xs ys) ∙ rest.1) all)

none-of_key : {X : Type 0} (f : X → ℕ) (key : ℕ) (xs : List X) → of_key f key xs ≡ [] → All (λ x. f x ≢ key) xs
none-of_key f key [] none = All-nil (λ x. f x ≢ key)
none-of_key f key (x ∷ xs) none = elim (cases_eq (f x) key) [
  | inl own ↦ let two : x ∷ of_key f key xs ≡ [] = sym (of_key-cons f key x xs own) ∙ none in absurd (cc)
  | inr ne ↦ All-cons (λ x. f x ≢ key) x xs ne (none-of_key f key xs (sym (of_key-skip f key x xs ne) ∙ none))
]

module _ {X : Type 0} (len_of in_of out_of : X → ℕ) where
  -- the one ID is this one exactly where the other is that one
  abbrev pub IsBoth : ℕ → ℕ → Waiting X → Type 0
  IsBoth i o w = (in_of w.request ≡ i) ↔ (out_of w.request ≡ o)

  -- then an answer is that of the same request by either ID
  pub once-either : (i o : ℕ) (ws : List (Waiting X)) → All (IsBoth i o) ws → answered_once len_of in_of i ws ≡ answered_once len_of out_of o ws
  once-either i o [] all = refl
  once-either i o (w ∷ ws) all =
      let is = All-head (IsBoth i o) w ws all in
      let rest = once-either i o ws (All-tail (IsBoth i o) w ws all) in
      elim (cases_eq (in_of w.request) i) [
        | inl own ↦ once-own len_of in_of i w ws own ∙ sym (once-own len_of out_of o w ws (is.0 own))
        | inr ne ↦ once-other len_of in_of i w ws ne ∙ ap (λ (vs : List (Waiting X)). w ∷ vs) rest ∙ sym (once-other len_of out_of o w ws (λ e. ne (is.1 e)))
      ]

  -- and the requests of either ID are the same
  pub of_key-either : (i o : ℕ) (ws : List (Waiting X)) → All (IsBoth i o) ws → of_key (λ w. in_of w.request) i ws ≡ of_key (λ w. out_of w.request) o ws
  of_key-either i o [] all = refl
  of_key-either i o (w ∷ ws) all =
      let is = All-head (IsBoth i o) w ws all in
      let rest = of_key-either i o ws (All-tail (IsBoth i o) w ws all) in
      elim (cases_eq (in_of w.request) i) [
        | inl own ↦
            of_key-cons (λ (v : Waiting X). in_of v.request) i w ws own ∙ ap (λ (vs : List (Waiting X)). w ∷ vs) rest
            ∙ sym (of_key-cons (λ (v : Waiting X). out_of v.request) o w ws (is.0 own))
        | inr ne ↦
            of_key-skip (λ (v : Waiting X). in_of v.request) i w ws ne ∙ rest
            ∙ sym (of_key-skip (λ (v : Waiting X). out_of v.request) o w ws (λ e. ne (is.1 e)))
      ]

  beats-push : (xs : List X) (a : X) → beats_by len_of (xs ++ a ∷ []) ≡ beats_by len_of xs + suc (len_of a)
  beats-push [] a = omega arith
  beats-push (x ∷ xs) a = omega (arith, beats-push xs a)

  -- the last of these requests is held where it isn't answered, so what holds of the held ones holds of it
  pub last-held : (P : X → Type 0) (front : List X) (a : X) (ids : List ℕ) → count_of (out_of a) ids < beats_by len_of (of_key out_of (out_of a) (front ++ a ∷ [])) →
      All (λ (w : Waiting X). P w.request) (held len_of out_of (front ++ a ∷ []) ids) → P a
  last-held P front a ids few all =
      let n = count_of (out_of a) ids in
      let own : of_key out_of (out_of a) (front ++ a ∷ []) ≡ of_key out_of (out_of a) front ++ a ∷ [] = of_key-push out_of (out_of a) front a refl in
      let has = pending-has len_of n (of_key out_of (out_of a) front) a [] (omega (arith, few, ap (beats_by len_of) own, beats-push (of_key out_of (out_of a) front) a)) in
      let P' : Waiting X → Type 0 = λ w. P w.request in
      let held_are : of_key (λ (w : Waiting X). out_of w.request) (out_of a) (held len_of out_of (front ++ a ∷ []) ids) ≡ pending len_of n (of_key out_of (out_of a) front ++ a ∷ []) =
      held-of_key len_of out_of (front ++ a ∷ []) ids (out_of a) ∙ ap (pending len_of n) own in
      all-cut P' has.0 (record { request = a; done = has.1 }) has.2
      (subst (λ (ws : List (Waiting X)). All P' ws) has.3 (subst (λ (ws : List (Waiting X)). All P' ws) held_are
      (All-filter (λ (w : Waiting X). out_of w.request == out_of a) P' (held len_of out_of (front ++ a ∷ []) ids) all)))

  -- where the held requests are the same by either ID, who is answered by the one is answered by the other
  pub answered-either : (front : List X) (a : X) (ins outs : List ℕ) → held len_of in_of (front ++ a ∷ []) ins ≡ held len_of out_of (front ++ a ∷ []) outs →
      beats_by len_of (of_key in_of (in_of a) (front ++ a ∷ [])) ≤ count_of (in_of a) ins → beats_by len_of (of_key out_of (out_of a) (front ++ a ∷ [])) ≤ count_of (out_of a) outs
  answered-either front a ins outs same done = elim (cases_lt (count_of (out_of a) outs) (beats_by len_of (of_key out_of (out_of a) (front ++ a ∷ [])))) [
    | inr ge ↦ ge
    | inl lt ↦
        let none : of_key (λ (w : Waiting X). in_of w.request) (in_of a) (held len_of in_of (front ++ a ∷ []) ins) ≡ [] =
        held-of_key len_of in_of (front ++ a ∷ []) ins (in_of a) ∙ pending-none len_of (count_of (in_of a) ins) (of_key in_of (in_of a) (front ++ a ∷ [])) done in
        absurd (last-held (λ x. in_of x ≢ in_of a) front a outs lt
        (subst (λ (ws : List (Waiting X)). All (λ (w : Waiting X). in_of w.request ≢ in_of a) ws) same
        (none-of_key (λ (w : Waiting X). in_of w.request) (in_of a) (held len_of in_of (front ++ a ∷ []) ins) none)) refl)
  ]
