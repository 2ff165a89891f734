-- Facts on requests that lack beats, where beats come in order of the requests.
use Rattle.std.proofs.Common.{subst, ◌≡◌, ◌≢◌, ℕ, ◌+◌, ◌-◌, ◌<◌, ◌≤◌, suc, cond, List, [], ◌∷◌, ◌++◌, map, refl, sym, ◌∙◌, ap, inl, inr, arith, eq-eqb}
use Rattle.std.proofs.lemmas.Bool.{ne_eqb, lt-ltb, le-ltb, cases_eq, cases_lt}
use Rattle.axi_trail.specs.Waiting.{Waiting, fresh, waiting_request, beats_by, pending, complete, advanced}

module _ {X : Type 0} (len_of : X → ℕ) where
  pub pending-past : (count : ℕ) (x : X) (xs : List X) → len_of x < count → pending len_of count (x ∷ xs) ≡ pending len_of (count - suc (len_of x)) xs
  pending-past count x xs lt =
      ap (λ b. cond b (pending len_of (count - suc (len_of x)) xs) (record { request = x; done = count } ∷ pending len_of 0 xs)) (lt-ltb (len_of x) count lt)

  pub pending-within : (count : ℕ) (x : X) (xs : List X) → count ≤ len_of x → pending len_of count (x ∷ xs) ≡ record { request = x; done = count } ∷ pending len_of 0 xs
  pending-within count x xs le =
      ap (λ b. cond b (pending len_of (count - suc (len_of x)) xs) (record { request = x; done = count } ∷ pending len_of 0 xs)) (le-ltb (len_of x) count le)

  pub complete-past : (count : ℕ) (x : X) (xs : List X) → len_of x < count → complete len_of count (x ∷ xs) ≡ x ∷ complete len_of (count - suc (len_of x)) xs
  complete-past count x xs lt = ap (λ b. cond b (x ∷ complete len_of (count - suc (len_of x)) xs) []) (lt-ltb (len_of x) count lt)

  pub complete-within : (count : ℕ) (x : X) (xs : List X) → count ≤ len_of x → complete len_of count (x ∷ xs) ≡ []
  complete-within count x xs le = ap (λ b. cond b (x ∷ complete len_of (count - suc (len_of x)) xs) []) (le-ltb (len_of x) count le)

  pub advanced-last : (w : Waiting X) (ws : List (Waiting X)) → w.done ≡ len_of w.request → advanced len_of (w ∷ ws) ≡ ws
  advanced-last w ws e = ap (λ b. cond b ws (record { request = w.request; done = suc w.done } ∷ ws)) (eq-eqb w.done (len_of w.request) e)

  pub advanced-more : (w : Waiting X) (ws : List (Waiting X)) → w.done ≢ len_of w.request → advanced len_of (w ∷ ws) ≡ record { request = w.request; done = suc w.done } ∷ ws
  advanced-more w ws ne = ap (λ b. cond b ws (record { request = w.request; done = suc w.done } ∷ ws)) (ne_eqb w.done (len_of w.request) ne)

  -- one more beat
  pub pending-beat : (count : ℕ) (xs : List X) → pending len_of (suc count) xs ≡ advanced len_of (pending len_of count xs)
  pending-beat count [] = refl
  pending-beat count (x ∷ xs) = elim (cases_lt (len_of x) count) [
    | inl lt ↦
        pending-past (suc count) x xs (omega arith)
        ∙ ap (λ n. pending len_of n xs) (omega arith)
        ∙ pending-beat (count - suc (len_of x)) xs
        ∙ ap (advanced len_of) (sym (pending-past count x xs lt))
    | inr ge ↦ elim (cases_eq count (len_of x)) [
      | inl same ↦
          pending-past (suc count) x xs (omega arith)
          ∙ ap (λ n. pending len_of n xs) (omega arith)
          ∙ sym (advanced-last (record { request = x; done = count }) (pending len_of 0 xs) same)
          ∙ ap (advanced len_of) (sym (pending-within count x xs ge))
      | inr ne ↦
          let more : suc count ≤ len_of x = lt_from count (len_of x) ge ne in
          pending-within (suc count) x xs more
          ∙ sym (advanced-more (record { request = x; done = count }) (pending len_of 0 xs) ne)
          ∙ ap (advanced len_of) (sym (pending-within count x xs ge))
    ]
  ]
    where
      lt_from : (m n : ℕ) → m ≤ n → (m ≡ n → ⊥) → suc m ≤ n
      lt_from m n le ne = elim (cases_lt m n) [ inl lt ↦ lt | inr ge ↦ absurd (ne (omega arith)) ]

  -- one more request
  pub pending-request : (count : ℕ) (xs : List X) (x : X) → count ≤ beats_by len_of xs → pending len_of count (xs ++ x ∷ []) ≡ pending len_of count xs ++ fresh x ∷ []
  pending-request count [] x le =
      pending-within count x [] (omega arith) ∙ ap (λ n. record { request = x; done = n } ∷ []) (omega arith)
  pending-request count (y ∷ xs) x le = elim (cases_lt (len_of y) count) [
    | inl lt ↦
        pending-past count y (xs ++ x ∷ []) lt
        ∙ pending-request (count - suc (len_of y)) xs x (omega arith)
        ∙ ap (λ t. t ++ fresh x ∷ []) (sym (pending-past count y xs lt))
    | inr ge ↦
        pending-within count y (xs ++ x ∷ []) ge
        ∙ ap (λ t. record { request = y; done = count } ∷ t) (pending-request 0 xs x (omega arith))
        ∙ ap (λ t. t ++ fresh x ∷ []) (sym (pending-within count y xs ge))
  ]

  -- no beat has come
  pub pending-zero : (xs : List X) → pending len_of 0 xs ≡ map fresh xs
  pending-zero [] = refl
  pending-zero (x ∷ xs) = pending-within 0 x xs (omega arith) ∙ ap (λ t. fresh x ∷ t) (pending-zero xs)

  requests-fresh : (xs : List X) → map waiting_request (map fresh xs) ≡ xs
  requests-fresh [] = refl
  requests-fresh (x ∷ xs) = ap (λ t. x ∷ t) (requests-fresh xs)

  -- the complete requests stand before the pending ones
  pub complete-pending : (count : ℕ) (xs : List X) → complete len_of count xs ++ map waiting_request (pending len_of count xs) ≡ xs
  complete-pending count [] = refl
  complete-pending count (x ∷ xs) = elim (cases_lt (len_of x) count) [
    | inl lt ↦
        ap (λ t. t ++ map waiting_request (pending len_of count (x ∷ xs))) (complete-past count x xs lt)
        ∙ ap (λ t. x ∷ complete len_of (count - suc (len_of x)) xs ++ map waiting_request t) (pending-past count x xs lt)
        ∙ ap (λ t. x ∷ t) (complete-pending (count - suc (len_of x)) xs)
    | inr ge ↦
        ap (λ t. t ++ map waiting_request (pending len_of count (x ∷ xs))) (complete-within count x xs ge)
        ∙ ap (λ t. map waiting_request t) (pending-within count x xs ge)
        ∙ ap (λ t. x ∷ map waiting_request t) (pending-zero xs)
        ∙ ap (λ t. x ∷ t) (requests-fresh xs)
  ]

  -- the complete requests have no more beats than have come
  pub complete-beats : (count : ℕ) (xs : List X) → beats_by len_of (complete len_of count xs) ≤ count
  complete-beats count [] = omega arith
  complete-beats count (x ∷ xs) = elim (cases_lt (len_of x) count) [
    | inl lt ↦ omega (arith, ap (beats_by len_of) (complete-past count x xs lt), complete-beats (count - suc (len_of x)) xs)
    | inr ge ↦ omega (arith, ap (beats_by len_of) (complete-within count x xs ge))
  ]

  -- all beats have come
  pub pending-none : (count : ℕ) (xs : List X) → beats_by len_of xs ≤ count → pending len_of count xs ≡ []
  pending-none count [] le = refl
  pending-none count (x ∷ xs) le = pending-past count x xs (omega arith) ∙ pending-none (count - suc (len_of x)) xs (omega arith)

  pub none-pending : (count : ℕ) (xs : List X) → pending len_of count xs ≡ [] → beats_by len_of xs ≤ count
  none-pending count [] none = omega arith
  none-pending count (x ∷ xs) none = elim (cases_lt (len_of x) count) [
    | inl lt ↦ omega (arith, none-pending (count - suc (len_of x)) xs (sym (pending-past count x xs lt) ∙ none))
    | inr ge ↦ absurd (never (sym (pending-within count x xs ge) ∙ none))
  ]
    where
      never : record { request = x; done = count } ∷ pending len_of 0 xs ≡ [] → ⊥
      never e = cc

  -- a request that lacks a beat is pending
  pub pending-has : (count : ℕ) (before : List X) (x : X) (after : List X) → count < beats_by len_of before + suc (len_of x) →
      (front : List (Waiting X)) × (done : ℕ) × (back : List (Waiting X)) × (pending len_of count (before ++ x ∷ after) ≡ front ++ record { request = x; done = done } ∷ back)
  pending-has count [] x after lt = ([], count, pending len_of 0 after, pending-within count x after (omega arith))
  pending-has count (y ∷ before) x after lt = elim (cases_lt (len_of y) count) [
    | inl past ↦
        let rest : (front : List (Waiting X)) × (done : ℕ) × (back : List (Waiting X)) × (pending len_of (count - suc (len_of y)) (before ++ x ∷ after) ≡ front ++ record { request = x; done = done } ∷ back) =
        pending-has (count - suc (len_of y)) before x after (omega arith)
        in (rest.0, rest.1, rest.2, pending-past count y (before ++ x ∷ after) past ∙ rest.3)
    | inr within ↦
        let rest : (front : List (Waiting X)) × (done : ℕ) × (back : List (Waiting X)) × (pending len_of 0 (before ++ x ∷ after) ≡ front ++ record { request = x; done = done } ∷ back) =
        pending-has 0 before x after (omega arith)
        in (record { request = y; done = count } ∷ rest.0, rest.1, rest.2, pending-within count y (before ++ x ∷ after) within ∙ ap (λ t. record { request = y; done = count } ∷ t) rest.3)
  ]

  -- where the first pending request stands
  pub pending-place : (count : ℕ) (xs : List X) (w : Waiting X) (others : List (Waiting X)) → pending len_of count xs ≡ w ∷ others →
      (before : List X) × (after : List X) × (xs ≡ before ++ w.request ∷ after) × (beats_by len_of before + w.done ≡ count) × (w.done ≤ len_of w.request)
  pending-place count [] w others e = absurd (cc)
  pending-place count (x ∷ xs) w others e = elim (cases_lt (len_of x) count) [
    | inl lt ↦
        let rest : (before : List X) × (after : List X) × (xs ≡ before ++ w.request ∷ after) × (beats_by len_of before + w.done ≡ count - suc (len_of x)) × (w.done ≤ len_of w.request) =
        pending-place (count - suc (len_of x)) xs w others (sym (pending-past count x xs lt) ∙ e)
        in (x ∷ rest.0, rest.1, ap (λ t. x ∷ t) rest.2, omega (arith, rest.3), rest.4)
    | inr ge ↦
        let both : record { request = x; done = count } ∷ pending len_of 0 xs ≡ w ∷ others = sym (pending-within count x xs ge) ∙ e in
        let first : record { request = x; done = count } ≡ w = cc in
        let request : x ≡ w.request = ap (λ v. v.request) first in
        let done : count ≡ w.done = ap (λ v. v.done) first in
        ([], xs, ap (λ y. y ∷ xs) request, omega arith, subst (λ (v : Waiting X). v.done ≤ len_of v.request) first ge)
  ]
