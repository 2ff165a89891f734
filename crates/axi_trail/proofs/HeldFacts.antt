-- Facts on requests that lack answers, where the answers of each ID come in order of its requests.
use Rattle.std.proofs.Common.{◌≡◌, ◌≢◌, ℕ, ◌+◌, ◌<◌, ◌≤◌, ◌==◌, suc, Bool, true, false, cond, List, [], ◌∷◌, ◌++◌, length, map, refl, sym, ◌∙◌, ap, subst, inl, inr, arith, append_assoc, Contains, eq-eqb}
use Rattle.std.proofs.lemmas.Bool.{ne_eqb, cases_eq, cases_lt}
use Rattle.std.proofs.lemmas.List.{length-map}
use Rattle.std.proofs.lemmas.List.Elements.{Contains-append_right}
use Rattle.axi_trail.specs.Waiting.{Waiting, fresh, beats_by, pending, advanced, answered_once, answered_by, held}
use Rattle.axi_trail.specs.Words.{Asked, Reply, beats_due, id_of_asked, len_of_asked, id_of_reply}
use Rattle.axi_trail.specs.WordLaws.{UnansweredIsHeld, NoneHeldIsAnswered}
use Rattle.axi_trail.proofs.FilterFacts.{beats_due-append}
use Rattle.axi_trail.proofs.WaitingFacts.{pending-beat, pending-zero, none-pending, pending-has, advanced-last, advanced-more}
use Rattle.plain_lists.specs.Keys.{of_key, count_of, without_oldest, left_after}
use Rattle.plain_lists.proofs.KeyLemmas.{of_key-append, of_key-cons, of_key-skip, of_key-map, of_key-push, place_in}

module _ {X : Type 0} (len_of id_of : X → ℕ) where
  abbrev id_waiting : Waiting X → ℕ
  id_waiting w = id_of w.request

  pub once-own : (id : ℕ) (w : Waiting X) (ws : List (Waiting X)) → id_of w.request ≡ id → answered_once len_of id_of id (w ∷ ws) ≡ advanced len_of (w ∷ ws)
  once-own id w ws e = ap (λ b. cond b (advanced len_of (w ∷ ws)) (w ∷ answered_once len_of id_of id ws)) (eq-eqb (id_of w.request) id e)

  pub once-other : (id : ℕ) (w : Waiting X) (ws : List (Waiting X)) → id_of w.request ≢ id → answered_once len_of id_of id (w ∷ ws) ≡ w ∷ answered_once len_of id_of id ws
  once-other id w ws ne = ap (λ b. cond b (advanced len_of (w ∷ ws)) (w ∷ answered_once len_of id_of id ws)) (ne_eqb (id_of w.request) id ne)

  -- answers come one after the other
  pub answered_by-append : (ws : List (Waiting X)) (ids more : List ℕ) → answered_by len_of id_of ws (ids ++ more) ≡ answered_by len_of id_of (answered_by len_of id_of ws ids) more
  answered_by-append ws [] more = refl
  answered_by-append ws (id ∷ ids) more = answered_by-append (answered_once len_of id_of id ws) ids more

  pub held-answer : (xs : List X) (ids : List ℕ) (id : ℕ) → held len_of id_of xs (ids ++ id ∷ []) ≡ answered_once len_of id_of id (held len_of id_of xs ids)
  held-answer xs ids id = answered_by-append (map fresh xs) ids (id ∷ [])

  -- an answer of the ID advances the first of the ID
  once-of_key : (id : ℕ) (ws : List (Waiting X)) → of_key id_waiting id (answered_once len_of id_of id ws) ≡ advanced len_of (of_key id_waiting id ws)
  once-of_key id [] = refl
  once-of_key id (w ∷ ws) = elim (cases_eq (id_of w.request) id) [
    | inr ne ↦
        ap (of_key id_waiting id) (once-other id w ws ne)
        ∙ of_key-skip id_waiting id w (answered_once len_of id_of id ws) ne
        ∙ once-of_key id ws
        ∙ ap (advanced len_of) (sym (of_key-skip id_waiting id w ws ne))
    | inl own ↦
        ap (of_key id_waiting id) (once-own id w ws own)
        ∙ elim (cases_eq w.done (len_of w.request)) [
          | inl last ↦
              ap (of_key id_waiting id) (advanced-last len_of w ws last)
              ∙ sym (advanced-last len_of w (of_key id_waiting id ws) last)
          | inr more ↦
              ap (of_key id_waiting id) (advanced-more len_of w ws more)
              ∙ of_key-cons id_waiting id (record { request = w.request; done = suc w.done }) ws own
              ∙ sym (advanced-more len_of w (of_key id_waiting id ws) more)
        ]
        ∙ ap (advanced len_of) (sym (of_key-cons id_waiting id w ws own))
  ]

  -- an answer of another ID leaves those of the ID as they are
  once-of_other : (id other : ℕ) (ws : List (Waiting X)) → other ≢ id → of_key id_waiting id (answered_once len_of id_of other ws) ≡ of_key id_waiting id ws
  once-of_other id other [] ne = refl
  once-of_other id other (w ∷ ws) ne = elim (cases_eq (id_of w.request) other) [
    | inl same ↦
        let not_mine : id_of w.request ≢ id = λ e. ne (sym same ∙ e) in
        ap (of_key id_waiting id) (once-own other w ws same)
        ∙ elim (cases_eq w.done (len_of w.request)) [
          | inl last ↦ ap (of_key id_waiting id) (advanced-last len_of w ws last)
          | inr more ↦
              ap (of_key id_waiting id) (advanced-more len_of w ws more)
              ∙ of_key-skip id_waiting id (record { request = w.request; done = suc w.done }) ws not_mine
        ]
        ∙ sym (of_key-skip id_waiting id w ws not_mine)
    | inr differ ↦
        ap (of_key id_waiting id) (once-other other w ws differ)
        ∙ elim (cases_eq (id_of w.request) id) [
          | inl mine ↦
              of_key-cons id_waiting id w (answered_once len_of id_of other ws) mine
              ∙ ap (λ t. w ∷ t) (once-of_other id other ws ne)
              ∙ sym (of_key-cons id_waiting id w ws mine)
          | inr foreign ↦
              of_key-skip id_waiting id w (answered_once len_of id_of other ws) foreign
              ∙ once-of_other id other ws ne
              ∙ sym (of_key-skip id_waiting id w ws foreign)
        ]
  ]

  of_key-answered : (id count : ℕ) (xs : List X) (ids : List ℕ) (ws : List (Waiting X)) → of_key id_waiting id ws ≡ pending len_of count xs →
      of_key id_waiting id (answered_by len_of id_of ws ids) ≡ pending len_of (count + count_of id ids) xs
  of_key-answered id count xs [] ws e = e ∙ ap (λ n. pending len_of n xs) (omega arith)
  of_key-answered id count xs (other ∷ ids) ws e = elim (cases_eq other id) [
    | inl same ↦
        let next : of_key id_waiting id (answered_once len_of id_of other ws) ≡ pending len_of (suc count) xs =
        ap (λ n. of_key id_waiting id (answered_once len_of id_of n ws)) same ∙ once-of_key id ws ∙ ap (advanced len_of) e ∙ sym (pending-beat len_of count xs) in
        of_key-answered id (suc count) xs ids (answered_once len_of id_of other ws) next
        ∙ ap (λ n. pending len_of n xs) (omega (arith, ap length (of_key-cons (λ k. k) id other ids same)))
    | inr ne ↦
        of_key-answered id count xs ids (answered_once len_of id_of other ws) (once-of_other id other ws ne ∙ e)
        ∙ ap (λ n. pending len_of (count + n) xs) (sym (ap length (of_key-skip (λ k. k) id other ids ne)))
  ]

  pub held-of_key : (xs : List X) (ids : List ℕ) (id : ℕ) → of_key id_waiting id (held len_of id_of xs ids) ≡ pending len_of (count_of id ids) (of_key id_of id xs)
  held-of_key xs ids id =
      of_key-answered id 0 (of_key id_of id xs) ids (map fresh xs) (of_key-map id_waiting fresh id xs ∙ sym (pending-zero len_of (of_key id_of id xs)))
      ∙ ap (λ n. pending len_of n (of_key id_of id xs)) (omega arith)

  advanced-push : (w : Waiting X) (ws : List (Waiting X)) (v : Waiting X) → advanced len_of ((w ∷ ws) ++ v ∷ []) ≡ advanced len_of (w ∷ ws) ++ v ∷ []
  advanced-push w ws v = elim (cases_eq w.done (len_of w.request)) [
    | inl last ↦ advanced-last len_of w (ws ++ v ∷ []) last ∙ ap (λ t. t ++ v ∷ []) (sym (advanced-last len_of w ws last))
    | inr more ↦ advanced-more len_of w (ws ++ v ∷ []) more ∙ ap (λ t. t ++ v ∷ []) (sym (advanced-more len_of w ws more))
  ]

  -- a request behind the others isn't advanced where another one is
  once-push_other : (id : ℕ) (ws : List (Waiting X)) (v : Waiting X) → id_of v.request ≢ id → answered_once len_of id_of id (ws ++ v ∷ []) ≡ answered_once len_of id_of id ws ++ v ∷ []
  once-push_other id [] v ne = once-other id v [] ne
  once-push_other id (w ∷ ws) v ne = elim (cases_eq (id_of w.request) id) [
    | inl own ↦ once-own id w (ws ++ v ∷ []) own ∙ advanced-push w ws v ∙ ap (λ t. t ++ v ∷ []) (sym (once-own id w ws own))
    | inr other ↦ once-other id w (ws ++ v ∷ []) other ∙ ap (λ t. w ∷ t) (once-push_other id ws v ne) ∙ ap (λ t. t ++ v ∷ []) (sym (once-other id w ws other))
  ]

  once-push : (id : ℕ) (ws : List (Waiting X)) (v : Waiting X) → of_key id_waiting id ws ≢ [] → answered_once len_of id_of id (ws ++ v ∷ []) ≡ answered_once len_of id_of id ws ++ v ∷ []
  once-push id [] v some = absurd (some refl)
  once-push id (w ∷ ws) v some = elim (cases_eq (id_of w.request) id) [
    | inl own ↦ once-own id w (ws ++ v ∷ []) own ∙ advanced-push w ws v ∙ ap (λ t. t ++ v ∷ []) (sym (once-own id w ws own))
    | inr other ↦
        once-other id w (ws ++ v ∷ []) other
        ∙ ap (λ t. w ∷ t) (once-push id ws v (λ none. some (of_key-skip id_waiting id w ws other ∙ none)))
        ∙ ap (λ t. t ++ v ∷ []) (sym (once-other id w ws other))
  ]

  answered_by-push : (count : ℕ) (xs : List X) (ids : List ℕ) (ws : List (Waiting X)) (v : Waiting X) → of_key id_waiting (id_of v.request) ws ≡ pending len_of count xs →
      count + count_of (id_of v.request) ids ≤ beats_by len_of xs → answered_by len_of id_of (ws ++ v ∷ []) ids ≡ answered_by len_of id_of ws ids ++ v ∷ []
  answered_by-push count xs [] ws v e le = refl
  answered_by-push count xs (id ∷ ids) ws v e le = elim (cases_eq id (id_of v.request)) [
    | inr ne ↦
        let fewer : count_of (id_of v.request) (id ∷ ids) ≡ count_of (id_of v.request) ids = ap length (of_key-skip (λ k. k) (id_of v.request) id ids ne) in
        ap (λ t. answered_by len_of id_of t ids) (once-push_other id ws v (λ h. ne (sym h)))
        ∙ answered_by-push count xs ids (answered_once len_of id_of id ws) v (once-of_other (id_of v.request) id ws ne ∙ e) (omega arith)
    | inl same ↦
        let more : count_of (id_of v.request) (id ∷ ids) ≡ suc (count_of (id_of v.request) ids) = ap length (of_key-cons (λ k. k) (id_of v.request) id ids same) in
        let some : of_key id_waiting id ws ≢ [] = λ none.
        let all : beats_by len_of xs ≤ count = none-pending len_of count xs (sym e ∙ sym (ap (λ n. of_key id_waiting n ws) same) ∙ none) in
        absurd (omega arith) in
        let next : of_key id_waiting (id_of v.request) (answered_once len_of id_of id ws) ≡ pending len_of (suc count) xs =
        ap (λ n. of_key id_waiting (id_of v.request) (answered_once len_of id_of n ws)) same ∙ once-of_key (id_of v.request) ws ∙ ap (advanced len_of) e ∙ sym (pending-beat len_of count xs) in
        ap (λ t. answered_by len_of id_of t ids) (once-push id ws v some)
        ∙ answered_by-push (suc count) xs ids (answered_once len_of id_of id ws) v next (omega arith)
  ]

  map-fresh-append : (xs ys : List X) → map fresh (xs ++ ys) ≡ map fresh xs ++ map fresh ys
  map-fresh-append [] ys = refl
  map-fresh-append (x ∷ xs) ys = ap (λ t. fresh x ∷ t) (map-fresh-append xs ys)

  pub held-request : (xs : List X) (ids : List ℕ) (x : X) → count_of (id_of x) ids ≤ beats_by len_of (of_key id_of (id_of x) xs) → held len_of id_of (xs ++ x ∷ []) ids ≡ held len_of id_of xs ids ++ fresh x ∷ []
  held-request xs ids x le =
      ap (λ t. answered_by len_of id_of t ids) (map-fresh-append xs (x ∷ []))
      ∙ answered_by-push 0 (of_key id_of (id_of x) xs) ids (map fresh xs) (fresh x) (of_key-map id_waiting fresh (id_of x) xs ∙ sym (pending-zero len_of (of_key id_of (id_of x) xs))) (omega arith)

-- where each request has one answer
once-single : {X : Type 0} (id_of : X → ℕ) (id : ℕ) (xs : List X) → answered_once (λ x. 0) id_of id (map fresh xs) ≡ map fresh (without_oldest id_of id xs)
once-single id_of id [] = refl
once-single id_of id (x ∷ xs) =
    let go : (b : Bool) → cond b (map fresh xs) (fresh x ∷ answered_once (λ x. 0) id_of id (map fresh xs)) ≡ map fresh (cond b xs (x ∷ without_oldest id_of id xs)) =
    elim [ true ↦ refl | false ↦ ap (λ t. fresh x ∷ t) (once-single id_of id xs) ]
    in go (id_of x == id)

pub held-singles : {X : Type 0} (id_of : X → ℕ) (xs : List X) (ids : List ℕ) → held (λ x. 0) id_of xs ids ≡ map fresh (left_after id_of xs ids)
held-singles id_of xs [] = refl
held-singles id_of xs (id ∷ ids) = ap (λ t. answered_by (λ x. 0) id_of t ids) (once-single id_of id xs) ∙ held-singles id_of (without_oldest id_of id xs) ids

stands : {X : Type 0} (xs left : List X) (x : X) (right : List X) → xs ≡ left ++ x ∷ right → Contains xs x
stands {X} xs left x right e = subst (λ (ys : List X). Contains ys x) (sym e) (Contains-append_right left (x ∷ right) x (0, omega arith, refl))

-- the answers of an ID, counted by their IDs
pub count_of-replies : (id : ℕ) (replies : List Reply) → count_of id (map id_of_reply replies) ≡ length (of_key id_of_reply id replies)
count_of-replies id replies = ap length (of_key-map (λ k. k) id_of_reply id replies) ∙ length-map (of_key id_of_reply id replies) id_of_reply

-- what is pending of the requests of an ID is held
pending_is_held : (asked : List Asked) (ids : List ℕ) (id : ℕ) (front : List (Waiting Asked)) (w : Waiting Asked) (back : List (Waiting Asked)) →
    pending len_of_asked (count_of id ids) (of_key id_of_asked id asked) ≡ front ++ w ∷ back → Contains (held len_of_asked id_of_asked asked ids) w
pending_is_held asked ids id front w back e =
    let found = place_in (λ (v : Waiting Asked). v.request.id) id (held len_of_asked id_of_asked asked ids) front w back (held-of_key len_of_asked id_of_asked asked ids id ∙ e) in
    stands (held len_of_asked id_of_asked asked ids) found.0 w found.1 found.2

waits : (asked : List Asked) (ids : List ℕ) (before : List Asked) (a : Asked) (after : List Asked) → of_key id_of_asked a.id asked ≡ of_key id_of_asked a.id before ++ a ∷ of_key id_of_asked a.id after →
    (front : List (Waiting Asked)) × (done : ℕ) × (back : List (Waiting Asked)) × (pending len_of_asked (count_of a.id ids) (of_key id_of_asked a.id before ++ a ∷ of_key id_of_asked a.id after) ≡ front ++ record { request = a; done = done } ∷ back) →
    (done : ℕ) × Contains (held len_of_asked id_of_asked asked ids) (record { request = a; done = done })
waits asked ids before a after own (front, done, back, e) =
    (done, pending_is_held asked ids a.id front (record { request = a; done = done }) back (ap (pending len_of_asked (count_of a.id ids)) own ∙ e))

pub unanswered_is_held : UnansweredIsHeld
unanswered_is_held asked replies before a after place held_up =
    let own : of_key id_of_asked a.id asked ≡ of_key id_of_asked a.id before ++ a ∷ of_key id_of_asked a.id after =
    ap (of_key id_of_asked a.id) place ∙ of_key-append id_of_asked a.id before (a ∷ after) ∙ ap (λ t. of_key id_of_asked a.id before ++ t) (of_key-cons id_of_asked a.id a after refl) in
    let up_to : beats_due (of_key id_of_asked a.id (before ++ a ∷ [])) ≡ beats_due (of_key id_of_asked a.id before) + suc a.len =
    ap beats_due (of_key-push id_of_asked a.id before a refl) ∙ beats_due-append (of_key id_of_asked a.id before) (a ∷ []) ∙ omega arith in
    let few : count_of a.id (map id_of_reply replies) < beats_due (of_key id_of_asked a.id before) + suc a.len = elim (cases_lt (count_of a.id (map id_of_reply replies)) (beats_due (of_key id_of_asked a.id before) + suc a.len)) [
      | inl lt ↦ lt
      | inr ge ↦ absurd (held_up (omega (arith, count_of-replies a.id replies)))
    ] in
    waits asked (map id_of_reply replies) before a after own (pending-has len_of_asked (count_of a.id (map id_of_reply replies)) (of_key id_of_asked a.id before) a (of_key id_of_asked a.id after) few)

pub none_held_is_answered : NoneHeldIsAnswered
none_held_is_answered asked replies before a after place none =
    let all : beats_due (of_key id_of_asked a.id asked) ≤ count_of a.id (map id_of_reply replies) =
    none-pending len_of_asked (count_of a.id (map id_of_reply replies)) (of_key id_of_asked a.id asked) (sym (held-of_key len_of_asked id_of_asked asked (map id_of_reply replies) a.id) ∙ none) in
    let whole : beats_due (of_key id_of_asked a.id asked) ≡ beats_due (of_key id_of_asked a.id (before ++ a ∷ [])) + beats_due (of_key id_of_asked a.id after) =
    ap beats_due (ap (of_key id_of_asked a.id) (place ∙ sym (append_assoc before (a ∷ []) after)) ∙ of_key-append id_of_asked a.id (before ++ a ∷ []) after)
    ∙ beats_due-append (of_key id_of_asked a.id (before ++ a ∷ [])) (of_key id_of_asked a.id after) in
    omega (arith, count_of-replies a.id replies)
