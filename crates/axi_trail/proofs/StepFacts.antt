-- What one more beat of data or of an answer does.
use Rattle.std.proofs.Common.{◌≡◌, ℕ, ◌-◌, ◌<◌, ◌≤◌, ◌==◌, suc, Bool, true, false, cond, List, [], ◌∷◌, ◌++◌, length, map, take, drop, refl, sym, ◌∙◌, ap, subst, inl, inr, arith, append_assoc, append-nil, length-append, eq-eqb, filter}
use Rattle.std.specs.Prelude.{flat_map}
use Rattle.std.proofs.lemmas.Bool.{ne_eqb, cases_eq, cases_lt, cases_Bool}
use Rattle.std.proofs.lemmas.List.{length-map, map-append, drop_at, take_at}
use Rattle.axi_trail.specs.Waiting.{Waiting, fresh, waiting_shown, pending, advanced, answered_once, answered_by, held}
use Rattle.axi_trail.specs.Words.{Mark, Asked, Reply, InOrderOfId, owed_marks, next_mark, next_reply, held_asked, pending_asked, burst_marks, marks, beats_due, mark_of_reply, number_of_mark, number_of_asked, number_of_reply, number_of_waiting, id_of_waiting, id_of_asked, id_of_reply, len_of_asked}
use Rattle.axi_trail.specs.WordLaws.{NextBeat, NextBeatOfSelected, BeatKeepsOrder, NextAnswer, AnswerKeepsOrder, LaterRequestsAreHeld, HeldOfSelected}
use Rattle.axi_trail.proofs.FilterFacts.{length-marks}
use Rattle.axi_trail.proofs.HeldFacts.{once-own, once-other, held-answer, held-request, held-of_key, count_of-replies}
use Rattle.axi_trail.proofs.MarkFacts.{pending_owe_the_rest, pending_of_selected}
use Rattle.axi_trail.proofs.SlackFacts.{in_order_goes_up}
use Rattle.axi_trail.proofs.WaitingFacts.{pending-past, pending-within, pending-none, none-pending, advanced-last, advanced-more}
use Rattle.plain_lists.specs.Keys.{of_key, count_of, selected}
use Rattle.plain_lists.specs.Prefixes.{Agree, IsPrefix}
use Rattle.plain_lists.proofs.KeyLemmas.{filter_cons, filter_skip, filter_map, filter-push, filter-push_skip, of_key-cons, of_key-skip, of_key-push, of_key-push_other}
use Rattle.plain_lists.proofs.PrefixLemmas.{agree_prefix, prefix_length, prefix_append, prefix_itself}

-- a pending request lacks its last beat at least
pub pending-lacks : {X : Type 0} (len_of : X → ℕ) (count : ℕ) (xs : List X) (w : Waiting X) (others : List (Waiting X)) → pending len_of count xs ≡ w ∷ others → w.done ≤ len_of w.request
pending-lacks len_of count [] w others e = absurd (cc)
pending-lacks {X} len_of count (x ∷ xs) w others e = elim (cases_lt (len_of x) count) [
  | inl lt ↦ pending-lacks len_of (count - suc (len_of x)) xs w others (sym (pending-past len_of count x xs lt) ∙ e)
  | inr ge ↦
      let both : record { request = x; done = count } ∷ pending len_of 0 xs ≡ w ∷ others = sym (pending-within len_of count x xs ge) ∙ e in
      let first : record { request = x; done = count } ≡ w = cc in
      subst (λ (v : Waiting X). v.done ≤ len_of v.request) first ge
]

more_left : (m n : ℕ) → m ≤ n → (m ≡ n → ⊥) → n - m ≡ suc (n - suc m)
more_left m n le ne = elim (cases_lt m n) [ inl lt ↦ omega arith | inr ge ↦ absurd (ne (omega arith)) ]

-- the marks that a request lacks begin with its next one
lacks_next : (number len done : ℕ) → done ≤ len → (rest : List Mark) × (burst_marks number (len - done) ≡ record { number = number; last = done == len } ∷ rest)
lacks_next number len done le = elim (cases_eq done len) [
  | inl same ↦
      let none : len - done ≡ 0 = omega arith in
      ([], ap (burst_marks number) none ∙ ap (λ b. record { number = number; last = b } ∷ []) (sym (eq-eqb done len same)))
  | inr ne ↦
      let more : len - done ≡ suc (len - suc done) = more_left done len le ne in
      (burst_marks number (len - suc done), ap (burst_marks number) more ∙ ap (λ b. record { number = number; last = b } ∷ burst_marks number (len - suc done)) (sym (ne_eqb done len ne)))
]

-- the marks that are left begin with that of the first pending request
rest_begins : (asked : List Asked) (count : ℕ) (w : Waiting Asked) (others : List (Waiting Asked)) → pending_asked count asked ≡ w ∷ others → (rest : List Mark) × (drop count (marks asked) ≡ next_mark w ∷ rest)
rest_begins asked count w others e =
    let own : (rest : List Mark) × (burst_marks w.request.number (w.request.len - w.done) ≡ next_mark w ∷ rest) = lacks_next w.request.number w.request.len w.done (pending-lacks len_of_asked count asked w others e) in
    (own.0 ++ flat_map owed_marks others, pending_owe_the_rest count asked ∙ ap (flat_map owed_marks) e ∙ ap (λ t. t ++ flat_map owed_marks others) own.1)

-- a beat that goes on in order is the next one
next_of : (asked : List Asked) (passed : List Mark) (m : Mark) (count : ℕ) (w : Waiting Asked) (others : List (Waiting Asked)) → IsPrefix (passed ++ m ∷ []) (marks asked) → length passed ≡ count →
    pending_asked count asked ≡ w ∷ others → m ≡ next_mark w
next_of asked passed m count w others p counted e =
    let begins : (rest : List Mark) × (drop count (marks asked) ≡ next_mark w ∷ rest) = rest_begins asked count w others e in
    let left : drop count (marks asked) ≡ m ∷ p.rest = ap (drop count) (p.whole ∙ append_assoc passed (m ∷ []) p.rest) ∙ drop_at passed (m ∷ p.rest) count counted in
    let both : m ∷ p.rest ≡ next_mark w ∷ begins.0 = sym left ∙ begins.1 in
    cc

nothing : (v : Waiting Asked) (vs : List (Waiting Asked)) → v ∷ vs ≡ [] → ⊥
nothing v vs none = cc

-- where a request is pending, not all beats have come
pub not_all : (asked : List Asked) (count : ℕ) (w : Waiting Asked) (others : List (Waiting Asked)) → pending_asked count asked ≡ w ∷ others → count < length (marks asked)
not_all asked count w others e = elim (cases_lt count (length (marks asked))) [
  | inl lt ↦ lt
  | inr ge ↦ absurd (nothing w others (sym e ∙ pending-none len_of_asked count asked (omega (arith, length-marks asked))))
]

next_agreed : (asked : List Asked) (passed : List Mark) (m : Mark) (w : Waiting Asked) (others : List (Waiting Asked)) → Agree (passed ++ m ∷ []) (marks asked) →
    pending_asked (length passed) asked ≡ w ∷ others → m ≡ next_mark w
next_agreed asked passed m w others agree e =
    next_of asked passed m (length passed) w others
    (agree_prefix (passed ++ m ∷ []) (marks asked) agree (omega (arith, length-append passed (m ∷ []), not_all asked (length passed) w others e))) refl e

pub next_beat : NextBeat
next_beat asked passed m w others agree e = next_agreed asked passed m w others agree e

-- and the next one goes on in order
pub next_goes_on : (asked : List Asked) (passed : List Mark) (count : ℕ) (w : Waiting Asked) (others : List (Waiting Asked)) → IsPrefix passed (marks asked) → length passed ≡ count →
    pending_asked count asked ≡ w ∷ others → IsPrefix (passed ++ next_mark w ∷ []) (marks asked)
next_goes_on asked passed count w others p counted e =
    let begins : (rest : List Mark) × (drop count (marks asked) ≡ next_mark w ∷ rest) = rest_begins asked count w others e in
    let left : drop count (marks asked) ≡ p.rest = ap (drop count) p.whole ∙ drop_at passed p.rest count counted in
    record { rest = begins.0; whole = p.whole ∙ ap (λ t. passed ++ t) (sym left ∙ begins.1) ∙ sym (append_assoc passed (next_mark w ∷ []) begins.0) }

pub beat_keeps_order : BeatKeepsOrder
beat_keeps_order asked passed w others p e = next_goes_on asked passed (length passed) w others p refl e

pub next_beat_of_selected : NextBeatOfSelected
next_beat_of_selected selects asked passed m w others p e chosen agree =
    let passed_marks : take (length passed) (marks asked) ≡ passed = ap (take (length passed)) p.whole ∙ take_at passed p.rest (length passed) refl in
    let own : pending_asked (length (selected number_of_mark selects passed)) (selected number_of_asked selects asked) ≡ w ∷ selected number_of_waiting selects others =
    ap (λ t. pending_asked (length (selected number_of_mark selects t)) (selected number_of_asked selects asked)) (sym passed_marks)
    ∙ sym (pending_of_selected selects (length passed) asked)
    ∙ ap (selected number_of_waiting selects) e
    ∙ filter_cons (λ v. selects (number_of_waiting v)) w others chosen in
    next_agreed (selected number_of_asked selects asked) (selected number_of_mark selects passed) m w (selected number_of_waiting selects others) agree own

-- the answers of an ID, and what is held of it
pub own_pending : (asked : List Asked) (replies : List Reply) (id : ℕ) →
    of_key id_of_waiting id (held_asked asked replies) ≡ pending_asked (length (map mark_of_reply (of_key id_of_reply id replies))) (of_key id_of_asked id asked)
own_pending asked replies id =
    held-of_key len_of_asked id_of_asked asked (map id_of_reply replies) id
    ∙ ap (λ n. pending_asked n (of_key id_of_asked id asked)) (count_of-replies id replies ∙ sym (length-map (of_key id_of_reply id replies) mark_of_reply))

-- the requests of an ID have the ID
pub first_has_id : (ws : List (Waiting Asked)) (id : ℕ) (w : Waiting Asked) (others : List (Waiting Asked)) → of_key id_of_waiting id ws ≡ w ∷ others → w.request.id ≡ id
first_has_id [] id w others e = absurd (cc)
first_has_id (v ∷ ws) id w others e = elim (cases_eq v.request.id id) [
  | inl own ↦
      let both : v ∷ of_key id_of_waiting id ws ≡ w ∷ others = sym (of_key-cons id_of_waiting id v ws own) ∙ e in
      let first : v ≡ w = cc in
      subst (λ (u : Waiting Asked). u.request.id ≡ id) first own
  | inr other ↦ first_has_id ws id w others (sym (of_key-skip id_of_waiting id v ws other) ∙ e)
]

reply_is : (p q : Reply) → p.number ≡ q.number → p.id ≡ q.id → p.last ≡ q.last → p ≡ q
reply_is p q a b c = ap (λ n. record { number = n; id = p.id; last = p.last }) a ∙ ap (λ n. record { number = q.number; id = n; last = p.last }) b ∙ ap (λ n. record { number = q.number; id = q.id; last = n }) c

module _ (asked : List Asked) (replies : List Reply) (p : Reply) where
  still_pending : (ms : List Mark) (count : ℕ) → IsPrefix (ms ++ mark_of_reply p ∷ []) (marks (of_key id_of_asked p.id asked)) → length ms ≡ count → pending_asked count (of_key id_of_asked p.id asked) ≡ [] → ⊥
  still_pending ms count front counted none =
      let all : beats_due (of_key id_of_asked p.id asked) ≤ count = none-pending len_of_asked count (of_key id_of_asked p.id asked) none in
      omega (arith, prefix_length front, length-append ms (mark_of_reply p ∷ []), length-marks (of_key id_of_asked p.id asked))

  next_answer-of : (ws : List (Waiting Asked)) → of_key id_of_waiting p.id (held_asked asked replies) ≡ ws → IsPrefix (map mark_of_reply (of_key id_of_reply p.id replies) ++ mark_of_reply p ∷ []) (marks (of_key id_of_asked p.id asked)) →
      (w : Waiting Asked) × (others : List (Waiting Asked)) × (of_key id_of_waiting p.id (held_asked asked replies) ≡ w ∷ others) × (p ≡ next_reply w)
  next_answer-of [] e front = absurd (still_pending (map mark_of_reply (of_key id_of_reply p.id replies)) (length (map mark_of_reply (of_key id_of_reply p.id replies))) front refl (sym (own_pending asked replies p.id) ∙ e))
  next_answer-of (w ∷ others) e front =
      let same : mark_of_reply p ≡ next_mark w =
      next_of (of_key id_of_asked p.id asked) (map mark_of_reply (of_key id_of_reply p.id replies)) (mark_of_reply p) (length (map mark_of_reply (of_key id_of_reply p.id replies))) w others front refl (sym (own_pending asked replies p.id) ∙ e) in
      let mine : w.request.id ≡ p.id = first_has_id (held_asked asked replies) p.id w others e in
      (w, others, e, reply_is p (next_reply w) (ap (λ m. m.number) same) (sym mine) (ap (λ m. m.last) same))

pub next_answer : NextAnswer
next_answer asked replies p order =
    let more : map mark_of_reply (of_key id_of_reply p.id (replies ++ p ∷ [])) ≡ map mark_of_reply (of_key id_of_reply p.id replies) ++ mark_of_reply p ∷ [] =
    ap (map mark_of_reply) (of_key-push id_of_reply p.id replies p refl) ∙ map-append mark_of_reply (of_key id_of_reply p.id replies) (p ∷ []) in
    let front : IsPrefix (map mark_of_reply (of_key id_of_reply p.id replies) ++ mark_of_reply p ∷ []) (marks (of_key id_of_asked p.id asked)) = record { rest = (order p.id).rest; whole = (order p.id).whole ∙ ap (λ t. t ++ (order p.id).rest) more } in
    next_answer-of asked replies p (of_key id_of_waiting p.id (held_asked asked replies)) refl front

pub answer_keeps_order : AnswerKeepsOrder
answer_keeps_order asked replies id w others order e =
    let mine : w.request.id ≡ id = first_has_id (held_asked asked replies) id w others e in
    λ other. elim (cases_eq id other) [
      | inl same ↦ subst (λ (i : ℕ). IsPrefix (map mark_of_reply (of_key id_of_reply i (replies ++ next_reply w ∷ []))) (marks (of_key id_of_asked i asked))) same
          (let on : IsPrefix (map mark_of_reply (of_key id_of_reply id replies) ++ next_mark w ∷ []) (marks (of_key id_of_asked id asked)) =
          next_goes_on (of_key id_of_asked id asked) (map mark_of_reply (of_key id_of_reply id replies)) (length (map mark_of_reply (of_key id_of_reply id replies))) w others (order id) refl (sym (own_pending asked replies id) ∙ e) in
          let more : map mark_of_reply (of_key id_of_reply id (replies ++ next_reply w ∷ [])) ≡ map mark_of_reply (of_key id_of_reply id replies) ++ next_mark w ∷ [] =
          ap (map mark_of_reply) (of_key-push id_of_reply id replies (next_reply w) mine) ∙ map-append mark_of_reply (of_key id_of_reply id replies) (next_reply w ∷ []) in
          record { rest = on.rest; whole = on.whole ∙ ap (λ t. t ++ on.rest) (sym more) })
      | inr ne ↦ subst (λ (xs : List Reply). IsPrefix (map mark_of_reply xs) (marks (of_key id_of_asked other asked))) (sym (of_key-push_other id_of_reply other replies (next_reply w) (λ h. ne (sym mine ∙ h)))) (order other)
    ]

-- no ID has more answers than its requests ask for
pub answers_within : (asked : List Asked) (replies : List Reply) → InOrderOfId asked replies → (id : ℕ) → count_of id (map id_of_reply replies) ≤ beats_due (of_key id_of_asked id asked)
answers_within asked replies order id =
    omega (arith, count_of-replies id replies, prefix_length (order id), length-map (of_key id_of_reply id replies) mark_of_reply, length-marks (of_key id_of_asked id asked))

pub later_requests_are_held : LaterRequestsAreHeld
later_requests_are_held asked [] replies order = ap (λ t. held_asked t replies) (append-nil asked) ∙ sym (append-nil (held_asked asked replies))
later_requests_are_held asked (a ∷ more) replies order =
    ap (λ t. held_asked t replies) (sym (append_assoc asked (a ∷ []) more))
    ∙ later_requests_are_held (asked ++ a ∷ []) more replies (in_order_goes_up (prefix_append asked (a ∷ [])) (prefix_itself replies) order)
    ∙ ap (λ t. t ++ map fresh more) (held-request len_of_asked id_of_asked asked (map id_of_reply replies) a (answers_within asked replies order a.id))
    ∙ append_assoc (held_asked asked replies) (fresh a ∷ []) (map fresh more)

-- an answer to a selected request advances it among the selected ones, and one to another request none of them
module _ (test : Asked → Bool) (id : ℕ) where
  once-chosen : (ws : List (Waiting Asked)) (w : Waiting Asked) (others : List (Waiting Asked)) → of_key id_of_waiting id ws ≡ w ∷ others → test w.request ≡ true →
      filter (λ (w : Waiting Asked). test w.request) (answered_once len_of_asked id_of_asked id ws) ≡ answered_once len_of_asked id_of_asked id (filter (λ (w : Waiting Asked). test w.request) ws)
  once-chosen [] w others e passes = refl
  once-chosen (v ∷ ws) w others e passes = elim (cases_eq v.request.id id) [
    | inl own ↦
        let both : v ∷ of_key id_of_waiting id ws ≡ w ∷ others = sym (of_key-cons id_of_waiting id v ws own) ∙ e in
        let first : v ≡ w = cc in
        let keeps : test v.request ≡ true = ap (λ u. test u.request) first ∙ passes in
        ap (filter (λ (w : Waiting Asked). test w.request)) (once-own len_of_asked id_of_asked id v ws own)
        ∙ elim (cases_eq v.done v.request.len) [
          | inl last ↦ ap (filter (λ (w : Waiting Asked). test w.request)) (advanced-last len_of_asked v ws last) ∙ sym (advanced-last len_of_asked v (filter (λ (w : Waiting Asked). test w.request) ws) last)
          | inr more ↦
              ap (filter (λ (w : Waiting Asked). test w.request)) (advanced-more len_of_asked v ws more)
              ∙ filter_cons (λ (w : Waiting Asked). test w.request) (record { request = v.request; done = suc v.done }) ws keeps
              ∙ sym (advanced-more len_of_asked v (filter (λ (w : Waiting Asked). test w.request) ws) more)
        ]
        ∙ sym (ap (answered_once len_of_asked id_of_asked id) (filter_cons (λ (w : Waiting Asked). test w.request) v ws keeps) ∙ once-own len_of_asked id_of_asked id v (filter (λ (w : Waiting Asked). test w.request) ws) own)
    | inr other ↦
        let rest : filter (λ (w : Waiting Asked). test w.request) (answered_once len_of_asked id_of_asked id ws) ≡ answered_once len_of_asked id_of_asked id (filter (λ (w : Waiting Asked). test w.request) ws) =
        once-chosen ws w others (sym (of_key-skip id_of_waiting id v ws other) ∙ e) passes in
        ap (filter (λ (w : Waiting Asked). test w.request)) (once-other len_of_asked id_of_asked id v ws other)
        ∙ elim (cases_Bool (test v.request)) [
          | inl keeps ↦
              filter_cons (λ (w : Waiting Asked). test w.request) v (answered_once len_of_asked id_of_asked id ws) keeps
              ∙ ap (λ t. v ∷ t) rest
              ∙ sym (ap (answered_once len_of_asked id_of_asked id) (filter_cons (λ (w : Waiting Asked). test w.request) v ws keeps) ∙ once-other len_of_asked id_of_asked id v (filter (λ (w : Waiting Asked). test w.request) ws) other)
          | inr drops ↦
              filter_skip (λ (w : Waiting Asked). test w.request) v (answered_once len_of_asked id_of_asked id ws) drops
              ∙ rest
              ∙ sym (ap (answered_once len_of_asked id_of_asked id) (filter_skip (λ (w : Waiting Asked). test w.request) v ws drops))
        ]
  ]

  once-left_out : (ws : List (Waiting Asked)) (w : Waiting Asked) (others : List (Waiting Asked)) → of_key id_of_waiting id ws ≡ w ∷ others → test w.request ≡ false →
      filter (λ (w : Waiting Asked). test w.request) (answered_once len_of_asked id_of_asked id ws) ≡ filter (λ (w : Waiting Asked). test w.request) ws
  once-left_out [] w others e drops = refl
  once-left_out (v ∷ ws) w others e drops = elim (cases_eq v.request.id id) [
    | inl own ↦
        let both : v ∷ of_key id_of_waiting id ws ≡ w ∷ others = sym (of_key-cons id_of_waiting id v ws own) ∙ e in
        let first : v ≡ w = cc in
        let leaves : test v.request ≡ false = ap (λ u. test u.request) first ∙ drops in
        ap (filter (λ (w : Waiting Asked). test w.request)) (once-own len_of_asked id_of_asked id v ws own)
        ∙ elim (cases_eq v.done v.request.len) [
          | inl last ↦ ap (filter (λ (w : Waiting Asked). test w.request)) (advanced-last len_of_asked v ws last)
          | inr more ↦
              ap (filter (λ (w : Waiting Asked). test w.request)) (advanced-more len_of_asked v ws more)
              ∙ filter_skip (λ (w : Waiting Asked). test w.request) (record { request = v.request; done = suc v.done }) ws leaves
        ]
        ∙ sym (filter_skip (λ (w : Waiting Asked). test w.request) v ws leaves)
    | inr other ↦
        let rest : filter (λ (w : Waiting Asked). test w.request) (answered_once len_of_asked id_of_asked id ws) ≡ filter (λ (w : Waiting Asked). test w.request) ws =
        once-left_out ws w others (sym (of_key-skip id_of_waiting id v ws other) ∙ e) drops in
        ap (filter (λ (w : Waiting Asked). test w.request)) (once-other len_of_asked id_of_asked id v ws other)
        ∙ ap (λ t. cond (test v.request) (v ∷ t) t) rest
  ]

module _ (selects : ℕ → Bool) (asked : List Asked) where
  held_selected-step : (replies : List Reply) (p : Reply) → InOrderOfId asked (replies ++ p ∷ []) →
      selected number_of_waiting selects (held_asked asked replies) ≡ held_asked (selected number_of_asked selects asked) (selected number_of_reply selects replies) →
      selected number_of_waiting selects (held_asked asked (replies ++ p ∷ [])) ≡ held_asked (selected number_of_asked selects asked) (selected number_of_reply selects (replies ++ p ∷ []))
  held_selected-step replies p order so_far =
      let next : (w : Waiting Asked) × (others : List (Waiting Asked)) × (of_key id_of_waiting p.id (held_asked asked replies) ≡ w ∷ others) × (p ≡ next_reply w) = next_answer asked replies p order in
      let number : p.number ≡ next.0.request.number = ap (λ q. q.number) next.3 in
      let after : held_asked asked (replies ++ p ∷ []) ≡ answered_once len_of_asked id_of_asked p.id (held_asked asked replies) =
      ap (held len_of_asked id_of_asked asked) (map-append id_of_reply replies (p ∷ [])) ∙ held-answer len_of_asked id_of_asked asked (map id_of_reply replies) p.id in
      ap (selected number_of_waiting selects) after
      ∙ elim (cases_Bool (selects p.number)) [
        | inl yes' ↦
            once-chosen (λ a. selects a.number) p.id (held_asked asked replies) next.0 next.1 next.2 (ap selects (sym number) ∙ yes')
            ∙ ap (answered_once len_of_asked id_of_asked p.id) so_far
            ∙ sym (held-answer len_of_asked id_of_asked (selected number_of_asked selects asked) (map id_of_reply (selected number_of_reply selects replies)) p.id)
            ∙ ap (held len_of_asked id_of_asked (selected number_of_asked selects asked))
            (sym (ap (map id_of_reply) (filter-push (λ q. selects (number_of_reply q)) replies p yes') ∙ map-append id_of_reply (selected number_of_reply selects replies) (p ∷ [])))
        | inr no' ↦
            once-left_out (λ a. selects a.number) p.id (held_asked asked replies) next.0 next.1 next.2 (ap selects (sym number) ∙ no')
            ∙ so_far
            ∙ ap (held_asked (selected number_of_asked selects asked)) (sym (filter-push_skip (λ q. selects (number_of_reply q)) replies p no'))
      ]

  held_selected-from : (replies more : List Reply) → InOrderOfId asked (replies ++ more) →
      selected number_of_waiting selects (held_asked asked replies) ≡ held_asked (selected number_of_asked selects asked) (selected number_of_reply selects replies) →
      selected number_of_waiting selects (held_asked asked (replies ++ more)) ≡ held_asked (selected number_of_asked selects asked) (selected number_of_reply selects (replies ++ more))
  held_selected-from replies [] order so_far =
      subst (λ (ps : List Reply). selected number_of_waiting selects (held_asked asked ps) ≡ held_asked (selected number_of_asked selects asked) (selected number_of_reply selects ps)) (sym (append-nil replies)) so_far
  held_selected-from replies (p ∷ more) order so_far =
      let regrouped : InOrderOfId asked ((replies ++ p ∷ []) ++ more) = subst (λ (ps : List Reply). InOrderOfId asked ps) (sym (append_assoc replies (p ∷ []) more)) order in
      subst (λ (ps : List Reply). selected number_of_waiting selects (held_asked asked ps) ≡ held_asked (selected number_of_asked selects asked) (selected number_of_reply selects ps)) (append_assoc replies (p ∷ []) more)
      (held_selected-from (replies ++ p ∷ []) more regrouped
      (held_selected-step replies p (in_order_goes_up (prefix_itself asked) (prefix_append (replies ++ p ∷ []) more) regrouped) so_far))

pub held_of_selected : HeldOfSelected
held_of_selected selects asked replies order = held_selected-from selects asked [] replies order (filter_map (λ w. selects (number_of_waiting w)) fresh asked)

-- what is pending or held of what requests show
module _ {X Y : Type 0} (f : X → Y) (len_of : Y → ℕ) where
  pub pending-shown : (count : ℕ) (xs : List X) → pending len_of count (map f xs) ≡ map (waiting_shown f) (pending (λ x. len_of (f x)) count xs)
  pending-shown count [] = refl
  pending-shown count (x ∷ xs) = elim (cases_lt (len_of (f x)) count) [
    | inl lt ↦
        pending-past len_of count (f x) (map f xs) lt
        ∙ pending-shown (count - suc (len_of (f x))) xs
        ∙ ap (map (waiting_shown f)) (sym (pending-past (λ y. len_of (f y)) count x xs lt))
    | inr ge ↦
        pending-within len_of count (f x) (map f xs) ge
        ∙ ap (λ t. record { request = f x; done = count } ∷ t) (pending-shown 0 xs)
        ∙ ap (map (waiting_shown f)) (sym (pending-within (λ y. len_of (f y)) count x xs ge))
  ]

  advanced-shown : (ws : List (Waiting X)) → advanced len_of (map (waiting_shown f) ws) ≡ map (waiting_shown f) (advanced (λ x. len_of (f x)) ws)
  advanced-shown [] = refl
  advanced-shown (w ∷ ws) =
      let go : (b : Bool) → cond b (map (waiting_shown f) ws) (record { request = f w.request; done = suc w.done } ∷ map (waiting_shown f) ws) ≡ map (waiting_shown f) (cond b ws (record { request = w.request; done = suc w.done } ∷ ws)) =
      elim [ true ↦ refl | false ↦ refl ]
      in go (w.done == len_of (f w.request))

  module _ (id_of : Y → ℕ) where
    once-shown : (id : ℕ) (ws : List (Waiting X)) → answered_once len_of id_of id (map (waiting_shown f) ws) ≡ map (waiting_shown f) (answered_once (λ x. len_of (f x)) (λ x. id_of (f x)) id ws)
    once-shown id [] = refl
    once-shown id (w ∷ ws) =
        let go : (b : Bool) → cond b (advanced len_of (map (waiting_shown f) (w ∷ ws))) (waiting_shown f w ∷ answered_once len_of id_of id (map (waiting_shown f) ws))
        ≡ map (waiting_shown f) (cond b (advanced (λ x. len_of (f x)) (w ∷ ws)) (w ∷ answered_once (λ x. len_of (f x)) (λ x. id_of (f x)) id ws)) =
        elim [ true ↦ advanced-shown (w ∷ ws) | false ↦ ap (λ t. waiting_shown f w ∷ t) (once-shown id ws) ]
        in go (id_of (f w.request) == id)

    by-shown : (ids : List ℕ) (ws : List (Waiting X)) → answered_by len_of id_of (map (waiting_shown f) ws) ids ≡ map (waiting_shown f) (answered_by (λ x. len_of (f x)) (λ x. id_of (f x)) ws ids)
    by-shown [] ws = refl
    by-shown (id ∷ ids) ws = ap (λ t. answered_by len_of id_of t ids) (once-shown id ws) ∙ by-shown ids (answered_once (λ x. len_of (f x)) (λ x. id_of (f x)) id ws)

    fresh-shown : (xs : List X) → map fresh (map f xs) ≡ map (waiting_shown f) (map fresh xs)
    fresh-shown [] = refl
    fresh-shown (x ∷ xs) = ap (λ t. fresh (f x) ∷ t) (fresh-shown xs)

    pub held-shown : (xs : List X) (ids : List ℕ) → held len_of id_of (map f xs) ids ≡ map (waiting_shown f) (held (λ x. len_of (f x)) (λ x. id_of (f x)) xs ids)
    held-shown xs ids = ap (λ t. answered_by len_of id_of t ids) (fresh-shown xs) ∙ by-shown ids (map fresh xs)
