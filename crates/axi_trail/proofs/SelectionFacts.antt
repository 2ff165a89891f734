-- Selected transactions: their answers, their data, and which request lacks data.
use Rattle.std.proofs.Common.{◌≡◌, ℕ, ◌+◌, ◌-◌, ◌≤◌, ◌==◌, zero, suc, Bool, true, List, [], ◌∷◌, ◌++◌, length, map, take, drop, filter, refl, sym, ◌∙◌, ap, ap₂, subst, inl, inr, arith, append_assoc, eq-eqb}
use Rattle.std.proofs.lemmas.Bool.{cases_lt}
use Rattle.std.proofs.lemmas.List.{length-map, map-id, take-append-drop, take-map, take_at}
use Rattle.std.proofs.lemmas.List.Concat.{flat_map-append}
use Rattle.std.proofs.lemmas.List.Elements.{filter-append}
use Rattle.axi_trail.specs.SelectionLaws.{AllLackData, AnsweredOfSelected, CompletedOfSelected, FirstLacksData, NoneHeldAnyWay, OrderOfSelected, goes_way}
use Rattle.axi_trail.specs.Waiting.{Waiting, beats_by, fresh, pending}
use Rattle.axi_trail.specs.WordLaws.{FirstPendingIsNextOfItsOwn}
use Rattle.axi_trail.specs.Words.{Asked, InOrderOfId, IsAnswered, Mark, Reply, beats_due, burst_marks, completed, held_asked, id_of_asked, id_of_reply, len_of_asked, mark_of_reply, marks, marks_of, number_of_asked, number_of_mark, number_of_reply, number_of_waiting, pending_asked}
use Rattle.axi_trail.proofs.FilterFacts.{beats_due-append, length-marks, marks-selected}
use Rattle.axi_trail.proofs.MarkFacts.{pending_of_selected}
use Rattle.axi_trail.proofs.PlaceFacts.{own_up_to}
use Rattle.axi_trail.proofs.StepFacts.{held_of_selected}
use Rattle.axi_trail.proofs.WaitingFacts.{pending-none, pending-past, pending-within, pending-zero}
use Rattle.plain_lists.specs.Keys.{of_key, selected}
use Rattle.plain_lists.specs.Prefixes.{IsPrefix}
use Rattle.plain_lists.proofs.KeyLemmas.{filter-filter, filter-push, filter_cons, filter_map, of_key-append, of_key-cons, of_key-push}
use Rattle.plain_lists.proofs.PrefixLemmas.{agree_prefix, count_front, prefix_filter, prefix_flat_map, prefix_length, prefix_of_key, prefix_of_same, prefix_same, prefix_total}

-- ---- answers

-- the marks of the answers of an ID, and of its requests, that are selected
marks-replied : (selects : ℕ → Bool) (id : ℕ) (replies : List Reply) →
    selected number_of_mark selects (map mark_of_reply (of_key id_of_reply id replies)) ≡ map mark_of_reply (of_key id_of_reply id (selected number_of_reply selects replies))
marks-replied selects id replies =
    filter_map (λ (m : Mark). selects (number_of_mark m)) mark_of_reply (of_key id_of_reply id replies)
    ∙ ap (map mark_of_reply) (filter-filter (λ (p : Reply). selects (number_of_reply p)) (λ (p : Reply). id_of_reply p == id) replies)

marks-asked : (selects : ℕ → Bool) (id : ℕ) (asked : List Asked) →
    selected number_of_mark selects (marks (of_key id_of_asked id asked)) ≡ marks (of_key id_of_asked id (selected number_of_asked selects asked))
marks-asked selects id asked =
    marks-selected selects (of_key id_of_asked id asked) ∙ ap marks (filter-filter (λ (a : Asked). selects (number_of_asked a)) (λ (a : Asked). id_of_asked a == id) asked)

pub order_of_selected : OrderOfSelected
order_of_selected selects asked replies order id =
    prefix_of_same (prefix_same (sym (marks-replied selects id replies)) (prefix_filter (λ (m : Mark). selects (number_of_mark m)) (order id))) (marks-asked selects id asked)

module _ (selects : ℕ → Bool) (asked : List Asked) (replies : List Reply) (order : InOrderOfId asked replies) (before : List Asked) (a : Asked) (after : List Asked)
    (place : asked ≡ before ++ a ∷ after) (chosen : selects a.number ≡ true) where
  -- the requests up to this one
  abbrev up_to : List Asked
  up_to = before ++ a ∷ []

  front : IsPrefix (marks (of_key id_of_asked a.id (before ++ a ∷ []))) (marks (of_key id_of_asked a.id asked))
  front = prefix_flat_map marks_of (prefix_of_key id_of_asked a.id (record { rest = after; whole = place ∙ sym (append_assoc before (a ∷ []) after) }))

  own : selected number_of_asked selects (before ++ a ∷ []) ≡ selected number_of_asked selects before ++ a ∷ []
  own = filter-push (λ (x : Asked). selects (number_of_asked x)) before a chosen

  due : length (selected number_of_mark selects (marks (of_key id_of_asked a.id (before ++ a ∷ [])))) ≡ beats_due (of_key id_of_asked a.id (selected number_of_asked selects before ++ a ∷ []))
  due =
      ap length (marks-asked selects a.id (before ++ a ∷ [])) ∙ length-marks (of_key id_of_asked a.id (selected number_of_asked selects (before ++ a ∷ [])))
      ∙ ap (λ (xs : List Asked). beats_due (of_key id_of_asked a.id xs)) own

  came : length (selected number_of_mark selects (map mark_of_reply (of_key id_of_reply a.id replies))) ≡ length (of_key id_of_reply a.id (selected number_of_reply selects replies))
  came = ap length (marks-replied selects a.id replies) ∙ length-map (of_key id_of_reply a.id (selected number_of_reply selects replies)) mark_of_reply

  answered_there : IsAnswered before a replies → IsAnswered (selected number_of_asked selects before) a (selected number_of_reply selects replies)
  answered_there answered =
      let all : IsPrefix (marks (of_key id_of_asked a.id (before ++ a ∷ []))) (map mark_of_reply (of_key id_of_reply a.id replies)) =
      prefix_total front (order a.id) (omega (arith, length-marks (of_key id_of_asked a.id (before ++ a ∷ [])), length-map (of_key id_of_reply a.id replies) mark_of_reply)) in
      omega (arith, due, came, prefix_length (prefix_filter (λ (m : Mark). selects (number_of_mark m)) all))

  answered_here : IsAnswered (selected number_of_asked selects before) a (selected number_of_reply selects replies) → IsAnswered before a replies
  answered_here answered = elim (cases_lt (length (of_key id_of_reply a.id replies)) (beats_due (of_key id_of_asked a.id (before ++ a ∷ [])))) [
    | inr ge ↦ ge
    | inl less ↦
        let mine : List Asked = of_key id_of_asked a.id before in
        let behind : List Asked = of_key id_of_asked a.id after in
        let whole : marks (of_key id_of_asked a.id asked) ≡ marks mine ++ marks (a ∷ behind) =
        ap marks (ap (of_key id_of_asked a.id) place ∙ of_key-append id_of_asked a.id before (a ∷ after) ∙ ap (λ (xs : List Asked). mine ++ xs) (of_key-cons id_of_asked a.id a after refl))
        ∙ flat_map-append marks_of mine (a ∷ behind) in
        let up : beats_due (of_key id_of_asked a.id (before ++ a ∷ [])) ≡ beats_due mine + suc a.len =
        ap beats_due (of_key-push id_of_asked a.id before a refl) ∙ beats_due-append mine (a ∷ []) ∙ omega arith in
        let few : length (map mark_of_reply (of_key id_of_reply a.id replies)) ≤ length (marks mine) + a.len =
        omega (arith, less, up, length-marks mine, length-map (of_key id_of_reply a.id replies) mark_of_reply) in
        let counted : length (selected number_of_mark selects (map mark_of_reply (of_key id_of_reply a.id replies))) ≤ length (selected number_of_mark selects (marks mine)) + a.len =
        count_front (λ (m : Mark). selects (number_of_mark m)) a.len (map mark_of_reply (of_key id_of_reply a.id replies)) (marks mine) (order a.id).rest (marks (a ∷ behind))
        (sym (order a.id).whole ∙ whole) few in
        let chosen_ones : List Asked = of_key id_of_asked a.id (selected number_of_asked selects before) in
        let before_it : length (selected number_of_mark selects (marks mine)) ≡ beats_due chosen_ones = ap length (marks-asked selects a.id before) ∙ length-marks chosen_ones in
        let chosen_up : beats_due (of_key id_of_asked a.id (selected number_of_asked selects before ++ a ∷ [])) ≡ beats_due chosen_ones + suc a.len =
        ap beats_due (of_key-push id_of_asked a.id (selected number_of_asked selects before) a refl) ∙ beats_due-append chosen_ones (a ∷ []) ∙ omega arith in
        absurd (omega (arith, answered, counted, before_it, chosen_up, came))
  ]

pub answered_of_selected : AnsweredOfSelected
answered_of_selected selects asked replies order before a after place chosen =
    (answered_there selects asked replies order before a after place chosen, answered_here selects asked replies order before a after place chosen)

chosen-first : {X : Type 0} (number_of : X → ℕ) (selects : ℕ → Bool) (x : X) (xs : List X) → selects (number_of x) ≡ true → selected number_of selects (x ∷ xs) ≡ x ∷ selected number_of selects xs
chosen-first number_of selects x xs is = filter_cons (λ y. selects (number_of y)) x xs is

never-none : {X : Type 0} (x : X) (xs : List X) → x ∷ xs ≡ [] → ⊥
never-none x xs e = absurd (cc)

pub none_held_any_way : NoneHeldAnyWay
none_held_any_way way_of asked replies order none = go (held_asked asked replies) refl
  where
    go : (ws : List (Waiting Asked)) → held_asked asked replies ≡ ws → held_asked asked replies ≡ []
    go [] is = is
    go (w ∷ ws) is =
        let way = way_of w.request.number in
        absurd (never-none w (selected number_of_waiting (goes_way way_of way) ws)
        (sym (chosen-first number_of_waiting (goes_way way_of way) w ws (eq-eqb way way refl)) ∙ ap (selected number_of_waiting (goes_way way_of way)) (sym is)
        ∙ held_of_selected (goes_way way_of way) asked replies order ∙ none w.request.number))

-- ---- write data

module _ {X : Type 0} (shown : X → Asked) (selects : ℕ → Bool) where
  -- the last mark of a request
  abbrev end_mark : X → Mark
  end_mark x = record { number = (shown x).number; last = true }

  abbrev number_shown : X → ℕ
  number_shown x = (shown x).number

  end-of_burst : (number len : ℕ) → filter (λ (m : Mark). m.last) (burst_marks number len) ≡ record { number = number; last = true } ∷ []
  end-of_burst number zero = refl
  end-of_burst number (suc len) = end-of_burst number len

  end-marks : (xs : List X) → filter (λ (m : Mark). m.last) (marks (map shown xs)) ≡ map end_mark xs
  end-marks [] = refl
  end-marks (x ∷ xs) =
      filter-append (λ (m : Mark). m.last) (marks_of (shown x)) (marks (map shown xs)) ∙ ap₂ (λ (us vs : List Mark). us ++ vs) (end-of_burst (shown x).number (shown x).len) (end-marks xs)

  pub completed-selected : (xs : List X) (passed : List Mark) → IsPrefix passed (marks (map shown xs)) →
      selected number_shown selects (completed xs passed) ≡ completed (selected number_shown selects xs) (selected number_of_mark selects passed)
  completed-selected xs passed p =
      let ends : List Mark = filter (λ (m : Mark). m.last) passed in
      let k = length ends in
      let all = prefix_of_same (prefix_filter (λ (m : Mark). m.last) p) (end-marks xs) in
      let are : ends ≡ map end_mark (take k xs) = sym (take_at ends all.rest k refl) ∙ ap (take k) (sym all.whole) ∙ take-map end_mark k xs in
      let mine : List X = selected number_shown selects (take k xs) in
      let own_ends : filter (λ (m : Mark). m.last) (selected number_of_mark selects passed) ≡ map end_mark mine =
      filter-filter (λ (m : Mark). m.last) (λ (m : Mark). selects (number_of_mark m)) passed ∙ ap (selected number_of_mark selects) are
      ∙ filter_map (λ (m : Mark). selects (number_of_mark m)) end_mark (take k xs) in
      let count : length mine ≡ length (filter (λ (m : Mark). m.last) (selected number_of_mark selects passed)) = sym (ap length own_ends ∙ length-map mine end_mark) in
      let split : selected number_shown selects xs ≡ mine ++ selected number_shown selects (drop k xs) =
      ap (selected number_shown selects) (sym (take-append-drop k xs)) ∙ filter-append (λ (x : X). selects (number_shown x)) (take k xs) (drop k xs) in
      sym (ap (take (length (filter (λ (m : Mark). m.last) (selected number_of_mark selects passed)))) split
      ∙ take_at mine (selected number_shown selects (drop k xs)) (length (filter (λ (m : Mark). m.last) (selected number_of_mark selects passed))) count)

pub completed_of_selected : CompletedOfSelected
completed_of_selected selects asked passed p =
    completed-selected (λ (a : Asked). a) selects asked passed (subst (λ (xs : List Asked). IsPrefix passed (marks xs)) (sym (map-id asked)) p)

-- fewer are selected of fewer
selected-fewer : {X : Type 0} (number_of : X → ℕ) (selects : ℕ → Bool) (xs ys : List X) → IsPrefix xs ys → length (selected number_of selects xs) ≤ length (selected number_of selects ys)
selected-fewer number_of selects xs ys p = prefix_length (prefix_filter (λ x. selects (number_of x)) p)

due-selected : (selects : ℕ → Bool) (asked : List Asked) → length (selected number_of_mark selects (marks asked)) ≡ beats_due (selected number_of_asked selects asked)
due-selected selects asked = ap length (marks-selected selects asked) ∙ length-marks (selected number_of_asked selects asked)

pub all_lack_data : AllLackData
all_lack_data selects asked passed agree lacks = elim (cases_lt (length passed) (beats_due asked)) [
  | inl less ↦ less
  | inr all ↦
      let whole : IsPrefix (marks asked) passed =
      agree_prefix (marks asked) passed (record { same = λ place past in_marks in_passed. sym (agree.same place past in_passed in_marks) }) (omega (arith, length-marks asked)) in
      absurd (omega (arith, lacks, due-selected selects asked, selected-fewer number_of_mark selects (marks asked) passed whole))
]

pub first_lacks_data : FirstLacksData
first_lacks_data selects asked passed w others p first is = elim (cases_lt (length (selected number_of_mark selects passed)) (beats_due (selected number_of_asked selects asked))) [
  | inl less ↦ less
  | inr all ↦
      let here : take (length passed) (marks asked) ≡ passed = ap (take (length passed)) p.whole ∙ take_at passed p.rest (length passed) refl in
      let own : selected number_of_waiting selects (pending_asked (length passed) asked) ≡ pending_asked (length (selected number_of_mark selects passed)) (selected number_of_asked selects asked) =
      pending_of_selected selects (length passed) asked
      ∙ ap (λ (ms : List Mark). pending_asked (length (selected number_of_mark selects ms)) (selected number_of_asked selects asked)) here in
      let none : pending_asked (length (selected number_of_mark selects passed)) (selected number_of_asked selects asked) ≡ [] =
      pending-none len_of_asked (length (selected number_of_mark selects passed)) (selected number_of_asked selects asked) all in
      absurd (never-none w (selected number_of_waiting selects others)
      (sym (chosen-first number_of_waiting selects w others is) ∙ ap (selected number_of_waiting selects) (sym first) ∙ own ∙ none))
]

-- ---- the first request that lacks data

module _ {X : Type 0} (len_of : X → ℕ) where
  -- it stands behind complete ones, and of those behind it no beat has passed
  pub pending-first : (count : ℕ) (xs : List X) (w : Waiting X) (others : List (Waiting X)) → pending len_of count xs ≡ w ∷ others →
      (before : List X) × (after : List X) × (xs ≡ before ++ w.request ∷ after) × (others ≡ map fresh after) × (beats_by len_of before + w.done ≡ count) × (w.done ≤ len_of w.request)
  pending-first count [] w others e = absurd (cc)
  pending-first count (x ∷ xs) w others e = elim (cases_lt (len_of x) count) [
    | inl lt ↦
        let rest : (before : List X) × (after : List X) × (xs ≡ before ++ w.request ∷ after) × (others ≡ map fresh after) × (beats_by len_of before + w.done ≡ count - suc (len_of x))
        × (w.done ≤ len_of w.request) =
        pending-first (count - suc (len_of x)) xs w others (sym (pending-past len_of count x xs lt) ∙ e)
        in (x ∷ rest.0, rest.1, ap (λ t. x ∷ t) rest.2, rest.3, omega (arith, rest.4), rest.5)
    | inr ge ↦
        let both : record { request = x; done = count } ∷ pending len_of 0 xs ≡ w ∷ others = sym (pending-within len_of count x xs ge) ∙ e in
        let first : record { request = x; done = count } ≡ w = cc in
        let tail : pending len_of 0 xs ≡ others = cc in
        let request : x ≡ w.request = ap (λ v. v.request) first in
        let done : count ≡ w.done = ap (λ v. v.done) first in
        ([], xs, ap (λ y. y ∷ xs) request, sym tail ∙ pending-zero len_of xs, omega arith, subst (λ (v : Waiting X). v.done ≤ len_of v.request) first ge)
  ]

pub first_pending_is_next_of_its_own : FirstPendingIsNextOfItsOwn
first_pending_is_next_of_its_own asked passed w others p e =
    let found : (before : List Asked) × (after : List Asked) × (asked ≡ before ++ w.request ∷ after) × (others ≡ map fresh after) × (beats_due before + w.done ≡ length passed)
    × (w.done ≤ w.request.len) =
    pending-first len_of_asked (length passed) asked w others e in (
      found.0,
      found.1,
      found.2,
      found.3,
      sym found.4,
      own_up_to w.request.number w.done found.0 w.request found.1 passed (subst (λ (xs : List Asked). IsPrefix passed (marks xs)) found.2 p) (sym found.4) found.5 refl,
    )
