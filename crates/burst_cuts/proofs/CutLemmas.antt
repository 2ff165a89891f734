-- Requests whose beats are requests of their own: marks and counts.
use Rattle.std.proofs.Common.{◌≡◌, ◌≢◌, ◌≤◌, ◌+◌, ◌-◌, ◌==◌, ℕ, zero, suc, Bool, true, List, [], ◌∷◌, ◌++◌, length, map, take, replicate, refl, sym, ◌∙◌, ap, ap₂, inl, inr, arith, append_assoc, length-append}
use Rattle.std.specs.Prelude.{All, filter, flat_map}
use Rattle.std.proofs.lemmas.Bool.{cases_eq, cases_lt}
use Rattle.std.proofs.lemmas.List.{length-map, length-replicate}
use Rattle.std.proofs.lemmas.List.Concat.{flat_map-append}
use Rattle.std.proofs.lemmas.List.Elements.{All-append, All-filter, All-head, All-nil, All-replicate, All-tail, All-take, filter-append}
use Rattle.plain_lists.specs.Keys.{of_key}
use Rattle.axi_trail.proofs.FilterFacts.{beats_due-append, length-marks}
use Rattle.plain_lists.proofs.KeyLemmas.{filter-filter, filter_map, of_key-append, of_key-cons, of_key-map, of_key-skip}
use Rattle.axi_trail.proofs.MarkFacts.{completed_are_complete}
use Rattle.plain_lists.proofs.PrefixLemmas.{prefix_total, prefix_filter, prefix_flat_map, prefix_length, prefix_map, prefix_of_key, prefix_of_same, prefix_same}
use Rattle.axi_trail.proofs.WaitingFacts.{complete-beats, complete-past, complete-pending, complete-within}
use Rattle.plain_lists.specs.Prefixes.{IsPrefix}
use Rattle.axi_trail.specs.Waiting.{complete, pending, waiting_request}
use Rattle.axi_trail.specs.Words.{Asked, InOrderOfId, IsAnswered, Mark, Reply, beats_due, burst_marks, id_of_asked, id_of_reply, len_of_asked, mark_of_reply, marks, marks_of}
use Rattle.burst_cuts.specs.CutLaws.{AnsweredOfCut, CompletedOfCut, MarksOfCut, OneIdOfWhole, WholeGroupsInOrder, ends, single, single_mark, single_parts, single_reply}

abbrev pub cut : List Asked → List Asked
cut asked = flat_map single_parts asked

-- marks

marks-replicate : (n : ℕ) (a : Asked) → marks (replicate n (single a)) ≡ replicate n (record { number = a.number; last = true })
marks-replicate zero a = refl
marks-replicate (suc n) a = ap (λ (ms : List Mark). record { number = a.number; last = true } ∷ ms) (marks-replicate n a)

burst-single : (number len : ℕ) → map single_mark (burst_marks number len) ≡ replicate (suc len) (record { number = number; last = true })
burst-single number zero = refl
burst-single number (suc len) = ap (λ (ms : List Mark). record { number = number; last = true } ∷ ms) (burst-single number len)

pub map-append : {X Y : Type 0} (f : X → Y) (xs ys : List X) → map f (xs ++ ys) ≡ map f xs ++ map f ys
map-append f [] ys = refl
map-append {X} {Y} f (x ∷ xs) ys = ap (λ (t : List Y). f x ∷ t) (map-append f xs ys)

pub marks-of_cut : MarksOfCut
marks-of_cut [] = refl
marks-of_cut (a ∷ asked) =
    flat_map-append marks_of (single_parts a) (cut asked)
    ∙ ap₂ (λ (x y : List Mark). x ++ y) (marks-replicate (suc a.len) a ∙ sym (burst-single a.number a.len)) (marks-of_cut asked)
    ∙ sym (map-append single_mark (marks_of a) (marks asked))

-- counts

replicate-of_key : (i n : ℕ) (a : Asked) → a.id ≡ i → of_key id_of_asked i (replicate n (single a)) ≡ replicate n (single a)
replicate-of_key i zero a own = refl
replicate-of_key i (suc n) a own = of_key-cons id_of_asked i (single a) (replicate n (single a)) own ∙ ap (λ (t : List Asked). single a ∷ t) (replicate-of_key i n a own)

replicate-of_other : (i n : ℕ) (a : Asked) → a.id ≢ i → of_key id_of_asked i (replicate n (single a)) ≡ []
replicate-of_other i zero a other = refl
replicate-of_other i (suc n) a other = of_key-skip id_of_asked i (single a) (replicate n (single a)) other ∙ replicate-of_other i n a other

pub beats-replicate : (n : ℕ) (a : Asked) → beats_due (replicate n (single a)) ≡ n
beats-replicate zero a = refl
beats-replicate (suc n) a = omega (arith, beats-replicate n a)

pub beats-own : (i n : ℕ) (a : Asked) → a.id ≡ i → beats_due (of_key id_of_asked i (replicate n (single a))) ≡ n
beats-own i n a own = ap beats_due (replicate-of_key i n a own) ∙ beats-replicate n a

pub beats-other : (i n : ℕ) (a : Asked) → a.id ≢ i → beats_due (of_key id_of_asked i (replicate n (single a))) ≡ 0
beats-other i n a other = ap beats_due (replicate-of_other i n a other)

beats-parts : (i : ℕ) (xs ys : List Asked) → beats_due (of_key id_of_asked i (xs ++ ys)) ≡ beats_due (of_key id_of_asked i xs) + beats_due (of_key id_of_asked i ys)
beats-parts i xs ys = ap beats_due (of_key-append id_of_asked i xs ys) ∙ beats_due-append (of_key id_of_asked i xs) (of_key id_of_asked i ys)

-- the parts of an ID's requests have the beats of these requests
pub beats-of_cut : (i : ℕ) (asked : List Asked) → beats_due (of_key id_of_asked i (cut asked)) ≡ beats_due (of_key id_of_asked i asked)
beats-of_cut i [] = refl
beats-of_cut i (a ∷ asked) = elim (cases_eq a.id i) [
  | inl own ↦
      let whole : beats_due (of_key id_of_asked i (a ∷ asked)) ≡ suc a.len + beats_due (of_key id_of_asked i asked) = ap beats_due (of_key-cons id_of_asked i a asked own) in
      omega (arith, beats-parts i (single_parts a) (cut asked), beats-own i (suc a.len) a own, beats-of_cut i asked)
  | inr other ↦
      let whole : beats_due (of_key id_of_asked i (a ∷ asked)) ≡ beats_due (of_key id_of_asked i asked) = ap beats_due (of_key-skip id_of_asked i a asked other) in
      omega (arith, beats-parts i (single_parts a) (cut asked), beats-other i (suc a.len) a other, beats-of_cut i asked)
]

pub answered-of_cut : AnsweredOfCut
answered-of_cut before a count replies few answered =
    let one : beats_due (of_key id_of_asked a.id (single a ∷ [])) ≡ 1 = ap beats_due (of_key-cons id_of_asked a.id (single a) [] refl) in
    let own : beats_due (of_key id_of_asked a.id (a ∷ [])) ≡ suc a.len = ap beats_due (of_key-cons id_of_asked a.id a [] refl) ∙ omega arith in
    omega (
      arith,
      answered,
      beats-parts a.id (cut before ++ replicate count (single a)) (single a ∷ []),
      beats-parts a.id (cut before) (replicate count (single a)),
      beats-own a.id count a refl,
      beats-of_cut a.id before,
      beats-parts a.id before (a ∷ []),
    )

-- whole groups

abbrev pub is_end : Mark → Bool
is_end m = m.last

ends-of_burst : (number len : ℕ) → filter is_end (burst_marks number len) ≡ record { number = number; last = true } ∷ []
ends-of_burst number zero = refl
ends-of_burst number (suc len) = ends-of_burst number len

-- the last beats are those of the requests as single ones
pub ends-of_marks : (asked : List Asked) → filter is_end (marks asked) ≡ marks (map single asked)
ends-of_marks [] = refl
ends-of_marks (a ∷ asked) = filter-append is_end (marks_of a) (marks asked) ∙ ap₂ (λ (x y : List Mark). x ++ y) (ends-of_burst a.number a.len) (ends-of_marks asked)

ends-of_id : (id : ℕ) (beats : List Reply) → map mark_of_reply (of_key id_of_reply id (ends beats)) ≡ filter is_end (map mark_of_reply (of_key id_of_reply id beats))
ends-of_id id beats =
    ap (map mark_of_reply) (filter-filter (λ (p : Reply). id_of_reply p == id) (λ (p : Reply). p.last) beats)
    ∙ sym (filter_map is_end mark_of_reply (of_key id_of_reply id beats))

singles-of_id : (id : ℕ) (asked : List Asked) → of_key id_of_asked id (map single asked) ≡ map single (of_key id_of_asked id asked)
singles-of_id id asked = of_key-map id_of_asked single id asked

pub whole-groups_in_order : WholeGroupsInOrder
whole-groups_in_order asked beats order id =
    prefix_same (ends-of_id id beats)
    (prefix_of_same (prefix_filter is_end (order id)) (ends-of_marks (of_key id_of_asked id asked) ∙ ap marks (sym (singles-of_id id asked))))

-- of the requests that are whole among the first beats

pub take-past : {X : Type 0} (count : ℕ) (xs ys : List X) → length xs ≤ count → take count (xs ++ ys) ≡ xs ++ take (count - length xs) ys
take-past count [] ys le = ap (λ n. take n ys) (omega arith)
take-past zero (x ∷ xs) ys le = absurd (omega arith)
take-past (suc count) (x ∷ xs) ys le = ap (λ t. x ∷ t) (take-past count xs ys (omega arith) ∙ ap (λ n. xs ++ take n ys) (omega arith))

take-replicate : (count n : ℕ) (a : Asked) (ys : List Asked) → count ≤ n → take count (replicate n (single a) ++ ys) ≡ replicate count (single a)
take-replicate zero n a ys le = refl
take-replicate (suc count) zero a ys le = absurd (omega arith)
take-replicate (suc count) (suc n) a ys le = ap (λ (t : List Asked). single a ∷ t) (take-replicate count n a ys (omega arith))

complete-zero : (asked : List Asked) → complete len_of_asked 0 asked ≡ []
complete-zero [] = refl
complete-zero (a ∷ asked) = complete-within len_of_asked 0 a asked (omega arith)

length-parts : (i : ℕ) (xs ys : List Asked) → length (of_key id_of_asked i (xs ++ ys)) ≡ length (of_key id_of_asked i xs) + length (of_key id_of_asked i ys)
length-parts i xs ys = ap length (of_key-append id_of_asked i xs ys) ∙ length-append (of_key id_of_asked i xs) (of_key id_of_asked i ys)

length-own : (i n : ℕ) (a : Asked) → a.id ≡ i → length (of_key id_of_asked i (replicate n (single a))) ≡ n
length-own i n a own = ap length (replicate-of_key i n a own) ∙ length-replicate n (single a)

length-other : (i n : ℕ) (a : Asked) → a.id ≢ i → length (of_key id_of_asked i (replicate n (single a))) ≡ 0
length-other i n a other = ap length (replicate-of_other i n a other)

fewer-complete : (i m count : ℕ) (asked : List Asked) → m ≤ length (of_key id_of_asked i (take count (cut asked))) →
    length (complete len_of_asked m (of_key id_of_asked i asked)) ≤ length (of_key id_of_asked i (complete len_of_asked count asked))
fewer-complete i m count [] few = omega arith
fewer-complete i m count (a ∷ asked) few = elim (cases_lt a.len count) [
  | inl lt ↦
      let front : take count (single_parts a ++ cut asked) ≡ single_parts a ++ take (count - suc a.len) (cut asked) =
      take-past count (single_parts a) (cut asked) (omega (arith, length-replicate (suc a.len) (single a))) ∙ ap (λ n. single_parts a ++ take (count - n) (cut asked)) (length-replicate (suc a.len) (single a)) in
      let split : length (of_key id_of_asked i (take count (single_parts a ++ cut asked))) ≡ length (of_key id_of_asked i (single_parts a)) + length (of_key id_of_asked i (take (count - suc a.len) (cut asked))) =
      ap (λ xs. length (of_key id_of_asked i xs)) front ∙ length-parts i (single_parts a) (take (count - suc a.len) (cut asked)) in
      let whole : complete len_of_asked count (a ∷ asked) ≡ a ∷ complete len_of_asked (count - suc a.len) asked = complete-past len_of_asked count a asked lt in
      elim (cases_eq a.id i) [
        | inl own ↦
            let mine : length (of_key id_of_asked i (complete len_of_asked count (a ∷ asked))) ≡ suc (length (of_key id_of_asked i (complete len_of_asked (count - suc a.len) asked))) =
            ap (λ xs. length (of_key id_of_asked i xs)) whole ∙ ap length (of_key-cons id_of_asked i a (complete len_of_asked (count - suc a.len) asked) own) in
            let of_id : of_key id_of_asked i (a ∷ asked) ≡ a ∷ of_key id_of_asked i asked = of_key-cons id_of_asked i a asked own in
            elim (cases_lt a.len m) [
              | inl past ↦
                  let more : length (complete len_of_asked m (of_key id_of_asked i (a ∷ asked))) ≡ suc (length (complete len_of_asked (m - suc a.len) (of_key id_of_asked i asked))) =
                  ap (λ xs. length (complete len_of_asked m xs)) of_id ∙ ap length (complete-past len_of_asked m a (of_key id_of_asked i asked) past) in
                  omega (arith, more, mine, fewer-complete i (m - suc a.len) (count - suc a.len) asked (omega (arith, few, split, length-own i (suc a.len) a own)))
              | inr within ↦
                  let none : length (complete len_of_asked m (of_key id_of_asked i (a ∷ asked))) ≡ 0 =
                  ap (λ xs. length (complete len_of_asked m xs)) of_id ∙ ap length (complete-within len_of_asked m a (of_key id_of_asked i asked) within) in
                  omega (arith, none)
            ]
        | inr other ↦
            let same : length (of_key id_of_asked i (complete len_of_asked count (a ∷ asked))) ≡ length (of_key id_of_asked i (complete len_of_asked (count - suc a.len) asked)) =
            ap (λ xs. length (of_key id_of_asked i xs)) whole ∙ ap length (of_key-skip id_of_asked i a (complete len_of_asked (count - suc a.len) asked) other) in
            let skipped : length (complete len_of_asked m (of_key id_of_asked i (a ∷ asked))) ≡ length (complete len_of_asked m (of_key id_of_asked i asked)) =
            ap (λ xs. length (complete len_of_asked m xs)) (of_key-skip id_of_asked i a asked other) in
            omega (arith, skipped, same, fewer-complete i m (count - suc a.len) asked (omega (arith, few, split, length-other i (suc a.len) a other)))
      ]
  | inr ge ↦
      let front : length (of_key id_of_asked i (take count (single_parts a ++ cut asked))) ≡ length (of_key id_of_asked i (replicate count (single a))) =
      ap (λ xs. length (of_key id_of_asked i xs)) (take-replicate count (suc a.len) a (cut asked) (omega arith)) in
      elim (cases_eq a.id i) [
        | inl own ↦
            let none : length (complete len_of_asked m (of_key id_of_asked i (a ∷ asked))) ≡ 0 =
            ap (λ xs. length (complete len_of_asked m xs)) (of_key-cons id_of_asked i a asked own)
            ∙ ap length (complete-within len_of_asked m a (of_key id_of_asked i asked) (omega (arith, few, front, length-own i count a own))) in
            omega (arith, none)
        | inr other ↦
            let zero_ : m ≡ 0 = omega (arith, few, front, length-other i count a other) in
            let none : length (complete len_of_asked m (of_key id_of_asked i (a ∷ asked))) ≡ 0 =
            ap (λ n. length (complete len_of_asked n (of_key id_of_asked i (a ∷ asked)))) zero_ ∙ ap length (complete-zero (of_key id_of_asked i (a ∷ asked))) in
            omega (arith, none)
      ]
]

pub length-singles : (asked : List Asked) → length (marks (map single asked)) ≡ length asked
length-singles [] = refl
length-singles (a ∷ asked) = ap suc (length-singles asked)

pub length-take_within : (n : ℕ) (xs : List Asked) → n ≤ length xs → length (take n xs) ≡ n
length-take_within zero xs few = refl
length-take_within (suc n) [] few = absurd (omega arith)
length-take_within (suc n) (x ∷ xs) few = ap suc (length-take_within n xs (omega arith))

all-single : (asked : List Asked) → All (λ (a : Asked). a.len ≡ 0) (cut asked)
all-single [] = All-nil (λ (a : Asked). a.len ≡ 0)
all-single (a ∷ asked) = All-append (λ (a : Asked). a.len ≡ 0) (single_parts a) (cut asked) (All-replicate (λ (a : Asked). a.len ≡ 0) (suc a.len) (single a) refl) (all-single asked)

beats-singles : (asked : List Asked) → All (λ (a : Asked). a.len ≡ 0) asked → beats_due asked ≡ length asked
beats-singles [] all = refl
beats-singles (a ∷ asked) all = omega (arith, All-head (λ (a : Asked). a.len ≡ 0) a asked all, beats-singles asked (All-tail (λ (a : Asked). a.len ≡ 0) a asked all))

-- as many whole answers of an ID as its answers make whole
pub ends-counted : (asked : List Asked) (beats : List Reply) → InOrderOfId asked beats → (id : ℕ) →
    length (filter is_end (map mark_of_reply (of_key id_of_reply id beats))) ≡ length (complete len_of_asked (length (map mark_of_reply (of_key id_of_reply id beats))) (of_key id_of_asked id asked))
ends-counted asked beats order id =
    let own = of_key id_of_asked id asked in
    let seen = map mark_of_reply (of_key id_of_reply id beats) in
    let lasts : IsPrefix (filter is_end seen) (marks (map single own)) = prefix_of_same (prefix_filter is_end (order id)) (ends-of_marks own) in
    let few : length (filter is_end seen) ≤ length own = omega (arith, prefix_length lasts, length-singles own) in
    sym (length-take_within (length (filter is_end seen)) own few) ∙ ap length (completed_are_complete own seen (order id))

pub completed-of_cut : CompletedOfCut
completed-of_cut asked beats count order parts_order id =
    let own = of_key id_of_asked id asked in
    let seen = map mark_of_reply (of_key id_of_reply id beats) in
    let m = length seen in
    let whole = complete len_of_asked count asked in
    -- as many answers as whole requests of the ID
    let lasts : IsPrefix (filter is_end seen) (marks (map single own)) = prefix_of_same (prefix_filter is_end (order id)) (ends-of_marks own) in
    let counted = ends-counted asked beats order id in
    -- and no more answers than parts of the ID among the first ones
    let parts : length (map mark_of_reply (of_key id_of_reply id (map single_reply beats))) ≤ length (marks (of_key id_of_asked id (take count (cut asked)))) = prefix_length (parts_order id) in
    let same_count : length (map mark_of_reply (of_key id_of_reply id (map single_reply beats))) ≡ m =
    length-map (of_key id_of_reply id (map single_reply beats)) mark_of_reply ∙ ap length (of_key-map id_of_reply single_reply id beats)
    ∙ length-map (of_key id_of_reply id beats) single_reply ∙ sym (length-map (of_key id_of_reply id beats) mark_of_reply) in
    let ones : length (marks (of_key id_of_asked id (take count (cut asked)))) ≡ length (of_key id_of_asked id (take count (cut asked))) = marks-of_first id count asked in
    let fewer = fewer-complete id m count asked (omega (arith, parts, same_count, ones)) in
    let above : IsPrefix (filter is_end seen) (marks (map single own)) = lasts in
    let front : IsPrefix whole asked = record { rest = map waiting_request (pending len_of_asked count asked); whole = sym (complete-pending len_of_asked count asked) } in
    let below : IsPrefix (marks (map single (of_key id_of_asked id whole))) (marks (map single own)) = prefix_flat_map marks_of (prefix_map single (prefix_of_key id_of_asked id front)) in
    let fits : IsPrefix (filter is_end seen) (marks (map single (of_key id_of_asked id whole))) =
    prefix_total above below (omega (arith, counted, fewer, length-singles (of_key id_of_asked id whole))) in
    prefix_same (ends-of_id id beats) (prefix_of_same fits (ap marks (sym (singles-of_id id whole))))
  where
    marks-of_first : (i n : ℕ) (xs : List Asked) → length (marks (of_key id_of_asked i (take n (cut xs)))) ≡ length (of_key id_of_asked i (take n (cut xs)))
    marks-of_first i n xs = length-marks (of_key id_of_asked i (take n (cut xs))) ∙ beats-singles (of_key id_of_asked i (take n (cut xs))) (All-filter (λ (a : Asked). id_of_asked a == i) (λ (a : Asked). a.len ≡ 0) (take n (cut xs)) (All-take (λ (a : Asked). a.len ≡ 0) n (cut xs) (all-single xs)))

pub beats-front : (xs ys : List Asked) → IsPrefix xs ys → beats_due xs ≤ beats_due ys
beats-front xs ys front = omega (arith, ap beats_due front.whole, beats_due-append xs front.rest)

-- a request with its answer has all its beats
pub answered-of_whole : (asked : List Asked) (beats : List Reply) → InOrderOfId asked beats → (before : List Asked) (a : Asked) (after : List Asked) → asked ≡ before ++ a ∷ after →
    IsAnswered (map single before) (single a) (ends beats) → IsAnswered before a beats
answered-of_whole asked beats order before a after place answered =
    let id = a.id in
    let own = of_key id_of_asked id asked in
    let first = of_key id_of_asked id (before ++ a ∷ []) in
    let m = length (map mark_of_reply (of_key id_of_reply id beats)) in
    let many : m ≡ length (of_key id_of_reply id beats) = length-map (of_key id_of_reply id beats) mark_of_reply in
    let front : IsPrefix first own = prefix_of_key id_of_asked id (record { rest = after; whole = place ∙ sym (append_assoc before (a ∷ []) after) }) in
    let whole : IsPrefix (complete len_of_asked m own) own = record { rest = map waiting_request (pending len_of_asked m own); whole = sym (complete-pending len_of_asked m own) } in
    -- so many whole answers
    let lasts : length (of_key id_of_reply id (ends beats)) ≡ length (complete len_of_asked m own) =
    sym (length-map (of_key id_of_reply id (ends beats)) mark_of_reply) ∙ ap length (ends-of_id id beats) ∙ ends-counted asked beats order id in
    let singles : of_key id_of_asked id (map single before ++ single a ∷ []) ≡ map single first = ap (of_key id_of_asked id) (sym (map-append single before (a ∷ []))) ∙ singles-of_id id (before ++ a ∷ []) in
    let ones : beats_due (of_key id_of_asked id (map single before ++ single a ∷ [])) ≡ length first = ap beats_due singles ∙ sym (length-marks (map single first)) ∙ length-singles first in
    let within : IsPrefix first (complete len_of_asked m own) = prefix_total front whole (omega (arith, answered, ones, lasts)) in
    omega (arith, beats-front first (complete len_of_asked m own) within, complete-beats len_of_asked m own, many)

pub one-id_of_whole : OneIdOfWhole
one-id_of_whole shares asked beats order one before a between next after place chain differ =
    answered-of_whole asked beats order before a (between ++ next ∷ after) (place ∙ append_assoc before (a ∷ between) (next ∷ after))
    (one (map single before) (single a) (map single between) (single next) (map single after)
    (ap (map single) place ∙ map-append single (before ++ a ∷ between) (next ∷ after) ∙ ap (λ (t : List Asked). t ++ map single (next ∷ after)) (map-append single before (a ∷ between))) chain differ)
