-- Facts on the marks of bursts, and on those that pending requests lack.
use Rattle.std.proofs.Common.{◌≡◌, ℕ, ◌+◌, ◌-◌, ◌<◌, ◌≤◌, suc, zero, Bool, true, false, cond, List, [], ◌∷◌, ◌++◌, length, take, drop, refl, sym, ◌∙◌, ap, inl, inr, arith, length-append}
use Rattle.std.specs.Prelude.{filter, flat_map}
use Rattle.std.proofs.lemmas.Bool.{cases_Bool, cases_lt}
use Rattle.std.proofs.lemmas.List.Elements.{filter-append}
use Rattle.axi_trail.specs.Waiting.{pending, complete}
use Rattle.axi_trail.specs.Words.{Mark, Asked, EndsAtLast, owed_marks, pending_asked, burst_marks, marks_of, marks, completed, number_of_mark, number_of_asked, number_of_waiting, len_of_asked}
use Rattle.axi_trail.proofs.FilterFacts.{burst_selected, burst_left_out, length-burst_marks}
use Rattle.axi_trail.proofs.WaitingFacts.{pending-past, pending-within, complete-past, complete-within}
use Rattle.plain_lists.specs.Prefixes.{IsPrefix}
use Rattle.plain_lists.specs.Keys.{selected}
use Rattle.plain_lists.proofs.KeyLemmas.{filter_cons, filter_skip}
use Rattle.plain_lists.proofs.PartLemmas.{drop_nothing}

-- bursts end at their last beat
pub burst_ends : (number len : ℕ) → EndsAtLast (burst_marks number len)
burst_ends number zero = ((λ e. refl), (λ e. absurd (cc)))
burst_ends number (suc len) = ((λ e. absurd (cc)), (λ e. burst_ends number len))

-- what a burst lacks after some beats
drop_burst : (number count len : ℕ) (rest : List Mark) → count ≤ len → drop count (burst_marks number len ++ rest) ≡ burst_marks number (len - count) ++ rest
drop_burst number zero len rest le = ap (λ n. burst_marks number n ++ rest) (omega arith)
drop_burst number (suc count) zero rest le = absurd (omega arith)
drop_burst number (suc count) (suc len) rest le = drop_burst number count len rest (omega arith) ∙ ap (λ n. burst_marks number n ++ rest) (omega arith)

drop_past : (count : ℕ) (xs ys : List Mark) → length xs ≤ count → drop count (xs ++ ys) ≡ drop (count - length xs) ys
drop_past count [] ys le = ap (λ n. drop n ys) (omega arith)
drop_past zero (x ∷ xs) ys le = absurd (omega arith)
drop_past (suc count) (x ∷ xs) ys le = drop_past count xs ys (omega arith) ∙ ap (λ n. drop n ys) (omega arith)

pub pending_owe_the_rest : (count : ℕ) (asked : List Asked) → drop count (marks asked) ≡ flat_map owed_marks (pending len_of_asked count asked)
pending_owe_the_rest count [] = drop_nothing count
pending_owe_the_rest count (a ∷ asked) = elim (cases_lt a.len count) [
  | inl lt ↦
      drop_past count (marks_of a) (marks asked) (omega (arith, length-burst_marks a.number a.len))
      ∙ ap (λ n. drop n (marks asked)) (ap (λ n. count - n) (length-burst_marks a.number a.len))
      ∙ pending_owe_the_rest (count - suc a.len) asked
      ∙ ap (flat_map owed_marks) (sym (pending-past len_of_asked count a asked lt))
  | inr ge ↦
      drop_burst a.number count a.len (marks asked) ge
      ∙ ap (λ rest. burst_marks a.number (a.len - count) ++ rest) (pending_owe_the_rest 0 asked)
      ∙ ap (flat_map owed_marks) (sym (pending-within len_of_asked count a asked ge))
]

-- the beats of a transaction among the first ones
pub take_past : (count : ℕ) (xs ys : List Mark) → length xs ≤ count → take count (xs ++ ys) ≡ xs ++ take (count - length xs) ys
take_past count [] ys le = ap (λ n. take n ys) (omega arith)
take_past zero (x ∷ xs) ys le = absurd (omega arith)
take_past (suc count) (x ∷ xs) ys le = ap (λ t. x ∷ t) (take_past count xs ys (omega arith) ∙ ap (λ n. xs ++ take n ys) (omega arith))

pub length_own : (selects : ℕ → Bool) (number count len : ℕ) (rest : List Mark) → selects number ≡ true → count ≤ len → length (selected number_of_mark selects (take count (burst_marks number len ++ rest))) ≡ count
length_own selects number zero len rest e le = refl
length_own selects number (suc count) zero rest e le = absurd (omega arith)
length_own selects number (suc count) (suc len) rest e le =
    ap length (filter_cons (λ m. selects (number_of_mark m)) (record { number = number; last = false }) (take count (burst_marks number len ++ rest)) e)
    ∙ ap suc (length_own selects number count len rest e (omega arith))

length_other : (selects : ℕ → Bool) (number count len : ℕ) (rest : List Mark) → selects number ≡ false → count ≤ len → length (selected number_of_mark selects (take count (burst_marks number len ++ rest))) ≡ 0
length_other selects number zero len rest ne le = refl
length_other selects number (suc count) zero rest ne le = absurd (omega arith)
length_other selects number (suc count) (suc len) rest ne le =
    ap length (filter_skip (λ m. selects (number_of_mark m)) (record { number = number; last = false }) (take count (burst_marks number len ++ rest)) ne)
    ∙ length_other selects number count len rest ne (omega arith)

module _ (selects : ℕ → Bool) where
  pub pending_of_selected : (count : ℕ) (asked : List Asked) →
      selected number_of_waiting selects (pending_asked count asked)
      ≡ pending_asked (length (selected number_of_mark selects (take count (marks asked)))) (selected number_of_asked selects asked)
  pending_of_selected count [] = refl
  pending_of_selected count (a ∷ asked) = elim (cases_lt a.len count) [
    | inl lt ↦
        let front : take count (marks_of a ++ marks asked) ≡ marks_of a ++ take (count - suc a.len) (marks asked) =
        take_past count (marks_of a) (marks asked) (omega (arith, length-burst_marks a.number a.len)) ∙ ap (λ n. marks_of a ++ take (count - n) (marks asked)) (length-burst_marks a.number a.len) in
        let own : selected number_of_mark selects (take count (marks_of a ++ marks asked)) ≡ selected number_of_mark selects (marks_of a) ++ selected number_of_mark selects (take (count - suc a.len) (marks asked)) =
        ap (selected number_of_mark selects) front ∙ filter-append (λ m. selects (number_of_mark m)) (marks_of a) (take (count - suc a.len) (marks asked)) in
        ap (selected number_of_waiting selects) (pending-past len_of_asked count a asked lt)
        ∙ pending_of_selected (count - suc a.len) asked
        ∙ elim (cases_Bool (selects a.number)) [
          | inl e ↦
              let all : length (selected number_of_mark selects (take count (marks_of a ++ marks asked))) ≡ suc a.len + length (selected number_of_mark selects (take (count - suc a.len) (marks asked))) =
              ap length own ∙ length-append (selected number_of_mark selects (marks_of a)) (selected number_of_mark selects (take (count - suc a.len) (marks asked)))
              ∙ ap (λ n. n + length (selected number_of_mark selects (take (count - suc a.len) (marks asked)))) (ap length (burst_selected selects a.number a.len e) ∙ length-burst_marks a.number a.len) in
              ap (λ n. pending len_of_asked n (selected number_of_asked selects asked)) (omega arith)
              ∙ sym (pending-past len_of_asked (length (selected number_of_mark selects (take count (marks_of a ++ marks asked)))) a (selected number_of_asked selects asked) (omega arith))
              ∙ ap (pending len_of_asked (length (selected number_of_mark selects (take count (marks_of a ++ marks asked))))) (sym (filter_cons (λ x. selects (number_of_asked x)) a asked e))
          | inr ne ↦
              let none : length (selected number_of_mark selects (take count (marks_of a ++ marks asked))) ≡ length (selected number_of_mark selects (take (count - suc a.len) (marks asked))) =
              ap length (own ∙ ap (λ t'. t' ++ selected number_of_mark selects (take (count - suc a.len) (marks asked))) (burst_left_out selects a.number a.len ne)) in
              ap (λ n. pending len_of_asked n (selected number_of_asked selects asked)) (sym none)
              ∙ ap (pending len_of_asked (length (selected number_of_mark selects (take count (marks_of a ++ marks asked))))) (sym (filter_skip (λ x. selects (number_of_asked x)) a asked ne))
        ]
    | inr ge ↦
        ap (selected number_of_waiting selects) (pending-within len_of_asked count a asked ge)
        ∙ elim (cases_Bool (selects a.number)) [
          | inl e ↦
              filter_cons (λ w. selects (number_of_waiting w)) (record { request = a; done = count }) (pending len_of_asked 0 asked) e
              ∙ ap (λ rest. record { request = a; done = count } ∷ rest) (pending_of_selected 0 asked)
              ∙ sym (pending-within len_of_asked count a (selected number_of_asked selects asked) ge)
              ∙ ap (λ n. pending len_of_asked n (a ∷ selected number_of_asked selects asked)) (sym (length_own selects a.number count a.len (marks asked) e ge))
              ∙ ap (pending len_of_asked (length (selected number_of_mark selects (take count (marks_of a ++ marks asked))))) (sym (filter_cons (λ x. selects (number_of_asked x)) a asked e))
          | inr ne ↦
              filter_skip (λ w. selects (number_of_waiting w)) (record { request = a; done = count }) (pending len_of_asked 0 asked) ne
              ∙ pending_of_selected 0 asked
              ∙ ap (λ n. pending len_of_asked n (selected number_of_asked selects asked)) (sym (length_other selects a.number count a.len (marks asked) ne ge))
              ∙ ap (pending len_of_asked (length (selected number_of_mark selects (take count (marks_of a ++ marks asked))))) (sym (filter_skip (λ x. selects (number_of_asked x)) a asked ne))
        ]
  ]

-- marks of a beginning that don't reach the end of the first burst have no `last`
none_last : (number len : ℕ) (passed rest more : List Mark) → passed ++ rest ≡ burst_marks number len ++ more → length passed ≤ len → length (filter (λ (m : Mark). m.last) passed) ≡ 0
none_last number len [] rest more e le = refl
none_last number zero (m ∷ passed) rest more e le = absurd (omega arith)
none_last number (suc len) (m ∷ passed) rest more e le =
    let head : m ≡ record { number = number; last = false } = cc in
    let tail : passed ++ rest ≡ burst_marks number len ++ more = cc in
    ap (λ (h : Mark). length (cond h.last (m ∷ filter (λ (m : Mark). m.last) passed) (filter (λ (m : Mark). m.last) passed))) head ∙ none_last number len passed rest more tail (omega arith)

-- marks of a beginning that reach it begin with the burst
whole_burst : (number len : ℕ) (passed rest more : List Mark) → passed ++ rest ≡ burst_marks number len ++ more → len < length passed →
    (others : List Mark) × (others ++ rest ≡ more) × (length passed ≡ suc len + length others) × (length (filter (λ (m : Mark). m.last) passed) ≡ suc (length (filter (λ (m : Mark). m.last) others)))
whole_burst number len [] rest more e lt = absurd (omega arith)
whole_burst number zero (m ∷ passed) rest more e lt =
    let head : m ≡ record { number = number; last = true } = cc in
    let tail : passed ++ rest ≡ more = cc in
    (passed, tail, omega arith, ap (λ (h : Mark). length (cond h.last (m ∷ filter (λ (m : Mark). m.last) passed) (filter (λ (m : Mark). m.last) passed))) head)
whole_burst number (suc len) (m ∷ passed) rest more e lt =
    let head : m ≡ record { number = number; last = false } = cc in
    let tail : passed ++ rest ≡ burst_marks number len ++ more = cc in
    let found : (others : List Mark) × (others ++ rest ≡ more) × (length passed ≡ suc len + length others) × (length (filter (λ (m : Mark). m.last) passed) ≡ suc (length (filter (λ (m : Mark). m.last) others))) =
    whole_burst number len passed rest more tail (omega arith) in
    (found.0, found.1, omega (arith, found.2), ap (λ (h : Mark). length (cond h.last (m ∷ filter (λ (m : Mark). m.last) passed) (filter (λ (m : Mark). m.last) passed))) head ∙ found.3)

take_none : {X : Type 0} (n : ℕ) → take {A = X} n [] ≡ []
take_none zero = refl
take_none (suc n) = refl

completed_from : (asked : List Asked) (passed rest : List Mark) → passed ++ rest ≡ marks asked → completed asked passed ≡ complete len_of_asked (length passed) asked
completed_from [] passed rest e = take_none (length (filter (λ (m : Mark). m.last) passed))
completed_from (a ∷ asked) passed rest e = elim (cases_lt a.len (length passed)) [
  | inl lt ↦
      let found : (others : List Mark) × (others ++ rest ≡ marks asked) × (length passed ≡ suc a.len + length others) × (length (filter (λ (m : Mark). m.last) passed) ≡ suc (length (filter (λ (m : Mark). m.last) others))) =
      whole_burst a.number a.len passed rest (marks asked) e lt in
      ap (λ n. take n (a ∷ asked)) found.3
      ∙ ap (λ t. a ∷ t) (completed_from asked found.0 rest found.1)
      ∙ ap (λ n. a ∷ complete len_of_asked n asked) (omega (arith, found.2))
      ∙ sym (complete-past len_of_asked (length passed) a asked lt)
  | inr ge ↦
      ap (λ n. take n (a ∷ asked)) (none_last a.number a.len passed rest (marks asked) e ge)
      ∙ sym (complete-within len_of_asked (length passed) a asked ge)
]

pub completed_are_complete : (asked : List Asked) (passed : List Mark) → IsPrefix passed (marks asked) → completed asked passed ≡ complete len_of_asked (length passed) asked
completed_are_complete asked passed p = completed_from asked passed p.rest (sym p.whole)
