-- Facts on the beats of a number or of an ID, and on how many they are.
use Rattle.std.proofs.Common.{◌≡◌, ℕ, ◌+◌, ◌==◌, suc, zero, Bool, true, false, List, [], ◌∷◌, ◌++◌, length, replicate, refl, sym, ◌∙◌, ap, subst, inl, inr, arith, length-append}
use Rattle.std.proofs.lemmas.Bool.{cases_eq, cases_Bool}
use Rattle.std.proofs.lemmas.List.{length-replicate}
use Rattle.std.proofs.lemmas.List.Elements.{filter-append}
use Rattle.axi_trail.specs.Words.{Asked, burst_marks, marks_of, marks, beats_due, number_of_mark, number_of_asked, id_of_asked}
use Rattle.plain_lists.specs.Keys.{of_key, count_of, selected}
use Rattle.plain_lists.proofs.KeyLemmas.{count_of-append, filter_cons, filter_skip, count_of-replicate, of_key-cons, count_of-replicate_other, of_key-skip}

-- the marks of a burst
pub length-burst_marks : (number len : ℕ) → length (burst_marks number len) ≡ suc len
length-burst_marks number zero = refl
length-burst_marks number (suc len) = ap suc (length-burst_marks number len)

pub burst_selected : (selects : ℕ → Bool) (number len : ℕ) → selects number ≡ true → selected number_of_mark selects (burst_marks number len) ≡ burst_marks number len
burst_selected selects number zero e = filter_cons (λ m. selects (number_of_mark m)) (record { number = number; last = true }) [] e
burst_selected selects number (suc len) e =
    filter_cons (λ m. selects (number_of_mark m)) (record { number = number; last = false }) (burst_marks number len) e
    ∙ ap (λ rest. record { number = number; last = false } ∷ rest) (burst_selected selects number len e)

pub burst_left_out : (selects : ℕ → Bool) (number len : ℕ) → selects number ≡ false → selected number_of_mark selects (burst_marks number len) ≡ []
burst_left_out selects number zero e = filter_skip (λ m. selects (number_of_mark m)) (record { number = number; last = true }) [] e
burst_left_out selects number (suc len) e =
    filter_skip (λ m. selects (number_of_mark m)) (record { number = number; last = false }) (burst_marks number len) e ∙ burst_left_out selects number len e

-- the marks of selected transactions are those of their requests
pub marks-selected : (selects : ℕ → Bool) (asked : List Asked) → selected number_of_mark selects (marks asked) ≡ marks (selected number_of_asked selects asked)
marks-selected selects [] = refl
marks-selected selects (a ∷ asked) =
    filter-append (λ m. selects (number_of_mark m)) (marks_of a) (marks asked)
    ∙ elim (cases_Bool (selects a.number)) [
      | inl e ↦ ap (λ own. own ++ selected number_of_mark selects (marks asked)) (burst_selected selects a.number a.len e)
          ∙ ap (λ rest. marks_of a ++ rest) (marks-selected selects asked)
          ∙ ap marks (sym (filter_cons (λ x. selects (number_of_asked x)) a asked e))
      | inr ne ↦ ap (λ own. own ++ selected number_of_mark selects (marks asked)) (burst_left_out selects a.number a.len ne)
          ∙ marks-selected selects asked
          ∙ ap marks (sym (filter_skip (λ x. selects (number_of_asked x)) a asked ne))
    ]

pub marks-of_number : (t : ℕ) (asked : List Asked) → of_key number_of_mark t (marks asked) ≡ marks (of_key number_of_asked t asked)
marks-of_number t asked = marks-selected (λ n. n == t) asked

pub length-marks : (asked : List Asked) → length (marks asked) ≡ beats_due asked
length-marks [] = refl
length-marks (a ∷ asked) = omega (arith, length-append (marks_of a) (marks asked), length-burst_marks a.number a.len, length-marks asked)

pub beats_due-append : (xs ys : List Asked) → beats_due (xs ++ ys) ≡ beats_due xs + beats_due ys
beats_due-append [] ys = omega arith
beats_due-append (a ∷ xs) ys = omega (arith, beats_due-append xs ys)

-- the ID of each beat that the requests ask for
pub ids_of_beats : List Asked → List ℕ
ids_of_beats [] = []
ids_of_beats (a ∷ asked) = replicate (suc a.len) a.id ++ ids_of_beats asked

pub length-ids_of_beats : (asked : List Asked) → length (ids_of_beats asked) ≡ beats_due asked
unfolding ids_of_beats
length-ids_of_beats [] = refl
length-ids_of_beats (a ∷ asked) = omega (arith, length-append (replicate (suc a.len) a.id) (ids_of_beats asked), length-replicate (suc a.len) a.id, length-ids_of_beats asked)

pub count_of-ids_of_beats : (i : ℕ) (asked : List Asked) → count_of i (ids_of_beats asked) ≡ beats_due (of_key id_of_asked i asked)
unfolding ids_of_beats
count_of-ids_of_beats i [] = refl
count_of-ids_of_beats i (a ∷ asked) =
    count_of-append i (replicate (suc a.len) a.id) (ids_of_beats asked)
    ∙ elim (cases_eq a.id i) [
      | inl e ↦
          let mine : count_of i (replicate (suc a.len) a.id) ≡ suc a.len = subst (λ (j : ℕ). count_of j (replicate (suc a.len) a.id) ≡ suc a.len) e (count_of-replicate a.id (suc a.len)) in
          let kept : beats_due (of_key id_of_asked i (a ∷ asked)) ≡ suc a.len + beats_due (of_key id_of_asked i asked) = ap beats_due (of_key-cons id_of_asked i a asked e) in
          omega (arith, count_of-ids_of_beats i asked)
      | inr ne ↦
          let none : count_of i (replicate (suc a.len) a.id) ≡ 0 = count_of-replicate_other i a.id (suc a.len) ne in
          let kept : beats_due (of_key id_of_asked i (a ∷ asked)) ≡ beats_due (of_key id_of_asked i asked) = ap beats_due (of_key-skip id_of_asked i a asked ne) in
          omega (arith, count_of-ids_of_beats i asked)
    ]
