-- Each of the changed histories is refused.
use Rattle.std.proofs.Common.{◌≡◌, ◌<◌, ◌∷◌, [], ℕ, suc, List, Option, false, length, refl, ap, arith}
use Rattle.std.specs.Prelude.{set, sum}
use Rattle.axi_beats.specs.declared.response.Resp.{Resp}
use Rattle.axi_beats.specs.declared.response.Resp.TheVariants.{Okay, SlvErr, DecErr}
use Rattle.axi_history.specs.Answered.{AreInOrder}
use Rattle.axi_history.specs.KnownHistories.{UnansweredHistories, UndeliveredHistories, answer, byte_read, byte_written, fixed_write, five_transactions, good_answers, good_issues, issue, other_read, read_over_the_end, second_read}
use Rattle.axi_history.specs.Records.{Answer, Issue, Transaction}
use Rattle.axi_history.proofs.KnownHistoryLemmas.{any-of, backwards, five, no}

-- numbers by which lists are told apart
abbrev first_address : List (ℕ × Option ℕ) → ℕ
first_address [] = 0
first_address (access ∷ more) = access.0

abbrev has_error : List Resp → ℕ
has_error [] = 0
has_error (Okay ∷ more) = 0
has_error (SlvErr ∷ more) = 1
has_error (DecErr ∷ more) = 1

-- the two reads of manager 0 have an order
reads-in-order : AreInOrder read_over_the_end second_read
reads-in-order = record { manager = refl; id = refl; direction = refl; number = omega arith }

pub not_delivered : UndeliveredHistories
not_delivered = record {
  written_three_times = λ d. let p = d.in_burst_order 0 fixed_write (omega arith) in let l : 2 ≡ suc (suc (suc (length p.rest))) = ap length p.whole in absurd (omega (arith, l));
  swapped = λ d. let p = d.in_burst_order 2 other_read (omega arith) in let l : 16 ≡ 17 = ap first_address p.whole in no refl l;
  misrouted = λ d. any-of (λ (t : Transaction). (t.number ≡ 3) × (t.write ≡ false) × (t.target ≡ 2)) ⊥ five_transactions
      (five (λ h. no refl h.0) (λ h. no refl h.0) (λ h. no refl h.2) (λ h. no refl h.0) (λ h. no refl h.0)) (d.belongs 3 (byte_read 3 4 2 17 4) (omega arith));
  of_nobody = λ d. any-of (λ (t : Transaction). (t.number ≡ 9) × (t.write ≡ false) × (t.target ≡ 3)) ⊥ five_transactions
      (five (λ h. no refl h.0) (λ h. no refl h.0) (λ h. no refl h.0) (λ h. no refl h.0) (λ h. no refl h.0)) (d.belongs 6 (byte_read 9 9 3 16 4) (omega arith));
  byte_missing = λ d. let l : 1 ≡ 2 = ap length (d.whole 2 other_read (omega arith) (2, answer 3 6 Okay (4 ∷ 4 ∷ []), omega arith, refl, refl)) in no refl l;
  stale = λ d. let l : 7 ≡ 8 = d.reads_latest 1 read_over_the_end (omega arith) (byte_written 1 3 2 16 7 ∷ byte_written 1 4 2 16 8 ∷ byte_read 3 4 3 16 4 ∷ byte_read 3 4 3 17 4 ∷ []) (byte_read 4 9 2 16 8 ∷ []) (byte_read 2 8 2 16 7) refl refl refl in no refl l;
  seen_elsewhere = λ d. let l : 8 ≡ 4 = d.reads_latest 2 other_read (omega arith) (byte_written 1 3 2 16 7 ∷ byte_written 1 4 2 16 8 ∷ []) (byte_read 3 4 3 17 4 ∷ byte_read 2 8 2 16 8 ∷ byte_read 4 9 2 16 8 ∷ []) (byte_read 3 4 3 16 8) refl refl refl in no refl l;
  accessed_outside = λ d. let p = d.in_burst_order 1 read_over_the_end (omega arith) in let l : 1 ≡ suc (suc (length p.rest)) = ap length p.whole in absurd (omega (arith, l));
}

pub not_answered : UnansweredHistories
not_answered = record {
  answered_twice = λ a. a.answered_once 0 2 (answer 1 5 Okay []) (omega arith) (omega arith) refl;
  other_response = λ a. any-of (λ (t : Transaction). (t.number ≡ 2) × ((Okay ∷ []) ≡ t.response)) ⊥ five_transactions
      (five (λ h. no refl h.0) (λ h. (let l : 0 ≡ 1 = ap has_error h.1 in no refl l)) (λ h. no refl h.0) (λ h. no refl h.0) (λ h. no refl h.0)) (a.response 3 (answer 2 10 Okay (8 ∷ 0 ∷ [])) (omega arith));
  told_as_zero = λ a. let l : 0 ≡ 8 = ap sum (a.bytes 1 read_over_the_end (omega arith) 3 (answer 2 10 DecErr (0 ∷ 0 ∷ [])) (omega arith) refl) in no refl l;
  answered_at_its_access = λ a. let l : 8 < 8 = a.event_before_answer 3 (answer 2 8 DecErr (8 ∷ 0 ∷ [])) (omega arith) 4 (byte_read 2 8 2 16 8) (omega arith) refl in backwards refl l;
  answered_before_its_issue = λ a. any-of (λ (i : Issue). (i.number ≡ 5) × (i.round < 1)) ⊥ good_issues
      (five (λ h. no refl h.0) (λ h. no refl h.0) (λ h. backwards refl h.1) (λ h. no refl h.0) (λ h. no refl h.0)) (a.issue_before_answer 1 (answer 5 1 DecErr (0 ∷ [])) (omega arith));
  accessed_at_its_issue = λ a. any-of (λ (i : Issue). (i.number ≡ 3) × (i.round < 4)) ⊥ (set good_issues 1 (issue 3 4))
      (five (λ h. no refl h.0) (λ h. backwards refl h.1) (λ h. no refl h.0) (λ h. no refl h.0) (λ h. no refl h.0)) (a.issue_before_event 2 (byte_read 3 4 3 16 4) (omega arith));
  overtaken = λ a. a.events_in_order 1 read_over_the_end (omega arith) 3 second_read (omega arith) reads-in-order (byte_written 1 3 2 16 7 ∷ byte_written 1 4 2 16 8 ∷ byte_read 3 4 3 16 4 ∷ byte_read 3 4 3 17 4 ∷ [])
      (byte_read 2 9 2 16 8 ∷ []) (byte_read 4 8 2 16 8) refl refl 0 (byte_read 2 9 2 16 8) (omega arith) refl;
  issued_out_of_order = λ a. any-of (λ (i : Issue). (i.number ≡ 2) × (i.round < 6)) ⊥ (set (set good_issues 3 (issue 4 6)) 4 (issue 2 7))
      (five (λ h. no refl h.0) (λ h. no refl h.0) (λ h. no refl h.0) (λ h. no refl h.0) (λ h. backwards refl h.1)) (a.issues_in_order 1 read_over_the_end (omega arith) 3 second_read (omega arith) reads-in-order 3 (issue 4 6) (omega arith) refl);
  answered_out_of_order = λ a. any-of (λ (b : Answer). (b.number ≡ 2) × (b.round < 10)) ⊥ (set (set good_answers 3 (answer 4 10 Okay (8 ∷ []))) 4 (answer 2 11 DecErr (8 ∷ 0 ∷ [])))
      (five (λ h. no refl h.0) (λ h. no refl h.0) (λ h. no refl h.0) (λ h. no refl h.0) (λ h. backwards refl h.1)) (a.answers_in_order 1 read_over_the_end (omega arith) 3 second_read (omega arith) reads-in-order 3 (answer 4 10 Okay (8 ∷ [])) (omega arith) refl);
  issued_too_early = λ a. any-of (λ (b : Answer). (b.number ≡ 1) × (b.round < 5)) ⊥ good_answers
      (five (λ h. backwards refl h.1) (λ h. no refl h.0) (λ h. no refl h.0) (λ h. no refl h.0) (λ h. no refl h.0)) (a.waits 1 read_over_the_end (omega arith) 3 (issue 2 5) (omega arith) refl 0 fixed_write (omega arith));
  issued_twice = λ a. a.issued_once 0 5 (issue 1 1) (omega arith) (omega arith) refl;
  issued_by_nobody = λ a. any-of (λ (t : Transaction). t.number ≡ 9) ⊥ five_transactions
      (five (λ h. no refl h) (λ h. no refl h) (λ h. no refl h) (λ h. no refl h) (λ h. no refl h)) (a.issues_belong 2 (issue 9 2) (omega arith));
}
