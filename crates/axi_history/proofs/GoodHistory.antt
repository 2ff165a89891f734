-- The good history is delivered and answered.
use Rattle.std.proofs.Common.{◌≡◌, ◌<◌, ◌∷◌, [], ◌++◌, ℕ, List, false, length, take, refl, sym, ◌∙◌, arith, append-nil}
use Rattle.std.specs.Prelude.{◌≢◌, All, Any, map, slice_index_or}
use Rattle.std.specs.List.{AllByRecursion}
use Rattle.std.proofs.lemmas.List.Elements.{All-from_recursion, All-nil}
use Rattle.axi_beats.specs.declared.response.Resp.TheVariants.{Okay, DecErr}
use Rattle.axi_history.specs.Answered.{Answered, HasItsBytes, IsAnsweredBefore, IsIssuedBefore, WaitsForAnswers, transactions_by}
use Rattle.plain_lists.specs.Prefixes.{IsPrefix}
use Rattle.axi_history.specs.Delivered.{Delivered, HasAnswer, IsOf, access_due, access_made, is_write_at}
use Rattle.burst_address.specs.Accesses.{value_after}
use Rattle.axi_history.specs.KnownHistories.{GoodHistory, answer, five_transactions, fixed_write, good_answers, good_events, good_issues, issue, other_read, read_outside, read_over_the_end, second_read}
use Rattle.axi_history.specs.Records.{Answer, Event, Issue, Transaction, bytes_due, events_of}
use Rattle.axi_history.proofs.KnownHistoryLemmas.{EachBetween, five, four, no, of-five, of-the-two-reads, one, one-way, pairs-of, six, split-of, three, two}

-- ---- Delivery

in-burst-order : (t : Transaction) → map access_made (events_of t.number good_events) ≡ map access_due (bytes_due t) → IsPrefix (map access_made (events_of t.number good_events)) (map access_due (bytes_due t))
in-burst-order t whole = record { rest = []; whole = sym whole ∙ sym (append-nil (map access_made (events_of t.number good_events))) }

abbrev SeesLatest : Transaction → List Event → Event → List Event → Type 0
SeesLatest t earlier e later = e.number ≡ t.number → e.write ≡ false → e.value ≡ value_after (is_write_at e.node e.address) (λ (x : Event). x.value) t.fill earlier

reads-latest : (t : Transaction) → EachBetween (SeesLatest t) [] good_events → (earlier later : List Event) (e : Event) → good_events ≡ earlier ++ e ∷ later → e.number ≡ t.number → e.write ≡ false → e.value ≡ value_after (is_write_at e.node e.address) (λ (x : Event). x.value) t.fill earlier
reads-latest t each earlier later e are = split-of (SeesLatest t) good_events each earlier later e are

good-delivered : Delivered five_transactions good_events good_answers
good-delivered = record {
  belongs = All-from_recursion (IsOf five_transactions) good_events (six
      (0, fixed_write, omega arith, refl, (refl, refl, refl))
      (0, fixed_write, omega arith, refl, (refl, refl, refl))
      (2, other_read, omega arith, refl, (refl, refl, refl))
      (2, other_read, omega arith, refl, (refl, refl, refl))
      (1, read_over_the_end, omega arith, refl, (refl, refl, refl))
      (3, second_read, omega arith, refl, (refl, refl, refl)));
  in_burst_order = of-five (λ t. IsPrefix (map access_made (events_of t.number good_events)) (map access_due (bytes_due t)))
      (in-burst-order fixed_write refl) (in-burst-order read_over_the_end refl) (in-burst-order other_read refl) (in-burst-order second_read refl) (in-burst-order read_outside refl);
  whole = of-five (λ t. HasAnswer t good_answers → map access_made (events_of t.number good_events) ≡ map access_due (bytes_due t)) (λ _. refl) (λ _. refl) (λ _. refl) (λ _. refl) (λ _. refl);
  reads_latest = of-five (λ t. (earlier later : List Event) (e : Event) → good_events ≡ earlier ++ e ∷ later → e.number ≡ t.number → e.write ≡ false → e.value ≡ value_after (is_write_at e.node e.address) (λ (x : Event). x.value) t.fill earlier)
      (reads-latest fixed_write (six (λ _ w. one-way refl w) (λ _ w. one-way refl w) (no refl) (no refl) (no refl) (no refl)))
      (reads-latest read_over_the_end (six (no refl) (no refl) (no refl) (no refl) (λ _ _. refl) (no refl)))
      (reads-latest other_read (six (no refl) (no refl) (λ _ _. refl) (λ _ _. refl) (no refl) (no refl)))
      (reads-latest second_read (six (no refl) (no refl) (no refl) (no refl) (no refl) (λ _ _. refl)))
      (reads-latest read_outside (six (no refl) (no refl) (no refl) (no refl) (no refl) (no refl)));
}

-- ---- Answers

-- an issue of a number before a round, and so an answer
first-issue : (number round place : ℕ) (i : Issue) → place < length good_issues → slice_index_or good_issues place i ≡ i → i.number ≡ number → i.round < round → IsIssuedBefore good_issues number round
first-issue number round place i within is same less = (place, i, within, is, (same, less))

first-answer : (number round place : ℕ) (a : Answer) → place < length good_answers → slice_index_or good_answers place a ≡ a → a.number ≡ number → a.round < round → IsAnsweredBefore good_answers number round
first-answer number round place a within is same less = (place, a, within, is, (same, less))

abbrev Belongs : Issue → Type 0
Belongs i = Any (λ (t : Transaction). t.number ≡ i.number) five_transactions

abbrev HasResponse : Answer → Type 0
HasResponse a = Any (λ (t : Transaction). (t.number ≡ a.number) × (a.responses ≡ t.response)) five_transactions

has-bytes : (t : Transaction) → AllByRecursion (HasItsBytes good_events t) good_answers → All (HasItsBytes good_events t) good_answers
has-bytes t each = All-from_recursion (HasItsBytes good_events t) good_answers each

abbrev IsBeforeAnswer : Answer → Event → Type 0
IsBeforeAnswer a e = e.number ≡ a.number → e.round < a.round

before-answer : (a : Answer) → AllByRecursion (IsBeforeAnswer a) good_events → All (IsBeforeAnswer a) good_events
before-answer a each = All-from_recursion (IsBeforeAnswer a) good_events each

abbrev WaitsAt : Transaction → Issue → Type 0
WaitsAt t i = i.number ≡ t.number → All (λ (u : Transaction). IsAnsweredBefore good_answers u.number i.round) (take t.after (transactions_by t.manager five_transactions))

waits-for : (t : Transaction) → AllByRecursion (WaitsAt t) good_issues → WaitsForAnswers five_transactions good_issues good_answers t
waits-for t each = All-from_recursion (WaitsAt t) good_issues each

write-answered : (round : ℕ) → 5 < round → All (λ (u : Transaction). IsAnsweredBefore good_answers u.number round) (fixed_write ∷ [])
write-answered round less = All-from_recursion (λ (u : Transaction). IsAnsweredBefore good_answers u.number round) (fixed_write ∷ []) (one (first-answer 1 round 0 (answer 1 5 Okay []) (omega arith) refl refl less))

none-awaited : (round : ℕ) → All (λ (u : Transaction). IsAnsweredBefore good_answers u.number round) []
none-awaited round = All-nil (λ (u : Transaction). IsAnsweredBefore good_answers u.number round)

good-answered : Answered five_transactions good_issues good_events good_answers
good-answered = record {
  issues_belong = All-from_recursion Belongs good_issues (five
      (0, fixed_write, omega arith, refl, refl)
      (2, other_read, omega arith, refl, refl)
      (4, read_outside, omega arith, refl, refl)
      (1, read_over_the_end, omega arith, refl, refl)
      (3, second_read, omega arith, refl, refl));
  issued_once = pairs-of (λ (i j : Issue). i.number ≢ j.number) good_issues (five
      (four (no refl) (no refl) (no refl) (no refl))
      (three (no refl) (no refl) (no refl))
      (two (no refl) (no refl))
      (one (no refl))
      tt);
  answered_once = pairs-of (λ (a b : Answer). a.number ≢ b.number) good_answers (five
      (four (no refl) (no refl) (no refl) (no refl))
      (three (no refl) (no refl) (no refl))
      (two (no refl) (no refl))
      (one (no refl))
      tt);
  response = All-from_recursion HasResponse good_answers (five
      (0, fixed_write, omega arith, refl, (refl, refl))
      (4, read_outside, omega arith, refl, (refl, refl))
      (2, other_read, omega arith, refl, (refl, refl))
      (1, read_over_the_end, omega arith, refl, (refl, refl))
      (3, second_read, omega arith, refl, (refl, refl)));
  bytes = of-five (λ t. All (HasItsBytes good_events t) good_answers)
      (has-bytes fixed_write (five (λ _. refl) (no refl) (no refl) (no refl) (no refl)))
      (has-bytes read_over_the_end (five (no refl) (no refl) (no refl) (λ _. refl) (no refl)))
      (has-bytes other_read (five (no refl) (no refl) (λ _. refl) (no refl) (no refl)))
      (has-bytes second_read (five (no refl) (no refl) (no refl) (no refl) (λ _. refl)))
      (has-bytes read_outside (five (no refl) (λ _. refl) (no refl) (no refl) (no refl)));
  issue_before_event = All-from_recursion (λ (e : Event). IsIssuedBefore good_issues e.number e.round) good_events (six
      (first-issue 1 3 0 (issue 1 1) (omega arith) refl refl (omega arith))
      (first-issue 1 4 0 (issue 1 1) (omega arith) refl refl (omega arith))
      (first-issue 3 4 1 (issue 3 1) (omega arith) refl refl (omega arith))
      (first-issue 3 4 1 (issue 3 1) (omega arith) refl refl (omega arith))
      (first-issue 2 8 3 (issue 2 6) (omega arith) refl refl (omega arith))
      (first-issue 4 9 4 (issue 4 7) (omega arith) refl refl (omega arith)));
  event_before_answer = All-from_recursion (λ (a : Answer). All (IsBeforeAnswer a) good_events) good_answers (five
      (before-answer (answer 1 5 Okay []) (six (λ _. omega arith) (λ _. omega arith) (no refl) (no refl) (no refl) (no refl)))
      (before-answer (answer 5 5 DecErr (0 ∷ [])) (six (no refl) (no refl) (no refl) (no refl) (no refl) (no refl)))
      (before-answer (answer 3 6 Okay (4 ∷ 4 ∷ [])) (six (no refl) (no refl) (λ _. omega arith) (λ _. omega arith) (no refl) (no refl)))
      (before-answer (answer 2 10 DecErr (8 ∷ 0 ∷ [])) (six (no refl) (no refl) (no refl) (no refl) (λ _. omega arith) (no refl)))
      (before-answer (answer 4 11 Okay (8 ∷ [])) (six (no refl) (no refl) (no refl) (no refl) (no refl) (λ _. omega arith))));
  issue_before_answer = All-from_recursion (λ (a : Answer). IsIssuedBefore good_issues a.number a.round) good_answers (five
      (first-issue 1 5 0 (issue 1 1) (omega arith) refl refl (omega arith))
      (first-issue 5 5 2 (issue 5 2) (omega arith) refl refl (omega arith))
      (first-issue 3 6 1 (issue 3 1) (omega arith) refl refl (omega arith))
      (first-issue 2 10 3 (issue 2 6) (omega arith) refl refl (omega arith))
      (first-issue 4 11 4 (issue 4 7) (omega arith) refl refl (omega arith)));
  issues_in_order = of-the-two-reads (λ t u. All (λ (i : Issue). i.number ≡ u.number → IsIssuedBefore good_issues t.number i.round) good_issues)
      (All-from_recursion (λ (i : Issue). i.number ≡ 4 → IsIssuedBefore good_issues 2 i.round) good_issues (five (no refl) (no refl) (no refl) (no refl) (λ _. first-issue 2 7 3 (issue 2 6) (omega arith) refl refl (omega arith))));
  answers_in_order = of-the-two-reads (λ t u. All (λ (a : Answer). a.number ≡ u.number → IsAnsweredBefore good_answers t.number a.round) good_answers)
      (All-from_recursion (λ (a : Answer). a.number ≡ 4 → IsAnsweredBefore good_answers 2 a.round) good_answers (five (no refl) (no refl) (no refl) (no refl) (λ _. first-answer 2 11 3 (answer 2 10 DecErr (8 ∷ 0 ∷ [])) (omega arith) refl refl (omega arith))));
  events_in_order = of-the-two-reads (λ t u. (earlier later : List Event) (e : Event) → good_events ≡ earlier ++ e ∷ later → e.number ≡ u.number → All (λ (x : Event). x.number ≢ t.number) later)
      (split-of (λ _ e later. e.number ≡ 4 → All (λ (x : Event). x.number ≢ 2) later) good_events (six (no refl) (no refl) (no refl) (no refl) (no refl) (λ _. All-nil (λ (x : Event). x.number ≢ 2))));
  waits = of-five (WaitsForAnswers five_transactions good_issues good_answers)
      (waits-for fixed_write (five (λ _. none-awaited 1) (no refl) (no refl) (no refl) (no refl)))
      (waits-for read_over_the_end (five (no refl) (no refl) (no refl) (λ _. write-answered 6 (omega arith)) (no refl)))
      (waits-for other_read (five (no refl) (λ _. none-awaited 1) (no refl) (no refl) (no refl)))
      (waits-for second_read (five (no refl) (no refl) (no refl) (no refl) (λ _. write-answered 7 (omega arith))))
      (waits-for read_outside (five (no refl) (no refl) (λ _. none-awaited 2) (no refl) (no refl)));
}

pub good_history : GoodHistory
good_history = record { delivered = good-delivered; answered = good-answered }
