-- The history of the known run is delivered and answered, and each changed one is refused.
use Rattle.std.proofs.Common.{◌≡◌, ◌<◌, ◌∷◌, [], ◌++◌, ℕ, suc, List, false, length, take, refl, sym, ◌∙◌, ap, arith, append-nil}
use Rattle.std.specs.Prelude.{◌≢◌, All, Any, map, slice_index_or, sum}
use Rattle.std.specs.List.{AllByRecursion}
use Rattle.std.proofs.lemmas.List.Elements.{All-from_recursion, All-nil}
use Rattle.axi_beats.specs.declared.response.Resp.TheVariants.{Okay}
use Rattle.axi_history.proofs.KnownHistoryLemmas.{EachBetween, any-of, backwards, five, no, one, one-way, pairs-of, split-of, three, two}
use Rattle.axi_history.specs.Answered.{AreInOrder, Answered, HasItsBytes, IsAnsweredBefore, IsIssuedBefore, OfEachTwo, WaitsForAnswers, transactions_by}
use Rattle.axi_history.specs.Delivered.{Delivered, HasAnswer, IsOf, access_due, access_made, is_write_at}
use Rattle.axi_history.specs.KnownHistories.{answer, byte_read, byte_written, issue}
use Rattle.axi_history.specs.Records.{Answer, Event, Issue, Transaction, bytes_due, events_of}
use Rattle.burst_address.specs.Accesses.{value_after}
use Rattle.net_due.proofs.KnownNetwork.{ways-due, ways-sound}
use Rattle.net_due.specs.KnownRuns.{RunIsKnown, answers_made, events_made, issues_made, its_read, its_write, read_of_other, three_transactions}
use Rattle.plain_lists.specs.Prefixes.{IsPrefix}

-- what holds of each of the three transactions
of-three : (P : Transaction → Type 0) → P its_write → P its_read → P read_of_other → All P three_transactions
of-three P a b c = All-from_recursion P three_transactions (three a b c)

-- no two of them have an order: of manager a one is a write and one a read
no-order : (P : Transaction → Transaction → Type 0) → OfEachTwo three_transactions (λ t u. AreInOrder t u → P t u)
no-order P =
    of-three (λ t. All (λ u. AreInOrder t u → P t u) three_transactions)
    (of-three (λ u. AreInOrder its_write u → P its_write u) (λ o. backwards refl o.number) (λ o. one-way refl o.direction) (λ o. no refl o.manager))
    (of-three (λ u. AreInOrder its_read u → P its_read u) (λ o. backwards refl o.number) (λ o. backwards refl o.number) (λ o. no refl o.manager))
    (of-three (λ u. AreInOrder read_of_other u → P read_of_other u) (λ o. backwards refl o.number) (λ o. backwards refl o.number) (λ o. backwards refl o.number))

-- ---- delivery

all-made : (t : Transaction) → map access_made (events_of t.number events_made) ≡ map access_due (bytes_due t) → IsPrefix (map access_made (events_of t.number events_made)) (map access_due (bytes_due t))
all-made t whole = record { rest = []; whole = sym whole ∙ sym (append-nil (map access_made (events_of t.number events_made))) }

abbrev SeesLatest : Transaction → List Event → Event → List Event → Type 0
SeesLatest t earlier e later = e.number ≡ t.number → e.write ≡ false → e.value ≡ value_after (is_write_at e.node e.address) (λ (x : Event). x.value) t.fill earlier

reads-latest : (t : Transaction) → EachBetween (SeesLatest t) [] events_made → (earlier later : List Event) (e : Event) → events_made ≡ earlier ++ e ∷ later → e.number ≡ t.number → e.write ≡ false →
    e.value ≡ value_after (is_write_at e.node e.address) (λ (x : Event). x.value) t.fill earlier
reads-latest t each earlier later e are = split-of (SeesLatest t) events_made each earlier later e are

all-delivered : Delivered three_transactions events_made answers_made
all-delivered = record {
  belongs = All-from_recursion (IsOf three_transactions) events_made (five
      (2, read_of_other, omega arith, refl, (refl, refl, refl))
      (2, read_of_other, omega arith, refl, (refl, refl, refl))
      (0, its_write, omega arith, refl, (refl, refl, refl))
      (0, its_write, omega arith, refl, (refl, refl, refl))
      (1, its_read, omega arith, refl, (refl, refl, refl)));
  in_burst_order = of-three (λ t. IsPrefix (map access_made (events_of t.number events_made)) (map access_due (bytes_due t)))
      (all-made its_write refl) (all-made its_read refl) (all-made read_of_other refl);
  whole = of-three (λ t. HasAnswer t answers_made → map access_made (events_of t.number events_made) ≡ map access_due (bytes_due t)) (λ _. refl) (λ _. refl) (λ _. refl);
  reads_latest = of-three (λ t. (earlier later : List Event) (e : Event) → events_made ≡ earlier ++ e ∷ later → e.number ≡ t.number → e.write ≡ false → e.value ≡ value_after (is_write_at e.node e.address) (λ (x : Event). x.value) t.fill earlier)
      (reads-latest its_write (five (no refl) (no refl) (λ _ w. one-way refl w) (λ _ w. one-way refl w) (no refl)))
      (reads-latest its_read (five (no refl) (no refl) (no refl) (no refl) (λ _ _. refl)))
      (reads-latest read_of_other (five (λ _ _. refl) (λ _ _. refl) (no refl) (no refl) (no refl)));
}

-- ---- answers

before : (number round place : ℕ) (i : Issue) → place < length issues_made → slice_index_or issues_made place i ≡ i → i.number ≡ number → i.round < round → IsIssuedBefore issues_made number round
before number round place i within is same less = (place, i, within, is, (same, less))

has-bytes : (t : Transaction) → AllByRecursion (HasItsBytes events_made t) answers_made → All (HasItsBytes events_made t) answers_made
has-bytes t each = All-from_recursion (HasItsBytes events_made t) answers_made each

abbrev IsBeforeAnswer : Answer → Event → Type 0
IsBeforeAnswer a e = e.number ≡ a.number → e.round < a.round

before-answer : (a : Answer) → AllByRecursion (IsBeforeAnswer a) events_made → All (IsBeforeAnswer a) events_made
before-answer a each = All-from_recursion (IsBeforeAnswer a) events_made each

abbrev WaitsAt : Transaction → Issue → Type 0
WaitsAt t i = i.number ≡ t.number → All (λ (u : Transaction). IsAnsweredBefore answers_made u.number i.round) (take t.after (transactions_by t.manager three_transactions))

waits-for : (t : Transaction) → AllByRecursion (WaitsAt t) issues_made → WaitsForAnswers three_transactions issues_made answers_made t
waits-for t each = All-from_recursion (WaitsAt t) issues_made each

write-answered : All (λ (u : Transaction). IsAnsweredBefore answers_made u.number 7) (its_write ∷ [])
write-answered = All-from_recursion (λ (u : Transaction). IsAnsweredBefore answers_made u.number 7) (its_write ∷ []) (one (1, answer 1 6 Okay [], omega arith, refl, (refl, omega arith)))

none-awaited : (round : ℕ) → All (λ (u : Transaction). IsAnsweredBefore answers_made u.number round) []
none-awaited round = All-nil (λ (u : Transaction). IsAnsweredBefore answers_made u.number round)

all-answered : Answered three_transactions issues_made events_made answers_made
all-answered = record {
  issues_belong = All-from_recursion (λ (i : Issue). Any (λ (t : Transaction). t.number ≡ i.number) three_transactions) issues_made (three
      (0, its_write, omega arith, refl, refl)
      (2, read_of_other, omega arith, refl, refl)
      (1, its_read, omega arith, refl, refl));
  issued_once = pairs-of (λ (i j : Issue). i.number ≢ j.number) issues_made (three (two (no refl) (no refl)) (one (no refl)) tt);
  answered_once = pairs-of (λ (a b : Answer). a.number ≢ b.number) answers_made (three (two (no refl) (no refl)) (one (no refl)) tt);
  response = All-from_recursion (λ (a : Answer). Any (λ (t : Transaction). (t.number ≡ a.number) × (a.responses ≡ t.response)) three_transactions) answers_made (three
      (2, read_of_other, omega arith, refl, (refl, refl))
      (0, its_write, omega arith, refl, (refl, refl))
      (1, its_read, omega arith, refl, (refl, refl)));
  bytes = of-three (λ t. All (HasItsBytes events_made t) answers_made)
      (has-bytes its_write (three (no refl) (λ _. refl) (no refl)))
      (has-bytes its_read (three (no refl) (no refl) (λ _. refl)))
      (has-bytes read_of_other (three (λ _. refl) (no refl) (no refl)));
  issue_before_event = All-from_recursion (λ (e : Event). IsIssuedBefore issues_made e.number e.round) events_made (five
      (before 3 3 1 (issue 3 1) (omega arith) refl refl (omega arith))
      (before 3 3 1 (issue 3 1) (omega arith) refl refl (omega arith))
      (before 1 4 0 (issue 1 1) (omega arith) refl refl (omega arith))
      (before 1 5 0 (issue 1 1) (omega arith) refl refl (omega arith))
      (before 2 10 2 (issue 2 7) (omega arith) refl refl (omega arith)));
  event_before_answer = All-from_recursion (λ (a : Answer). All (IsBeforeAnswer a) events_made) answers_made (three
      (before-answer (answer 3 4 Okay (4 ∷ 4 ∷ [])) (five (λ _. omega arith) (λ _. omega arith) (no refl) (no refl) (no refl)))
      (before-answer (answer 1 6 Okay []) (five (no refl) (no refl) (λ _. omega arith) (λ _. omega arith) (no refl)))
      (before-answer (answer 2 12 Okay (8 ∷ [])) (five (no refl) (no refl) (no refl) (no refl) (λ _. omega arith))));
  issue_before_answer = All-from_recursion (λ (a : Answer). IsIssuedBefore issues_made a.number a.round) answers_made (three
      (before 3 4 1 (issue 3 1) (omega arith) refl refl (omega arith))
      (before 1 6 0 (issue 1 1) (omega arith) refl refl (omega arith))
      (before 2 12 2 (issue 2 7) (omega arith) refl refl (omega arith)));
  issues_in_order = no-order (λ t u. All (λ (i : Issue). i.number ≡ u.number → IsIssuedBefore issues_made t.number i.round) issues_made);
  answers_in_order = no-order (λ t u. All (λ (a : Answer). a.number ≡ u.number → IsAnsweredBefore answers_made t.number a.round) answers_made);
  events_in_order =
      no-order (λ t u. (earlier later : List Event) (e : Event) → events_made ≡ earlier ++ e ∷ later → e.number ≡ u.number → All (λ (x : Event). x.number ≢ t.number) later);
  waits = of-three (WaitsForAnswers three_transactions issues_made answers_made)
      (waits-for its_write (three (λ _. none-awaited 1) (no refl) (no refl)))
      (waits-for its_read (three (no refl) (no refl) (λ _. write-answered)))
      (waits-for read_of_other (three (no refl) (λ _. none-awaited 1) (no refl)));
}

-- ---- the changed histories

pub run-is_known : RunIsKnown
run-is_known = record {
  sound = ways-sound;
  due = ways-due;
  delivered = all-delivered;
  answered = all-answered;
  misrouted = λ d. any-of (λ (t : Transaction). (t.number ≡ 3) × (t.write ≡ false) × (t.target ≡ 3)) ⊥ three_transactions
      (three (λ h. no refl h.0) (λ h. no refl h.0) (λ h. no refl h.2)) (d.belongs 1 (byte_read 3 3 3 4113 4) (omega arith));
  written_again = λ d. let p = d.in_burst_order 0 its_write (omega arith) in let l : 2 ≡ suc (suc (suc (length p.rest))) = ap length p.whole in absurd (omega (arith, l));
  stale = λ d. let l : 7 ≡ 8 = d.reads_latest 1 its_read (omega arith) (byte_read 3 3 4 4112 4 ∷ byte_read 3 3 4 4113 4 ∷ byte_written 1 4 3 16 7 ∷ byte_written 1 5 3 16 8 ∷ []) [] (byte_read 2 10 3 16 7) refl refl refl in no refl l;
  unwritten = λ d. let l : 1 ≡ 2 = ap length (d.whole 0 its_write (omega arith) (1, answer 1 6 Okay [], omega arith, refl, refl)) in no refl l;
  too_early = λ a. any-of (λ (b : Answer). (b.number ≡ 1) × (b.round < 6)) ⊥ answers_made
      (three (λ h. no refl h.0) (λ h. backwards refl h.1) (λ h. no refl h.0)) (a.waits 1 its_read (omega arith) 2 (issue 2 6) (omega arith) refl 0 its_write (omega arith));
  told_otherwise = λ a. let l : 7 ≡ 8 = ap sum (a.bytes 1 its_read (omega arith) 2 (answer 2 12 Okay (7 ∷ [])) (omega arith) refl) in no refl l;
  answered_at_its_access = λ a. let l : 10 < 10 = a.event_before_answer 2 (answer 2 10 Okay (8 ∷ [])) (omega arith) 4 (byte_read 2 10 3 16 8) (omega arith) refl in backwards refl l;
}
