-- What is said of transactions depends on those of each manager alone, in order.
use Rattle.std.proofs.Common.{◌≡◌, ◌==◌, ◌∷◌, [], ℕ, zero, suc, Bool, true, false, cond, List, Some, refl, sym, ap, ◌∙◌, subst, arith}
use Rattle.std.specs.Prelude.{◌++◌, All, Any, Contains, filter, map, slice_get, take}
use Rattle.std.proofs.lemmas.Bool.{eq-eqb}
use Rattle.std.proofs.lemmas.List.Elements.{All-contains, All-contains_itself, All-weaker}
use Rattle.axi_history.specs.Answered.{AreAccessedInOrder, AreAnsweredInOrder, AreIssuedInOrder, Answered, HasItsBytes, IsAnsweredBefore, OfEachTwo, WaitsForAnswers, transactions_by}
use Rattle.axi_history.specs.Delivered.{Delivered, HasAnswer, IsOf, access_due, access_made, is_write_at}
use Rattle.axi_history.specs.Records.{Answer, Event, Issue, Transaction, bytes_due, events_of}
use Rattle.burst_address.specs.Accesses.{value_after}
use Rattle.plain_lists.proofs.PlaceLemmas.{at-contains, contains-at, filter-from}
use Rattle.plain_lists.specs.Prefixes.{IsPrefix}

-- each manager has the same transactions in both lists, in the same order
abbrev pub AreSame : List Transaction → List Transaction → Type 0
AreSame one other = (manager : ℕ) → transactions_by manager one ≡ transactions_by manager other

-- an element that passes is among those that pass
kept-there : (p : Transaction → Bool) (ts : List Transaction) (k : ℕ) (t : Transaction) → slice_get ts k ≡ Some t → p t ≡ true → Contains (filter p ts) t
kept-there p [] k t at passes = absurd (cc)
kept-there p (u ∷ us) zero t at passes =
    let same : u ≡ t = cc in
    go (p u) (ap p same ∙ passes) same
  where
    go : (b : Bool) → b ≡ true → u ≡ t → Contains (cond b (u ∷ filter p us) (filter p us)) t
    go true e same = (0, omega arith, same)
    go false e same = absurd (cc)
kept-there p (u ∷ us) (suc k) t at passes = go (kept-there p us k t at passes) (p u)
  where
    go : Contains (filter p us) t → (b : Bool) → Contains (cond b (u ∷ filter p us) (filter p us)) t
    go (n, within, is) true = (suc n, omega (arith, within), is)
    go rest false = rest

module _ (one other : List Transaction) (same : AreSame one other) where
  there-too : (t : Transaction) → Contains one t → Contains other t
  there-too t has =
      let spot = at-contains one t has in
      let kept = kept-there (λ (u : Transaction). u.manager == t.manager) one spot.0 t spot.1 (eq-eqb t.manager t.manager refl) in
      let moved : Contains (transactions_by t.manager other) t = subst (λ (ts : List Transaction). Contains ts t) (same t.manager) kept in
      let found = at-contains (transactions_by t.manager other) t moved in
      let from = filter-from (λ (u : Transaction). u.manager == t.manager) other found.0 t found.1 in
      contains-at other from.1 t from.2

  -- what holds of some transaction
  pub any-same : (P : Transaction → Type 0) → Any P one → Any P other
  any-same P (k, t, within, is, has) = let there = there-too t (k, within, is) in (there.0, t, there.1, there.2, has)

module _ (one other : List Transaction) (same : AreSame one other) where
  -- and what holds of all
  pub all-same : (P : Transaction → Type 0) → All P one → All P other
  all-same P all =
      All-weaker (Contains other) P (λ t has. All-contains P one t all (there-too other one (λ manager. sym (same manager)) t has)) other (All-contains_itself other)

  each-two : (Sentence : Transaction → Transaction → Type 0) → OfEachTwo one Sentence → OfEachTwo other Sentence
  each-two Sentence all =
      All-weaker (λ (t : Transaction). All (λ (u : Transaction). Sentence t u) one) (λ (t : Transaction). All (λ (u : Transaction). Sentence t u) other)
      (λ t each. all-same (λ (u : Transaction). Sentence t u) each) other (all-same (λ (t : Transaction). All (λ (u : Transaction). Sentence t u) one) all)

  pub delivered-same : (events : List Event) (answers : List Answer) → Delivered one events answers → Delivered other events answers
  delivered-same events answers delivered = record {
    belongs = All-weaker (IsOf one) (IsOf other) (λ e of_one. any-same one other same (λ (t : Transaction). (t.number ≡ e.number) × (t.write ≡ e.write) × (t.target ≡ e.node)) of_one) events delivered.belongs;
    in_burst_order = all-same (λ (t : Transaction). IsPrefix (map access_made (events_of t.number events)) (map access_due (bytes_due t))) delivered.in_burst_order;
    whole = all-same (λ (t : Transaction). HasAnswer t answers → map access_made (events_of t.number events) ≡ map access_due (bytes_due t)) delivered.whole;
    reads_latest =
        all-same
        (λ (t : Transaction). (earlier later : List Event) (e : Event) → events ≡ earlier ++ e ∷ later → e.number ≡ t.number → e.write ≡ false → e.value ≡ value_after (is_write_at e.node e.address) (λ (x : Event). x.value) t.fill earlier)
        delivered.reads_latest;
  }

  pub answered-same : (issues : List Issue) (events : List Event) (answers : List Answer) → Answered one issues events answers → Answered other issues events answers
  answered-same issues events answers answered = record {
    issues_belong =
        All-weaker (λ (i : Issue). Any (λ (t : Transaction). t.number ≡ i.number) one) (λ (i : Issue). Any (λ (t : Transaction). t.number ≡ i.number) other)
        (λ i of_one. any-same one other same (λ (t : Transaction). t.number ≡ i.number) of_one) issues answered.issues_belong;
    issued_once = answered.issued_once;
    answered_once = answered.answered_once;
    response =
        All-weaker (λ (a : Answer). Any (λ (t : Transaction). (t.number ≡ a.number) × (a.responses ≡ t.response)) one)
        (λ (a : Answer). Any (λ (t : Transaction). (t.number ≡ a.number) × (a.responses ≡ t.response)) other)
        (λ a of_one. any-same one other same (λ (t : Transaction). (t.number ≡ a.number) × (a.responses ≡ t.response)) of_one) answers answered.response;
    bytes = all-same (λ (t : Transaction). All (HasItsBytes events t) answers) answered.bytes;
    issue_before_event = answered.issue_before_event;
    event_before_answer = answered.event_before_answer;
    issue_before_answer = answered.issue_before_answer;
    issues_in_order = each-two (AreIssuedInOrder issues) answered.issues_in_order;
    answers_in_order = each-two (AreAnsweredInOrder answers) answered.answers_in_order;
    events_in_order = each-two (AreAccessedInOrder events) answered.events_in_order;
    waits =
        All-weaker (WaitsForAnswers one issues answers) (WaitsForAnswers other issues answers)
        (λ t waits. subst
        (λ (ts : List Transaction). All (λ (i : Issue). i.number ≡ t.number → All (λ (u : Transaction). IsAnsweredBefore answers u.number i.round) (take t.after ts)) issues)
        (same t.manager) waits) other (all-same (WaitsForAnswers one issues answers) answered.waits);
  }
