-- Issues and answers: each once at most, an answer with the defined response and the bytes that were read, issue,
-- accesses and answer one after the other, and in order for each manager, ID and direction. (Arm IHI 0022, transaction
-- ordering, read and write response structure.)
use Rattle.std.specs.Prelude.{◌≡◌, ◌≢◌, ◌==◌, ◌<◌, ◌++◌, ◌∷◌, [], ℕ, List, All, Any, filter, map, take, if◌then◌else◌, AllPairs}
use Rattle.burst_address.specs.Accesses.{answered_bytes}
use Rattle.axi_history.specs.Records.{NamedByte, Transaction, Event, Issue, Answer, events_of}

-- the values that a transaction has read or written so far, in the order of its accesses
abbrev pub values_of : ℕ → List Event → List ℕ
values_of number events = map (λ (e : Event). e.value) (events_of number events)

-- the transaction was issued before this round
abbrev pub IsIssuedBefore : List Issue → ℕ → ℕ → Type 0
IsIssuedBefore issues number round = Any (λ (i : Issue). (i.number ≡ number) × (i.round < round)) issues

-- the transaction was answered before this round
abbrev pub IsAnsweredBefore : List Answer → ℕ → ℕ → Type 0
IsAnsweredBefore answers number round = Any (λ (a : Answer). (a.number ≡ number) × (a.round < round)) answers

-- two transactions whose order counts, the earlier first: of one manager, one ID and one direction
pub record AreInOrder (earlier later : Transaction) : Type 0 where
  pub manager : earlier.manager ≡ later.manager
  pub id : earlier.id ≡ later.id
  pub direction : earlier.write ≡ later.write
  pub number : earlier.number < later.number

-- the transactions of one manager, in the order of the list
abbrev pub transactions_by : ℕ → List Transaction → List Transaction
transactions_by manager transactions = filter (λ (t : Transaction). t.manager == manager) transactions

-- a sentence on each two transactions, in both orders
abbrev pub OfEachTwo : List Transaction → (Transaction → Transaction → Type 0) → Type 0
OfEachTwo transactions Sentence = All (λ (t : Transaction). All (λ (u : Transaction). Sentence t u) transactions) transactions

-- where the order of two transactions counts, the earlier one is issued before the later one
abbrev pub AreIssuedInOrder : List Issue → Transaction → Transaction → Type 0
AreIssuedInOrder issues t u = AreInOrder t u → All (λ (i : Issue). i.number ≡ u.number → IsIssuedBefore issues t.number i.round) issues

-- it is answered before the later one
abbrev pub AreAnsweredInOrder : List Answer → Transaction → Transaction → Type 0
AreAnsweredInOrder answers t u = AreInOrder t u → All (λ (a : Answer). a.number ≡ u.number → IsAnsweredBefore answers t.number a.round) answers

-- and behind an access of the later one there is none of it
abbrev pub AreAccessedInOrder : List Event → Transaction → Transaction → Type 0
AreAccessedInOrder events t u =
    AreInOrder t u → (earlier later : List Event) (e : Event) → events ≡ earlier ++ e ∷ later → e.number ≡ u.number →
    All (λ (x : Event). x.number ≢ t.number) later

-- an answer to the transaction has the values of its accesses, which for a write are not told
abbrev pub HasItsBytes : List Event → Transaction → Answer → Type 0
HasItsBytes events t a = a.number ≡ t.number → a.bytes ≡ (if t.write then [] else answered_bytes (map (λ (b : NamedByte). b.allowed) t.bytes) (values_of t.number events))

-- each issue of the transaction comes after the answers to those that it waits for: the first ones of its manager
abbrev pub WaitsForAnswers : List Transaction → List Issue → List Answer → Transaction → Type 0
WaitsForAnswers transactions issues answers t =
    All (λ (i : Issue). i.number ≡ t.number → All (λ (u : Transaction). IsAnsweredBefore answers u.number i.round) (take t.after (transactions_by t.manager transactions))) issues

pub record Answered (transactions : List Transaction) (issues : List Issue) (events : List Event) (answers : List Answer) : Type 0 where
  -- no issue is of nobody, and no transaction is issued twice
  pub issues_belong : All (λ (i : Issue). Any (λ (t : Transaction). t.number ≡ i.number) transactions) issues
  pub issued_once : AllPairs (λ (i j : Issue). i.number ≢ j.number) issues
  -- no transaction has two answers
  pub answered_once : AllPairs (λ (a b : Answer). a.number ≢ b.number) answers
  -- an answer carries its transaction's response and, for a read, the bytes of its accesses
  pub response : All (λ (a : Answer). Any (λ (t : Transaction). (t.number ≡ a.number) × (a.responses ≡ t.response)) transactions) answers
  pub bytes : All (λ (t : Transaction). All (HasItsBytes events t) answers) transactions
  -- issue, accesses, answer: strictly one after the other
  pub issue_before_event : All (λ (e : Event). IsIssuedBefore issues e.number e.round) events
  pub event_before_answer : All (λ (a : Answer). All (λ (e : Event). e.number ≡ a.number → e.round < a.round) events) answers
  pub issue_before_answer : All (λ (a : Answer). IsIssuedBefore issues a.number a.round) answers
  -- of one manager, ID and direction: issues, answers and accesses in order of number
  pub issues_in_order : OfEachTwo transactions (AreIssuedInOrder issues)
  pub answers_in_order : OfEachTwo transactions (AreAnsweredInOrder answers)
  pub events_in_order : OfEachTwo transactions (AreAccessedInOrder events)
  -- a transaction is issued after those were answered that it waits for
  pub waits : All (WaitsForAnswers transactions issues answers) transactions
