-- Delivery: the bytes of a transaction that may be accessed are accessed from the first on, each once, in burst order,
-- at the subordinate that the address names, and all of them once it is answered; and a read sees the latest write.
-- (Arm IHI 0022, transaction ordering.)
use Rattle.std.specs.Prelude.{◌≡◌, ◌==◌, ◌&&◌, ◌++◌, ◌∷◌, [], ℕ, List, Bool, false, Option, Some, None, All, Any, map, if◌then◌else◌}
use Rattle.burst_address.specs.Accesses.{value_after}
use Rattle.plain_lists.specs.Prefixes.{IsPrefix}
use Rattle.axi_history.specs.Records.{NamedByte, Transaction, Event, Answer, events_of, bytes_due}

-- the transaction has its answer
abbrev pub HasAnswer : Transaction → List Answer → Type 0
HasAnswer t answers = Any (λ (a : Answer). a.number ≡ t.number) answers

-- an access that was made: its address, and the value that it writes there
abbrev pub access_made : Event → ℕ × Option ℕ
access_made e = (e.address, (if e.write then Some e.value else None))

-- the access that a byte of a transaction asks for, in the same form
abbrev pub access_due : NamedByte → ℕ × Option ℕ
access_due b = (b.address, b.value)

-- an access writes this place
abbrev pub is_write_at : ℕ → ℕ → Event → Bool
is_write_at node address e = e.write && (e.node == node) && (e.address == address)

-- an access belongs to a transaction of its number and direction, at that one's target
abbrev pub IsOf : List Transaction → Event → Type 0
IsOf transactions e = Any (λ (t : Transaction). (t.number ≡ e.number) × (t.write ≡ e.write) × (t.target ≡ e.node)) transactions

-- of these transactions, accesses (in the order in which they were made) and answers so far
pub record Delivered (transactions : List Transaction) (events : List Event) (answers : List Answer) : Type 0 where
  -- no access is of nobody, of the wrong direction or at the wrong place
  pub belongs : All (IsOf transactions) events
  -- the accesses of a transaction are its due bytes from the first on, each once, in burst order
  pub in_burst_order : All (λ (t : Transaction). IsPrefix (map access_made (events_of t.number events)) (map access_due (bytes_due t))) transactions
  -- and all of them once it is answered
  pub whole : All (λ (t : Transaction). HasAnswer t answers → map access_made (events_of t.number events) ≡ map access_due (bytes_due t)) transactions
  -- a read sees what the latest write before it wrote there, and else the subordinate's fill byte
  pub reads_latest :
      All (λ (t : Transaction). (earlier later : List Event) (e : Event) → events ≡ earlier ++ e ∷ later → e.number ≡ t.number → e.write ≡ false → e.value ≡ value_after (is_write_at e.node e.address) (λ (x : Event). x.value) t.fill earlier) transactions
