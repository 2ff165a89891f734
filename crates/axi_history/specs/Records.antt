-- What is due of a transaction, and what was seen of it: plain records, in lists.
use Rattle.std.specs.Prelude.{ℕ, List, Bool, Option, ◌==◌, filter}
use Rattle.axi_beats.specs.declared.response.Resp.{Resp}

-- one byte that a transaction names, in burst order: its address, the value that is to be written
-- there (none for a read), and whether its subordinate allows the access
pub record NamedByte : Type 0 where
  pub address : ℕ
  pub value : Option ℕ
  pub allowed : Bool

-- a transaction: its number, its manager, its ID and direction, how many of its manager's first
-- transactions are answered before it is issued, the subordinate that its address names and the
-- byte that this one holds where nothing was written, its bytes in burst order (the strobed ones
-- of a write, the valid ones of a read), and its response (one of a write, one a beat of a read)
pub record Transaction : Type 0 where
  pub number : ℕ
  pub manager : ℕ
  pub id : ℕ
  pub write : Bool
  pub after : ℕ
  pub target : ℕ
  pub fill : ℕ
  pub bytes : List NamedByte
  pub response : List Resp

-- an access to a byte: in which round, at which subordinate and for which transaction, its address, and the value
-- that was read or written there
pub record Event : Type 0 where
  pub round : ℕ
  pub node : ℕ
  pub number : ℕ
  pub address : ℕ
  pub value : ℕ
  pub write : Bool

-- the address of a transaction was put in this round
pub record Issue : Type 0 where
  pub number : ℕ
  pub round : ℕ

-- the last beat of a transaction's answer was taken in this round; its responses, and the bytes
-- that were read
pub record Answer : Type 0 where
  pub number : ℕ
  pub round : ℕ
  pub responses : List Resp
  pub bytes : List ℕ

-- the bytes that are to be accessed: those that may be
abbrev pub bytes_due : Transaction → List NamedByte
bytes_due t = filter (λ (b : NamedByte). b.allowed) t.bytes

-- the accesses of one transaction
abbrev pub events_of : ℕ → List Event → List Event
events_of number events = filter (λ (e : Event). e.number == number) events
