-- What a manager is to do: its transactions in their order, each with the bytes that a write sends.
use Rattle.std.specs.Prelude.{◌≡◌, ◌==◌, ◌<◌, ◌-◌, ◌^◌, ◌||◌, ℕ, List, Option, Some, None, IsTrue, IfSome, length, take, slice_get, if◌then◌else◌}
use Rattle.burst_address.specs.Bytes.{burst_bytes}
use Rattle.burst_address.specs.Legal.{IsLegal}
use Rattle.manager_node.specs.declared.script.Txn.{Txn}
use Rattle.manager_node.specs.declared.script.WriteByte.{WriteByte}

-- a transaction, and the bytes that it sends: those of the valid lanes of its beats, beat by beat and lowest lane first
pub record ScriptItem : Type 0 where
  pub txn : Txn
  pub bytes : List WriteByte

-- how many answers the last transaction waits for; none where there is no transaction
abbrev pub awaited : Option ScriptItem → ℕ
awaited None = 0
awaited (Some item) = item.txn.after

-- how many bytes a transaction sends: a write its valid ones, and a read none
abbrev pub sent_bytes : Txn → ℕ
sent_bytes txn = if txn.write then length (burst_bytes txn.request) else 0

-- A transaction and its bytes can follow these: it is a legal burst on the widest bus, and it waits for the answers
-- of all transactions before it, or for as many answers as the one before it.
pub record CanPush (script : List ScriptItem) (txn : Txn) (bytes : List WriteByte) : Type 0 where
  pub start : txn.request.addr < 2 ^ 63
  pub legal : IsLegal txn.request 128
  pub bytes_sent : length bytes ≡ sent_bytes txn
  pub after : IsTrue (txn.after == length script || txn.after == awaited (slice_get script (length script - 1)))
  pub short : length script < 2 ^ 32 - 1

-- each transaction could follow those before it
abbrev pub IsScript : List ScriptItem → Type 0
IsScript script = (n : ℕ) → IfSome (slice_get script n) (λ item. CanPush (take n script) item.txn item.bytes)
