-- A splitter as contracts see it between rounds.
use Rattle.std.specs.Prelude.{◌<◌, ◌≤◌, ◌^◌, [], ℕ, List, Option, None, IfSome, length}
use Rattle.axi_beats.specs.declared.beat.Addr.{Addr}
use Rattle.burst_address.specs.Legal.{IsLegal}
use Rattle.split_node.specs.declared.burst.InWork.{InWork}
use Rattle.split_node.specs.declared.burst.SplitEntry.{SplitEntry}

-- the numbers of the link above it and of the link below it, the burst of each direction that is in work, and the writes and
-- the reads that aren't wholly answered, oldest first
pub record SplitState : Type 0 where
  pub upper : ℕ
  pub lower : ℕ
  pub write_work : Option InWork
  pub read_work : Option InWork
  pub writes : List SplitEntry
  pub reads : List SplitEntry

-- one that nothing has come to yet
abbrev pub new_split : ℕ → ℕ → SplitState
new_split upper lower = record { upper = upper; lower = lower; write_work = None; read_work = None; writes = []; reads = [] }

-- a request whose beats all have an address: for a burst that is legal on the widest bus and starts below 2 ^ 63
pub record IsCuttable (request : Addr) : Type 0 where
  pub legal : IsLegal request 128
  pub small : request.addr < 2 ^ 63

-- the next part is that of one of its beats
pub record IsInWork (work : InWork) : Type 0 where
  pub request : IsCuttable work.request
  pub next : work.next ≤ work.request.len

-- what holds of a splitter between rounds
pub record IsSplit (s : SplitState) : Type 0 where
  pub write_work : IfSome s.write_work IsInWork
  pub read_work : IfSome s.read_work IsInWork
  pub few_writes : length s.writes ≤ 16
  pub few_reads : length s.reads ≤ 16
