-- An up converter as contracts see it between rounds.
use Rattle.std.specs.Prelude.{◌<◌, ◌≤◌, ◌^◌, [], ℕ, List, All, length}
use Rattle.axi_beats.specs.Bus.{IsBusWidth}
use Rattle.axi_beats.specs.declared.beat.Addr.{Addr}
use Rattle.axi_trail.specs.Waiting.{Waiting}
use Rattle.burst_address.specs.Legal.{IsLegal}
use Rattle.up_node.specs.declared.shape.UpShape.{UpShape}

-- Its shape, which never changes: the numbers of its links and the widths of their buses. The writes that lack data and the
-- reads that lack answers, oldest first, each with the number of its data beats that have passed.
pub record UpState : Type 0 where
  pub shape : UpShape
  pub writes : List (Waiting Addr)
  pub reads : List (Waiting Addr)

-- one that nothing has come to yet
abbrev pub new_up : UpShape → UpState
new_up shape = record { shape = shape; writes = []; reads = [] }

-- two buses, of which the one below is wider
pub record IsUpShape (shape : UpShape) : Type 0 where
  pub narrow : IsBusWidth shape.narrow
  pub wide : IsBusWidth shape.wide
  pub wider : shape.narrow < shape.wide

-- a request that may come on a bus: for a legal burst below 2 ^ 63
pub record IsBurstOn (bus : ℕ) (request : Addr) : Type 0 where
  pub legal : IsLegal request bus
  pub small : request.addr < 2 ^ 63

-- such a request, with a data beat left to pass
pub record IsPassing (bus : ℕ) (entry : Waiting Addr) : Type 0 where
  pub request : IsBurstOn bus entry.request
  pub left : entry.done ≤ entry.request.len

-- What holds of an up converter between rounds.
pub record IsUp (s : UpState) : Type 0 where
  pub shape : IsUpShape s.shape
  pub few_writes : length s.writes ≤ 16
  pub few_reads : length s.reads ≤ 16
  pub writes : All (IsPassing s.shape.narrow) s.writes
  pub reads : All (IsPassing s.shape.narrow) s.reads
