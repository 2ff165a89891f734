-- A Lite bridge as contracts see it between rounds.
use Rattle.std.specs.Prelude.{◌≡◌, ◌≤◌, [], ℕ, List, length}
use Rattle.axi_beats.specs.Bus.{IsBusWidth}

-- What never changes: the numbers of the AXI4 link above it and of the AXI4-Lite link below it, and the width of the bus of
-- both in bytes.
pub record LiteShape : Type 0 where
  pub upper : ℕ
  pub lower : ℕ
  pub bus : ℕ

-- its shape, and the IDs of the writes and of the reads that went below and aren't answered, oldest first
pub record LiteState : Type 0 where
  pub shape : LiteShape
  pub writes : List ℕ
  pub reads : List ℕ

-- one that nothing has come to yet
abbrev pub new_lite : LiteShape → LiteState
new_lite shape = record { shape = shape; writes = []; reads = [] }

-- what holds of a bridge between rounds
pub record IsLite (s : LiteState) : Type 0 where
  pub bus : IsBusWidth s.shape.bus
  pub few_writes : length s.writes ≤ 16
  pub few_reads : length s.reads ≤ 16

-- how a bridge begins
pub record IsNewLite (s : LiteState) : Type 0 where
  pub bus : IsBusWidth s.shape.bus
  pub new : s ≡ new_lite s.shape
