-- A mux as contracts see it between rounds.
use Rattle.std.specs.Prelude.{◌≡◌, ◌<◌, ◌≤◌, [], ℕ, List, All, length}
use Rattle.node_core.specs.Turn.{IsTurn, TurnState, new_turn}

-- What never changes: the numbers of the links above it, by input, that of the link below it, and the width of the IDs of
-- its inputs in bits.
pub record MuxShape : Type 0 where
  pub uppers : List ℕ
  pub lower : ℕ
  pub width : ℕ

-- its shape, whose turn it is among the inputs on AW and on AR, and the inputs of the writes that went below and lack data,
-- oldest first
pub record MuxState : Type 0 where
  pub shape : MuxShape
  pub turn_aw : TurnState
  pub turn_ar : TurnState
  pub granted : List ℕ

-- one that nothing has come to yet
abbrev pub new_mux : MuxShape → MuxState
new_mux shape = record { shape = shape; turn_aw = new_turn (length shape.uppers); turn_ar = new_turn (length shape.uppers); granted = [] }

-- some input, at most 16, and IDs of at most 16 bits
pub record IsMuxShape (shape : MuxShape) : Type 0 where
  pub some : 0 < length shape.uppers
  pub most : length shape.uppers ≤ 16
  pub narrow : shape.width ≤ 16

-- a turn among the inputs of this shape
pub record IsInputTurn (shape : MuxShape) (t : TurnState) : Type 0 where
  pub ports : t.ports ≡ length shape.uppers
  pub turn : IsTurn t

-- What holds of a mux between rounds.
pub record IsMux (s : MuxState) : Type 0 where
  pub shape : IsMuxShape s.shape
  pub turn_aw : IsInputTurn s.shape s.turn_aw
  pub turn_ar : IsInputTurn s.shape s.turn_ar
  pub few : length s.granted ≤ 16
  pub inputs : All (λ input. input < length s.shape.uppers) s.granted

-- how a mux begins
pub record IsNewMux (s : MuxState) : Type 0 where
  pub shape : IsMuxShape s.shape
  pub new : s ≡ new_mux s.shape
