-- A remapper as contracts see it between rounds.
use Rattle.std.specs.Prelude.{◌≡◌, ◌<◌, ◌≤◌, ◌^◌, ◌↔◌, [], ℕ, List, All, Contains, length}
use Rattle.remap_node.specs.declared.pair.IdPair.{IdPair}

-- What never changes: the numbers of the link above it and of the link below it, and the width of the IDs below in bits.
pub record RemapShape : Type 0 where
  pub upper : ℕ
  pub lower : ℕ
  pub width : ℕ

-- its shape, and the IDs of the writes and of the reads that aren't answered, oldest first
pub record RemapState : Type 0 where
  pub shape : RemapShape
  pub writes : List IdPair
  pub reads : List IdPair

-- one that nothing has come to yet
abbrev pub new_remap : RemapShape → RemapState
new_remap shape = record { shape = shape; writes = []; reads = [] }

-- how many IDs there are below
abbrev pub ids_below : RemapShape → ℕ
ids_below shape = 2 ^ shape.width

-- requests have one ID below where they have one above, and only there
abbrev pub AreOneToOne : List IdPair → Type 0
AreOneToOne pairs = (p q : IdPair) → Contains pairs p → Contains pairs q → (p.input ≡ q.input) ↔ (p.output ≡ q.output)

-- What holds of the requests of a direction that aren't answered.
pub record AreInFlight (shape : RemapShape) (pairs : List IdPair) : Type 0 where
  pub few : length pairs ≤ 16
  pub small : All (λ (pair : IdPair). pair.output < ids_below shape) pairs
  pub one_to_one : AreOneToOne pairs

-- What holds of a remapper between rounds; its IDs below have at most 16 bits.
pub record IsRemap (s : RemapState) : Type 0 where
  pub narrow : s.shape.width ≤ 16
  pub writes : AreInFlight s.shape s.writes
  pub reads : AreInFlight s.shape s.reads

-- how a remapper begins
pub record IsNewRemap (s : RemapState) : Type 0 where
  pub narrow : s.shape.width ≤ 16
  pub new : s ≡ new_remap s.shape
