-- A demux as contracts see it between rounds.
use Rattle.std.specs.Prelude.{◌≡◌, ◌<◌, ◌≤◌, ◌-◌, [], ℕ, List, All, Contains, IsTrue, length, map, unwrap_or, slice_get}
use Rattle.address_map.specs.Regions.{serving_port}
use Rattle.address_map.specs.declared.region.Region.{Region}
use Rattle.demux_node.specs.declared.route.Route.{Route}
use Rattle.demux_node.specs.declared.route.WriteRoute.{WriteRoute}
use Rattle.node_core.specs.Turn.{IsTurn, TurnState, new_turn}

-- What never changes: the number of the link above it, those of the links below it, by port, and the regions of addresses
-- with their ports.
pub record DemuxShape : Type 0 where
  pub upper : ℕ
  pub lowers : List ℕ
  pub regions : List Region

-- its shape, the writes and the reads that aren't answered, oldest first, and whose turn it is among the ports on B and on R
pub record DemuxState : Type 0 where
  pub shape : DemuxShape
  pub writes : List WriteRoute
  pub reads : List Route
  pub turn_b : TurnState
  pub turn_r : TurnState

-- one that nothing has come to yet
abbrev pub new_demux : DemuxShape → DemuxState
new_demux shape = record { shape = shape; writes = []; reads = []; turn_b = new_turn (length shape.lowers); turn_r = new_turn (length shape.lowers) }

-- the port of an address: that of the region which has it, else the last one
abbrev pub port_for : DemuxShape → ℕ → ℕ
port_for shape address = unwrap_or (serving_port shape.regions address) (length shape.lowers - 1)

-- the number of the link of a port
abbrev pub lower_of : DemuxShape → ℕ → ℕ
lower_of shape port = unwrap_or (slice_get shape.lowers port) 0

-- what of a write never changes: its ID and its port
abbrev pub route_of : WriteRoute → Route
route_of write = record { id = write.id; port = write.port }

-- some port, at most 17, and each region has one
pub record IsDemuxShape (shape : DemuxShape) : Type 0 where
  pub some : 0 < length shape.lowers
  pub most : length shape.lowers ≤ 17
  pub regions : All (λ (region : Region). region.port < length shape.lowers) shape.regions

-- requests of one ID went by one port
abbrev pub HaveOnePort : List Route → Type 0
HaveOnePort routes = (x y : Route) → Contains routes x → Contains routes y → x.id ≡ y.id → x.port ≡ y.port

-- writes that lack data went by one port
abbrev pub OpenHaveOnePort : List WriteRoute → Type 0
OpenHaveOnePort writes = (x y : WriteRoute) → Contains writes x → Contains writes y → IsTrue x.is_open → IsTrue y.is_open → x.port ≡ y.port

-- a turn among the ports of this shape
pub record IsPortTurn (shape : DemuxShape) (t : TurnState) : Type 0 where
  pub ports : t.ports ≡ length shape.lowers
  pub turn : IsTurn t

-- What holds of a demux between rounds.
pub record IsDemux (s : DemuxState) : Type 0 where
  pub shape : IsDemuxShape s.shape
  pub turn_b : IsPortTurn s.shape s.turn_b
  pub turn_r : IsPortTurn s.shape s.turn_r
  pub few_writes : length s.writes ≤ 16
  pub few_reads : length s.reads ≤ 16
  pub ports : All (λ (write : WriteRoute). write.port < length s.shape.lowers) s.writes
  pub writes : HaveOnePort (map route_of s.writes)
  pub reads : HaveOnePort s.reads
  pub open_ones : OpenHaveOnePort s.writes
