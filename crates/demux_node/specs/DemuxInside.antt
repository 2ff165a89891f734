-- How a demux is kept: what contracts see of its fields, and what holds of them.
use Rattle.node_core.specs.Acted.{Acted}
use Rattle.demux_node.specs.DemuxState.{DemuxShape, DemuxState, IsDemux, IsDemuxShape}
use Rattle.demux_node.specs.declared.demux.DemuxNode.TheInside as node
use Rattle.demux_node.specs.declared.shape.Shape.TheInside as ports

abbrev pub demux_shape_view : ports.Inside → DemuxShape
demux_shape_view p = record { upper = p.upper; lowers = p.lowers.items; regions = p.map }

abbrev pub IsDemuxShapeInside : ports.Inside → Type 0
IsDemuxShapeInside p = IsDemuxShape (demux_shape_view p)

-- the state that contracts see
abbrev pub demux_state : node.Inside → DemuxState
demux_state n = record { shape = n.shape; writes = n.writes; reads = n.reads; turn_b = n.turn_b; turn_r = n.turn_r }

-- and with it the moves of the round
abbrev pub demux_view : node.Inside → Acted DemuxState
demux_view n = record { state = demux_state n; out = n.out }

abbrev pub IsDemuxInside : node.Inside → Type 0
IsDemuxInside n = IsDemux (demux_state n)
