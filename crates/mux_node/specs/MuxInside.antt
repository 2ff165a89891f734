-- How a mux is kept: what contracts see of its fields, and what holds of them.
use Rattle.node_core.specs.Acted.{Acted}
use Rattle.mux_node.specs.MuxState.{IsMux, IsMuxShape, MuxShape, MuxState}
use Rattle.mux_node.specs.declared.mux.MuxNode.TheInside as node
use Rattle.mux_node.specs.declared.shape.Shape.TheInside as inputs

abbrev pub mux_shape_view : inputs.Inside → MuxShape
mux_shape_view p = record { uppers = p.uppers.items; lower = p.lower; width = p.width }

abbrev pub IsMuxShapeInside : inputs.Inside → Type 0
IsMuxShapeInside p = IsMuxShape (mux_shape_view p)

-- the state that contracts see
abbrev pub mux_state : node.Inside → MuxState
mux_state n = record { shape = n.shape; turn_aw = n.turn_aw; turn_ar = n.turn_ar; granted = n.granted.items }

-- and with it the moves of the round
abbrev pub mux_view : node.Inside → Acted MuxState
mux_view n = record { state = mux_state n; out = n.out }

abbrev pub IsMuxInside : node.Inside → Type 0
IsMuxInside n = IsMux (mux_state n)
