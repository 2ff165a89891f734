-- How a slice is kept: what contracts see of its fields.
use Rattle.node_core.specs.Acted.{Acted}
use Rattle.slice_node.specs.SliceState.{SliceState}
use Rattle.slice_node.specs.declared.slice.SliceNode.TheInside.{Inside}

-- its links, and the moves of the round
abbrev pub slice_view : Inside → Acted SliceState
slice_view s = record { state = record { upper = s.upper; lower = s.lower }; out = s.out }
