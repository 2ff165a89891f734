-- How a remapper is kept: what contracts see of its fields, and what holds of them.
use Rattle.node_core.specs.Acted.{Acted}
use Rattle.remap_node.specs.RemapState.{IsRemap, RemapState}
use Rattle.remap_node.specs.declared.remap.RemapNode.TheInside.{Inside}

-- the state that contracts see
abbrev pub remap_state : Inside → RemapState
remap_state n = record { shape = record { upper = n.upper; lower = n.lower; width = n.width }; writes = n.writes; reads = n.reads }

-- and with it the moves of the round
abbrev pub remap_view : Inside → Acted RemapState
remap_view n = record { state = remap_state n; out = n.out }

abbrev pub IsRemapInside : Inside → Type 0
IsRemapInside n = IsRemap (remap_state n)
