-- How a splitter is kept: what contracts see of its fields, and what holds of them.
use Rattle.node_core.specs.Acted.{Acted}
use Rattle.split_node.specs.SplitState.{IsSplit, SplitState}
use Rattle.split_node.specs.declared.split.SplitNode.TheInside.{Inside}

-- the state that contracts see
abbrev pub split_state : Inside → SplitState
split_state n = record { upper = n.upper; lower = n.lower; write_work = n.write_work; read_work = n.read_work; writes = n.writes; reads = n.reads }

-- and with it the moves of the round
abbrev pub split_view : Inside → Acted SplitState
split_view n = record { state = split_state n; out = n.out }

abbrev pub IsSplitInside : Inside → Type 0
IsSplitInside n = IsSplit (split_state n)
