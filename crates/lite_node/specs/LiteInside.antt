-- How a Lite bridge is kept: what contracts see of its fields, and what holds of them.
use Rattle.node_core.specs.Acted.{Acted}
use Rattle.lite_node.specs.LiteState.{IsLite, LiteState}
use Rattle.lite_node.specs.declared.lite.LiteNode.TheInside.{Inside}

-- the state that contracts see
abbrev pub lite_state : Inside → LiteState
lite_state n = record {
  shape = record { upper = n.upper; lower = n.lower; bus = n.bus };
  writes = n.writes.items;
  reads = n.reads.items;
}

-- and with it the moves of the round
abbrev pub lite_view : Inside → Acted LiteState
lite_view n = record { state = lite_state n; out = n.out }

abbrev pub IsLiteInside : Inside → Type 0
IsLiteInside n = IsLite (lite_state n)
