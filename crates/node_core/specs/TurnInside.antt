-- How a turn is kept.
use Rattle.node_core.specs.Turn.{TurnState, IsTurn}
use Rattle.node_core.specs.declared.turn.Turn.TheInside.{Inside}

abbrev pub turn_view : Inside → TurnState
turn_view t = record { ports = t.ports; last = t.last }

abbrev pub IsTurnInside : Inside → Type 0
IsTurnInside t = IsTurn (turn_view t)
