-- How a pace is kept.
use Rattle.node_core.specs.Pace.{PaceState, IsPace}
use Rattle.node_core.specs.declared.pace.Pace.TheInside.{Inside}

abbrev pub pace_view : Inside → PaceState
pace_view p = record { delays = p.delays.items; place = p.place; waited = p.waited }

abbrev pub IsPaceInside : Inside → Type 0
IsPaceInside p = IsPace (pace_view p)
