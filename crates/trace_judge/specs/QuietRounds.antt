-- A row of rounds in which nothing is offered.
use Rattle.std.specs.Prelude.{◌≡◌, ◌++◌, ◌∷◌, [], List}
use Rattle.std.specs.List.{AllByRecursion}
use Rattle.axi_history.specs.declared.port.PortKind.{PortKind}
use Rattle.axi_history.specs.declared.port.PortRound.{PortRound}
use Rattle.lite_rules.specs.PortFaults.{history_fault}
use Rattle.trace_judge.specs.Alike.{IsQuiet}

-- After one such round, more of them in a row change nothing: neither what is broken up to there, nor what is broken
-- with any later rounds.
abbrev pub QuietRoundsAreOne : Type 0
QuietRoundsAreOne =
    (port : PortKind) (earlier : List PortRound) (first : PortRound) (more later : List PortRound) → IsQuiet first → AllByRecursion IsQuiet more →
    history_fault port (((earlier ++ first ∷ []) ++ more) ++ later) ≡ history_fault port ((earlier ++ first ∷ []) ++ later)
