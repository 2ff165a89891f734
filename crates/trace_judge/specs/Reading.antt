-- What the table of a trace is after its lines were read.
use Rattle.std.specs.Prelude.{◌≡◌, ℕ, List, Option, Some, None, Result, Ok, Err}
use Rattle.axi_history.specs.declared.port.PortRound.{PortRound}
use Rattle.trace_judge.specs.Table.{TableStands}
use Rattle.trace_judge.specs.declared.table.TraceTable.{TraceTable}

-- the number of the first line that is refused, or the table of all lines
abbrev pub IsRead : Option ℕ → TraceTable → Result (List PortRound) ℕ → Type 0
IsRead (Some line) table shown = shown ≡ Err line
IsRead None table shown = (lines : List PortRound) × (shown ≡ Ok lines) × TableStands table lines
