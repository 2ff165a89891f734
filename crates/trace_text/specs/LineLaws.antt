-- The laws of trace lines.
use Rattle.std.specs.Prelude.{◌≡◌, ℕ, List}
use Rattle.plain_text.specs.Exact.{IsExact}
use Rattle.axi_history.specs.declared.port.PortRound.{PortRound}
use Rattle.trace_text.specs.Form.{line_text}
use Rattle.trace_text.specs.Line.{Line}
use Rattle.trace_text.specs.Ranges.{IsTraceRound}
use Rattle.trace_text.specs.Reading.{trace_round_of}

-- a text is the trace line of at most one round
abbrev pub LinesAreUnique : Type 0
LinesAreUnique = (r s : PortRound) (text : List ℕ) → Line r text → Line s text → r ≡ s

-- a round within the ranges is read from its own text, and a text that is read is the text of what
-- was read, which is within the ranges
abbrev pub LinesAreExact : Type 0
LinesAreExact = IsExact trace_round_of line_text IsTraceRound
