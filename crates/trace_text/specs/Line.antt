-- The relation between a port's round and its trace line.
use Rattle.std.specs.Prelude.{◌≡◌, ℕ, List}
use Rattle.axi_history.specs.declared.port.PortRound.{PortRound}
use Rattle.trace_text.specs.Form.{line_text}
use Rattle.trace_text.specs.Ranges.{IsTraceRound}

-- the text is the trace line of the round
pub record Line (r : PortRound) (text : List ℕ) : Type 0 where
  pub ranges : IsTraceRound r
  pub text_is : text ≡ line_text r
