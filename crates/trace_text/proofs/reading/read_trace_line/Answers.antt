-- The call answers what the definition of reading gives, which is exact.
use Rattle.std.proofs.Common.{ap}
use Rattle.std.specs.Prelude.{Result, Ok}
use Rattle.axi_history.specs.declared.port.PortRound.{PortRound}
use Rattle.trace_text.specs.declared.reading.LineFault.{LineFault}
use Rattle.trace_text.proofs.LineForms.{line_none, line_only}
use Rattle.trace_text.proofs.reading.read_trace_line.Goals as goal

abbrev answer : PortRound → Result PortRound LineFault
answer round = Ok round

pub returns-then-read_round-clause-only : goal.returns-then-read_round-clause-only
returns-then-read_round-clause-only c = λ r line. ap answer (line_only c.args.line.now r c.read_round.new.r c.read_round.result c.read_round.ensures.exact c.if-read_round.true line)

pub returns-else-read_round-clause-only : goal.returns-else-read_round-clause-only
returns-else-read_round-clause-only c = λ r line. absurd (line_none c.args.line.now r c.read_round.new.r c.read_round.result c.read_round.ensures.exact c.if-read_round.false line)

pub returns-else-read_round-clause-refused : goal.returns-else-read_round-clause-refused
returns-else-read_round-clause-refused c = λ err r line. line_none c.args.line.now r c.read_round.new.r c.read_round.result c.read_round.ensures.exact c.if-read_round.false line
