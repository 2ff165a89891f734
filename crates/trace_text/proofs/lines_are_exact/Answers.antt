use Rattle.trace_text.proofs.LineForms.{line_is_exact}
use Rattle.trace_text.proofs.lines_are_exact.Goals as goal

pub returns : goal.returns
returns c = line_is_exact
