use Rattle.trace_text.proofs.LineForms.{lines_are_unique}
use Rattle.trace_text.proofs.lines_are_unique.Goals as goal

pub returns : goal.returns
returns c = lines_are_unique
