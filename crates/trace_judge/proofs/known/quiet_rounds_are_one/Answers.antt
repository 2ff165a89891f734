use Rattle.trace_judge.proofs.QuietLemmas.{quiet_are_one}
use Rattle.trace_judge.proofs.known.quiet_rounds_are_one.Goals as goal

pub returns : goal.returns
returns c = quiet_are_one
