use Rattle.net_history.proofs.RunLemmas.{runs-are_right}
use Rattle.net_history.proofs.history_laws.runs_are_right.Goals as goal

pub returns : goal.returns
returns c = record { right = runs-are_right }
