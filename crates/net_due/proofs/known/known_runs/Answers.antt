use Rattle.net_due.proofs.KnownHistory.{run-is_known}
use Rattle.net_due.proofs.known.known_runs.Goals as goal

pub returns : goal.returns
returns c = run-is_known
