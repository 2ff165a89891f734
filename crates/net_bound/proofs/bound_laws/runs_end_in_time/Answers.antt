use Rattle.net_bound.proofs.InTime.{runs-end_in_time}
use Rattle.net_bound.proofs.bound_laws.runs_end_in_time.Goals as goal

pub returns : goal.returns
returns c = runs-end_in_time
