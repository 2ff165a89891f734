use Rattle.net_bound.proofs.InTime.{unfinished-before_bound}
use Rattle.net_bound.proofs.bound_laws.unfinished_before_bound.Goals as goal

pub returns : goal.returns
returns c = unfinished-before_bound
