use Rattle.plan_traffic.proofs.LeastLemmas.{least_is_told}
use Rattle.plan_traffic.proofs.laws.least_is_told.Goals as goal

pub returns : goal.returns
returns c = least_is_told
