use Rattle.plan_traffic.proofs.KnownLemmas.{accepted_suits_all}
use Rattle.plan_traffic.proofs.laws.accepted_traffic_suits.Goals as goal

pub returns : goal.returns
returns c = accepted_suits_all
