use Rattle.net_plan.proofs.OpeningWired.{openings-are_wired}
use Rattle.net_plan.proofs.plan_laws.openings_are_wired.Goals as goal

pub returns : goal.returns
returns c = openings-are_wired
