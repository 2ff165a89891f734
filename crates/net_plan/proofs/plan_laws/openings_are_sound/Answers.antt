use Rattle.net_plan.proofs.OpeningSound.{openings-are_sound}
use Rattle.net_plan.proofs.plan_laws.openings_are_sound.Goals as goal

pub returns : goal.returns
returns c = openings-are_sound
