use Rattle.net_steps.proofs.RunLemmas.{sound-nets_commit, sound-nets_decide}
use Rattle.net_steps.proofs.run_laws.laws_of_rounds.Goals as goal

pub returns : goal.returns
returns c = record { decide = sound-nets_decide; commit = sound-nets_commit }
