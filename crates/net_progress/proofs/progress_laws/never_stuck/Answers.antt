use Rattle.net_progress.proofs.StuckFacts.{never-stuck}
use Rattle.net_progress.proofs.progress_laws.never_stuck.Goals as goal

pub returns : goal.returns
returns g c = never-stuck g.K.AnyKind.kind g.K.AnyKind.holds
