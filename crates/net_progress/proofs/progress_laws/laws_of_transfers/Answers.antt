use Rattle.net_progress.proofs.BoundFacts.{few-transfers, finishes-in_time}
use Rattle.net_progress.proofs.progress_laws.laws_of_transfers.Goals as goal

pub returns : goal.returns
returns g c = record { few = few-transfers g.K.AnyKind.kind g.K.AnyKind.holds; finished = finishes-in_time g.K.AnyKind.kind g.K.AnyKind.holds }
