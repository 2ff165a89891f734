use Rattle.net_runs.proofs.ContractFacts.{runs-go_on, runs-keep}
use Rattle.net_runs.proofs.run_laws.laws_of_contracts.Goals as goal

pub returns : goal.returns
returns g c = record { keep = runs-keep g.K.AnyKind.kind g.K.AnyKind.holds; go_on = runs-go_on g.K.AnyKind.kind g.K.AnyKind.holds }
