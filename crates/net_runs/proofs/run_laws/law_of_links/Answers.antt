use Rattle.net_runs.proofs.RoundLemmas.{links-run}
use Rattle.net_runs.proofs.run_laws.law_of_links.Goals as goal

pub returns : goal.returns
returns g c = links-run g.K.AnyKind.kind
