use Rattle.net_runs.proofs.PortFacts.{ports-are_legal}
use Rattle.net_runs.proofs.run_laws.law_of_ports.Goals as goal

pub returns : goal.returns
returns g c = ports-are_legal g.K.AnyKind.kind g.K.AnyKind.holds
