use Rattle.std.proofs.Common.{subst}
use Rattle.topology.specs.Refused.{IsAccepted}
use Rattle.topology.proofs.WiringFacts.{few-nodes}
use Rattle.topology.proofs.wiring.Wiring.count.Goals as goal

pub returns-clause-few : goal.returns-clause-few
returns-clause-few c = few-nodes c.args.self.now (subst IsAccepted c.self.view_is c.self.invariant.accepted)
