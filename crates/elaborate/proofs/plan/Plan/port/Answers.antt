use Rattle.std.proofs.Common.{◌<◌, List, length, subst, sym}
use Rattle.topology.specs.Document.{DocumentNode}
use Rattle.elaborate.proofs.plan.Plan.port.Goals as goal

pub port_at_demux-requires-clause-accepted : goal.port_at_demux-requires-clause-accepted
port_at_demux-requires-clause-accepted c = c.self.invariant.accepted
