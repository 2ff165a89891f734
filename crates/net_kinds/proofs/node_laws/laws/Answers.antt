use Rattle.net_kinds.proofs.DoLemmas.{nodes-do}
use Rattle.net_kinds.specs.NodeHolds.{node_holds}
use Rattle.net_kinds.proofs.node_laws.laws.Goals as goal

pub returns : goal.returns
returns c = record { holds = node_holds; same = nodes-do }
