use Rattle.node_core.proofs.ReadyLemmas.{marked}
use Rattle.node_core.proofs.ready.mark_ready.Goals as goal

-- src/ready.rt:7:1
pub returns-then-is_ready : goal.returns-then-is_ready
returns-then-is_ready c = λ other. marked c.args.ready c.args.port other c.args.is_ready c.requires c.if-is_ready.true
