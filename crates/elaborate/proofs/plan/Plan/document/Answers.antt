use Rattle.std.proofs.Common.{ap, arith}
use Rattle.elaborate.specs.Plan.{PlanNode}
use Rattle.elaborate.proofs.Kept.{document-known}
use Rattle.elaborate.proofs.plan.Plan.document.Goals as goal

pub returns-clause-known : goal.returns-clause-known
returns-clause-known c = omega (arith, c.document.ensures, ap (λ (x : PlanNode). x.document) c.node.ensures, document-known c.args.self.now c.args.node c.requires)
