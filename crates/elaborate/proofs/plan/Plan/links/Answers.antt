use Rattle.std.proofs.Common.{◌≡◌, List, ap, arith, length, subst}
use Rattle.topology.specs.Document.{DocumentNode}
use Rattle.topology.specs.Refused.{IsAccepted}
use Rattle.elaborate.specs.Plan.{plan_links}
use Rattle.elaborate.proofs.Sizes.{links-few}
use Rattle.elaborate.proofs.plan.Plan.links.Goals as goal

pub overflow_cast-result : goal.overflow_cast-result
overflow_cast-result c =
    let are : c.self.inside.links.items ≡ plan_links c.args.self.now =
    subst (λ (nodes : List DocumentNode). c.self.inside.links.items ≡ plan_links nodes) c.self.view_is c.self.invariant.links_are in
    omega (arith, ap length are, links-few c.args.self.now (subst IsAccepted c.self.view_is c.self.invariant.accepted))

pub returns-clause-few : goal.returns-clause-few
returns-clause-few c =
    let are : c.self.inside.links.items ≡ plan_links c.args.self.now =
    subst (λ (nodes : List DocumentNode). c.self.inside.links.items ≡ plan_links nodes) c.self.view_is c.self.invariant.links_are in
    omega (arith, ap length are, links-few c.args.self.now (subst IsAccepted c.self.view_is c.self.invariant.accepted))
