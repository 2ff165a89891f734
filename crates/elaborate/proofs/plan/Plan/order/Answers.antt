use Rattle.std.proofs.Common.{◌≡◌, List, ap, arith, length, subst}
use Rattle.topology.specs.Document.{DocumentNode}
use Rattle.topology.specs.Refused.{IsAccepted}
use Rattle.elaborate.specs.Path.{plan_order}
use Rattle.elaborate.proofs.Kept.{order-kept, order-known, order-long}
use Rattle.elaborate.proofs.plan.Plan.order.Goals as goal

pub index-requires : goal.index-requires
index-requires c =
    let are : c.self.inside.order.items ≡ plan_order c.args.self.now =
    subst (λ (nodes : List DocumentNode). c.self.inside.order.items ≡ plan_order nodes) c.self.view_is c.self.invariant.ordered_so in
    omega (arith, c.requires, ap length are, order-long c.args.self.now (subst IsAccepted c.self.view_is c.self.invariant.accepted))

pub returns-clause-node : goal.returns-clause-node
returns-clause-node c =
    let are : c.self.inside.order.items ≡ plan_order c.args.self.now =
    subst (λ (nodes : List DocumentNode). c.self.inside.order.items ≡ plan_order nodes) c.self.view_is c.self.invariant.ordered_so in
    order-kept c.args.self.now c.self.inside.order.items c.args.place c.index.result.now (subst IsAccepted c.self.view_is c.self.invariant.accepted) are c.requires c.index.ensures

pub returns-clause-known : goal.returns-clause-known
returns-clause-known c =
    let are : c.self.inside.order.items ≡ plan_order c.args.self.now =
    subst (λ (nodes : List DocumentNode). c.self.inside.order.items ≡ plan_order nodes) c.self.view_is c.self.invariant.ordered_so in
    let accepted : IsAccepted c.args.self.now = subst IsAccepted c.self.view_is c.self.invariant.accepted in
    omega (
      arith,
      order-kept c.args.self.now c.self.inside.order.items c.args.place c.index.result.now accepted are c.requires c.index.ensures,
      order-known c.args.self.now accepted c.args.place c.requires,
    )
