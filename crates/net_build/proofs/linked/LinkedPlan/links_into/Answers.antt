use Rattle.std.proofs.Common.{◌<◌, ◌∙◌, List, ap, length, subst, sym}
use Rattle.elaborate.specs.Plan.{plan_link_at, plan_links, plan_nodes}
use Rattle.net_build.proofs.ListLemmas.{listed-at}
use Rattle.net_build.proofs.linked.LinkedPlan.links_into.Goals as goal
use Rattle.net_opening.specs.PlanLinks.{links_into}
use Rattle.topology.specs.Document.{DocumentNode}

pub returns : goal.returns
returns c =
    let less : c.args.node < length (plan_nodes c.self.inside.plan.now) = subst (λ (nodes : List DocumentNode). c.args.node < length (plan_nodes nodes)) (sym c.self.view_is) c.requires in
    c.deref.ensures.value
    ∙ listed-at (λ link. (plan_link_at c.self.inside.plan.now link).lower) (length (plan_nodes c.self.inside.plan.now)) (length (plan_links c.self.inside.plan.now)) c.self.inside.above.items
    c.args.node c.index.result.now less c.self.invariant.above c.index.ensures
    ∙ ap (λ (nodes : List DocumentNode). links_into nodes c.args.node) c.self.view_is
