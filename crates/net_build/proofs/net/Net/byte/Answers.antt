use Rattle.std.proofs.Common.{◌<◌, ap, arith, length, subst, sym, ◌∙◌}
use Rattle.elaborate.specs.Plan.{plan_nodes}
use Rattle.net_build.proofs.StandLemmas.{byte-is, nodes-count}
use Rattle.net_build.proofs.net.Net.byte.Goals as goal
use Rattle.net_build.specs.NetRun.{NetRun}
use Rattle.net_build.specs.Noted.{byte_noted}

pub node-requires : goal.node-requires
node-requires c =
    let less = subst (λ (run : NetRun). c.args.number < length (plan_nodes run.nodes)) (sym c.self.view_is) c.requires in
    omega (arith, less, nodes-count c.self.inside.plan c.self.inside.traffic c.self.inside.net c.self.invariant.stands_at)

pub returns : goal.returns
returns c =
    c.byte_of.ensures
    ∙ byte-is c.self.inside.plan c.self.inside.traffic c.self.inside.net c.self.invariant.stands_at c.args.number c.args.address c.node.result.now c.node.ensures
    ∙ ap (λ (run : NetRun). byte_noted run c.args.number c.args.address) c.self.view_is
