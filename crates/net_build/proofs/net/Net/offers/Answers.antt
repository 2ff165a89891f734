use Rattle.std.proofs.Common.{◌<◌, ap, arith, length, subst, sym, ◌∙◌}
use Rattle.axi_link.specs.LinkWords.{link_of}
use Rattle.elaborate.specs.Plan.{plan_links}
use Rattle.net_build.proofs.StandLemmas.{offers-shown, queues-count}
use Rattle.net_build.proofs.net.Net.offers.Goals as goal
use Rattle.net_build.specs.NetRun.{NetRun, network_of_run}
use Rattle.net_kinds.specs.NodeKind.{NodeState}
use Rattle.net_model.specs.Network.{Network}
use Rattle.net_steps.specs.Offers.{offers_beat}

pub offers-requires : goal.offers-requires
offers-requires c =
    let less = subst (λ (run : NetRun). c.args.number < length (plan_links run.nodes)) (sym c.self.view_is) c.requires in
    omega (arith, less, queues-count c.self.inside.plan c.self.inside.traffic c.self.inside.net c.self.invariant.stands_at)

pub returns-clause-offers : goal.returns-clause-offers
returns-clause-offers c =
    c.offers.ensures ∙ ap (λ (net : Network NodeState). offers_beat (link_of net.queues c.args.number)) c.self.invariant.stands_at.stands
    ∙ ap (λ (run : NetRun). offers_beat (link_of (network_of_run run).queues c.args.number)) c.self.view_is

pub returns-clause-shown : goal.returns-clause-shown
returns-clause-shown c = λ round.
    c.offers.ensures ∙ ap (λ (net : Network NodeState). offers_beat (link_of net.queues c.args.number)) c.self.invariant.stands_at.stands
    ∙ ap (λ (run : NetRun). offers_beat (link_of (network_of_run run).queues c.args.number)) c.self.view_is
    ∙ offers-shown (network_of_run c.args.self.now) c.args.number round
