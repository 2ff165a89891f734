use Rattle.std.proofs.Common.{ap, length, ◌∙◌}
use Rattle.elaborate.specs.Plan.{plan_links}
use Rattle.net_build.proofs.StandLemmas.{links-count}
use Rattle.net_build.proofs.net.Net.links.Goals as goal
use Rattle.net_build.specs.NetRun.{NetRun}

pub returns : goal.returns
returns c =
    c.links.ensures ∙ links-count c.self.inside.plan c.self.inside.traffic c.self.inside.net c.self.invariant.stands_at
    ∙ ap (λ (run : NetRun). length (plan_links run.nodes)) c.self.view_is
