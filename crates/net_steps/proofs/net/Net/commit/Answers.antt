use Rattle.std.proofs.Common.{◌≡◌, ap, arith, length, ◌∙◌}
use Rattle.net_model.specs.Network.{after_commit}
use Rattle.net_steps.proofs.PhaseLemmas.{committed-by, network-committed}
use Rattle.net_steps.proofs.net.Net.commit.Goals as goal
use Rattle.net_steps.specs.NetInside.{net_view}
use Rattle.net_steps.specs.NetView.{NetView, network_of}
use Rattle.plain_lists.proofs.PartLemmas.{taken-back}

pub returns-clause-network : goal.returns-clause-network
returns-clause-network c =
    let many : length c.commit_each.new.queues ≡ c.self.inside.queues.len = omega arith in
    network-committed (network_of (net_view c.self.inside)) _
    (taken-back c.commit_each.new.queues c.self.inside.queues.items c.self.inside.queues.len many
    ∙ committed-by _ _ _ _ _ _ _ c.commit_each.ensures.queues c.deref.ensures.value c.deref-2.ensures.value c.deref_mut.ensures.value)
    ∙ ap (λ (v : NetView). after_commit (network_of v)) c.self.view_is
