use Rattle.std.proofs.Common.{◌<◌, ◌+◌, ap, arith, length, subst, sym, ◌∙◌}
use Rattle.net_runs.specs.Ports.{port_at}
use Rattle.net_steps.proofs.PortLemmas.{has-ends, port-is, queue-at}
use Rattle.net_steps.proofs.net.Net.port.Goals as goal
use Rattle.net_steps.specs.NetInside.{net_view}
use Rattle.net_steps.specs.NetView.{CanCommit, NetView, network_of}

pub index-requires : goal.index-requires
index-requires c =
    let within : c.index-link.result.now.upper < length c.self.inside.nodes.items =
    (has-ends (net_view c.self.inside) c.args.number c.index-link.result.now (subst CanCommit (sym c.self.view_is) c.requires.ready)
    (subst (λ (v : NetView). c.args.number < length v.queues) (sym c.self.view_is) c.requires.known) c.index-link.ensures).upper in
    omega arith

pub index-requires-2 : goal.index-requires-2
index-requires-2 c =
    let within : c.index-link.result.now.lower < length c.self.inside.nodes.items =
    (has-ends (net_view c.self.inside) c.args.number c.index-link.result.now (subst CanCommit (sym c.self.view_is) c.requires.ready)
    (subst (λ (v : NetView). c.args.number < length v.queues) (sym c.self.view_is) c.requires.known) c.index-link.ensures).lower in
    omega arith

pub returns : goal.returns
returns c =
    let net = net_view c.self.inside in
    let known = subst (λ (v : NetView). c.args.number < length v.queues) (sym c.self.view_is) c.requires.known in
    let ends = has-ends net c.args.number c.index-link.result.now (subst CanCommit (sym c.self.view_is) c.requires.ready) known c.index-link.ensures in
    c.port_of.ensures
    ∙ port-is net c.args.number c.index-link.result.now ends c.index-queue.result.now c.index.result.now c.index-2.result.now c.out-above.result.now c.out-below.result.now
    (queue-at c.self.inside.queues.items c.args.number c.index-queue.result.now known c.index-queue.ensures) c.index.ensures c.index-2.ensures c.out-above.ensures c.out-below.ensures
    ∙ ap (λ (v : NetView). port_at (v.rounds + 1) (network_of v) c.args.number) c.self.view_is
