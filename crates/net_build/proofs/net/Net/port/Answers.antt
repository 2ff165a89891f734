use Rattle.std.proofs.Common.{◌<◌, ◌≤◌, ◌+◌, ap, arith, length, subst, sym, ◌∙◌}
use Rattle.axi_history.specs.declared.port.PortRound.{PortRound}
use Rattle.elaborate.specs.Plan.{plan_links}
use Rattle.net_build.proofs.StandLemmas.{bus-within, queues-count}
use Rattle.net_build.proofs.net.Net.port.Goals as goal
use Rattle.net_build.specs.NetRun.{NetRun, network_of_run}
use Rattle.net_kinds.specs.NodeKind.{NodeState}
use Rattle.net_model.specs.Network.{Network}
use Rattle.net_runs.specs.Ports.{port_at}

pub port-requires-clause-ready : goal.port-requires-clause-ready
port-requires-clause-ready c = c.self.invariant.stands_at.ready (ap (λ (run : NetRun). run.decided) c.self.view_is ∙ c.requires.decided)

pub port-requires-clause-known : goal.port-requires-clause-known
port-requires-clause-known c =
    let less = subst (λ (run : NetRun). c.args.number < length (plan_links run.nodes)) (sym c.self.view_is) c.requires.known in
    omega (arith, less, queues-count c.self.inside.plan c.self.inside.traffic c.self.inside.net c.self.invariant.stands_at)

pub returns-clause-port : goal.returns-clause-port
returns-clause-port c =
    c.port.ensures ∙ ap (λ (net : Network NodeState). port_at (c.self.inside.net.rounds + 1) net c.args.number) c.self.invariant.stands_at.stands
    ∙ ap (λ (run : NetRun). port_at (run.rounds + 1) (network_of_run run) c.args.number) c.self.view_is

pub returns-clause-bus : goal.returns-clause-bus
returns-clause-bus c =
    let less = subst (λ (run : NetRun). c.args.number < length (plan_links run.nodes)) (sym c.self.view_is) c.requires.known in
    let is = c.port.ensures ∙ ap (λ (net : Network NodeState). port_at (c.self.inside.net.rounds + 1) net c.args.number) c.self.invariant.stands_at.stands in
    subst (λ (port : PortRound). port.kind.bus ≤ 128) (sym is)
    (bus-within c.self.inside.plan c.self.inside.traffic c.self.inside.net c.self.invariant.stands_at c.self.invariant.accepted c.self.invariant.formed c.args.number (c.self.inside.net.rounds + 1)
    less)
