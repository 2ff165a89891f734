use Rattle.std.proofs.Common.{◌≡◌, ◌+◌, List, ap, arith, length, map, subst, sym, ◌∙◌}
use Rattle.std.specs.Prelude.{All}
use Rattle.net_kinds.specs.NodeKind.{NodeState, node_kind, node_view}
use Rattle.net_kinds.specs.declared.node.Node.{Node}
use Rattle.net_model.specs.Network.{after_decide}
use Rattle.net_steps.proofs.CallLemmas.{others-by}
use Rattle.net_steps.proofs.PhaseLemmas.{decided-by, network-decided, nodes-can, nodes-decided}
use Rattle.net_steps.proofs.net.Net.decide.Goals as goal
use Rattle.net_steps.specs.NetInside.{net_view}
use Rattle.net_steps.specs.NetView.{AreJoined, NetView, network_of}
use Rattle.node_core.specs.Acted.{Acted}
use Rattle.plain_lists.proofs.PartLemmas.{taken-back}

pub decide_each-self-inside-requires-clause-ready : goal.decide_each-self-inside-requires-clause-ready
decide_each-self-inside-requires-clause-ready c =
    rw (c.deref_mut-2.ensures.value, c.deref-4.ensures.value)
    (nodes-can (c.self.inside.rounds + 1) c.self.inside.queues.items c.self.inside.nodes.items
    (subst (λ (v : NetView). All (λ (a : Acted NodeState). node_kind.can (v.rounds + 1) v.queues a.state) (map node_view v.nodes)) (sym c.self.view_is) c.requires.nodes))

pub returns-clause-network : goal.returns-clause-network
returns-clause-network c =
    let round = c.self.inside.rounds + 1 in
    let many : length c.decide_each-self-inside.new.nodes ≡ c.self.inside.nodes.len = omega arith in
    network-decided (network_of (net_view c.self.inside)) round _
    (ap (λ (nodes : List Node). map node_view nodes)
    (taken-back c.decide_each-self-inside.new.nodes c.self.inside.nodes.items c.self.inside.nodes.len many
    ∙ decided-by round _ _ _ _ _ c.decide_each-self-inside.ensures.nodes c.deref-4.ensures.value c.deref_mut-2.ensures.value)
    ∙ nodes-decided round c.self.inside.queues.items c.self.inside.nodes.items)
    ∙ ap (λ (v : NetView). after_decide node_kind (v.rounds + 1) (network_of v)) c.self.view_is

pub decide_each-self-inside-requires-clause-others : goal.decide_each-self-inside-requires-clause-others
decide_each-self-inside-requires-clause-others c =
    let seen = c.see_each.new.seen in
    let long : length seen ≡ c.self.inside.seen.len = c.see_each.ensures.long ∙ c.deref_mut.ensures.len in
    others-by (net_view c.self.inside) (subst AreJoined (sym c.self.view_is) c.requires.joined) (c.self.inside.rounds + 1) c.deref-3.result.now seen c.deref.result.now
    c.deref-2.result.now c.deref-4.result.now c.deref_mut-2.result.now c.deref.ensures.value (c.deref-2.ensures.value ∙ c.self.invariant.offers) c.deref-4.ensures.value c.deref_mut-2.ensures.value
    (c.deref-3.ensures.value ∙ taken-back seen c.self.inside.seen.items c.self.inside.seen.len long) c.see_each.ensures.seen
