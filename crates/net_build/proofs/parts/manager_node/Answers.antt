use Rattle.std.proofs.Common.{◌<◌, ◌∙◌, ℕ, List, ap, length, subst, sym}
use Rattle.std.specs.Prelude.{All}
use Rattle.axi_beats.specs.Bus.{IsBusWidth}
use Rattle.burst_address.specs.Legal.{IsLegal}
use Rattle.manager_node.specs.ManagerTrail.{IsNewManager}
use Rattle.manager_node.specs.Script.{ScriptItem}
use Rattle.net_build.proofs.MadeLemmas.{as_node, manager-made}
use Rattle.net_build.proofs.SourceLemmas.{accepts, gives, manager-begins, manager-has_delays, own-node}
use Rattle.net_build.proofs.parts.manager_node.Goals as goal
use Rattle.net_kinds.specs.NodeKind.{AManager}
use Rattle.net_opening.specs.States.{document_node_of, manager_at}
use Rattle.plan_traffic.specs.Scripts.{script_of}
use Rattle.topology.specs.Document.{DocumentNode}

pub bus-requires : goal.bus-requires
bus-requires c = subst (λ (nodes : List DocumentNode). c.document-document.result < length nodes) (sym c.wiring-wiring.ensures) c.document-document.ensures.known

pub accept-requires : goal.accept-requires
accept-requires c = subst (λ (nodes : List DocumentNode). c.document-document.result < length nodes) (sym c.wiring-wiring.ensures) c.document-document.ensures.known

pub give-requires : goal.give-requires
give-requires c = subst (λ (nodes : List DocumentNode). c.document-document.result < length nodes) (sym c.wiring-wiring.ensures) c.document-document.ensures.known

pub new-requires-clause-bus : goal.new-requires-clause-bus
new-requires-clause-bus c =
    let begins : IsNewManager (manager_at c.args.source.now.plan.now c.args.number c.args.source.now.traffic.now) = manager-begins c.args.number c.requires.source c.requires.known c.requires.manager in
    subst IsBusWidth (sym (c.bus.ensures ∙ ap (λ (node : DocumentNode). node.bus) (own-node c.args.number c.wiring-wiring.ensures c.document-document.ensures.document))) begins.bus_width

pub new-requires-clause-legal : goal.new-requires-clause-legal
new-requires-clause-legal c =
    let begins : IsNewManager (manager_at c.args.source.now.plan.now c.args.number c.args.source.now.traffic.now) = manager-begins c.args.number c.requires.source c.requires.known c.requires.manager in
    subst (λ (bus : ℕ). All (λ (item : ScriptItem). IsLegal item.txn.request bus) c.in_ok-script.script)
    (sym (c.bus.ensures ∙ ap (λ (node : DocumentNode). node.bus) (own-node c.args.number c.wiring-wiring.ensures c.document-document.ensures.document)))
    (subst (All (λ (item : ScriptItem). IsLegal item.txn.request (document_node_of c.args.source.now.plan.now c.args.number).bus))
    (sym (c.in_ok-script.ensures ∙ ap (script_of c.args.source.now.traffic.now) c.document-document.ensures.document)) begins.legal)

pub new-requires-clause-some_accept : goal.new-requires-clause-some_accept
new-requires-clause-some_accept c =
    (accepts c.args.number c.wiring-wiring.ensures c.document-document.ensures.document c.accept.result.now c.accept.ensures (manager-has_delays c.args.number c.requires.source c.requires.known c.requires.manager)).some

pub new-requires-clause-most_accept : goal.new-requires-clause-most_accept
new-requires-clause-most_accept c =
    (accepts c.args.number c.wiring-wiring.ensures c.document-document.ensures.document c.accept.result.now c.accept.ensures (manager-has_delays c.args.number c.requires.source c.requires.known c.requires.manager)).most

pub new-requires-clause-short_accept : goal.new-requires-clause-short_accept
new-requires-clause-short_accept c =
    (accepts c.args.number c.wiring-wiring.ensures c.document-document.ensures.document c.accept.result.now c.accept.ensures (manager-has_delays c.args.number c.requires.source c.requires.known c.requires.manager)).short

pub new-requires-clause-some_give : goal.new-requires-clause-some_give
new-requires-clause-some_give c =
    (gives c.args.number c.wiring-wiring.ensures c.document-document.ensures.document c.give.result.now c.give.ensures (manager-has_delays c.args.number c.requires.source c.requires.known c.requires.manager)).some

pub new-requires-clause-most_give : goal.new-requires-clause-most_give
new-requires-clause-most_give c =
    (gives c.args.number c.wiring-wiring.ensures c.document-document.ensures.document c.give.result.now c.give.ensures (manager-has_delays c.args.number c.requires.source c.requires.known c.requires.manager)).most

pub new-requires-clause-short_give : goal.new-requires-clause-short_give
new-requires-clause-short_give c =
    (gives c.args.number c.wiring-wiring.ensures c.document-document.ensures.document c.give.result.now c.give.ensures (manager-has_delays c.args.number c.requires.source c.requires.known c.requires.manager)).short

pub returns : goal.returns
returns c =
    ap (as_node AManager)
    (c.in_ok-boxed.ensures
    ∙ manager-made c.args.source.now.plan.now c.args.source.now.traffic.now c.args.number c.in_ok-script.script c.link_out_of-lower.result c.bus.result c.give.result.now c.accept.result.now c.in_ok-node.node
    (c.in_ok-script.ensures ∙ ap (script_of c.args.source.now.traffic.now) c.document-document.ensures.document) c.link_out_of-lower.ensures
    (c.bus.ensures ∙ ap (λ (node : DocumentNode). node.bus) (own-node c.args.number c.wiring-wiring.ensures c.document-document.ensures.document))
    (c.give.ensures ∙ ap (λ (node : DocumentNode). node.give) (own-node c.args.number c.wiring-wiring.ensures c.document-document.ensures.document))
    (c.accept.ensures ∙ ap (λ (node : DocumentNode). node.accept) (own-node c.args.number c.wiring-wiring.ensures c.document-document.ensures.document)) c.in_ok-node.ensures)
