use Rattle.std.proofs.Common.{◌<◌, ◌∙◌, ℕ, List, ap, arith, length, subst, sym}
use Rattle.axi_beats.specs.Bus.{IsBusWidth}
use Rattle.axi_history.specs.declared.port.PortKind.{PortKind}
use Rattle.elaborate.specs.Laws.{is_first, is_mux}
use Rattle.elaborate.specs.Plan.{plan_link_at, plan_links}
use Rattle.net_build.proofs.LinkLemmas.{above-known}
use Rattle.net_build.proofs.MadeLemmas.{as_node, up-made}
use Rattle.net_build.proofs.SourceLemmas.{up-begins}
use Rattle.net_build.proofs.parts.up_node.Goals as goal
use Rattle.net_kinds.specs.NodeKind.{AnUp}
use Rattle.topology.specs.Document.{DocumentNode, node_at}

pub kind-above-requires : goal.kind-above-requires
kind-above-requires c =
    subst (λ (link : ℕ). link < length (plan_links c.args.source.now.plan.now)) (sym c.link_into-upper.ensures)
    (above-known c.args.source.now.plan.now c.requires.source.accepted c.args.number c.requires.known (ap is_first c.requires.up) (ap is_mux c.requires.up))

pub bus-wide-requires : goal.bus-wide-requires
bus-wide-requires c = subst (λ (nodes : List DocumentNode). c.document-document.result < length nodes) (sym c.wiring.ensures) c.document-document.ensures.known

pub new-node-requires-clause-narrow : goal.new-node-requires-clause-narrow
new-node-requires-clause-narrow c =
    subst IsBusWidth
    (sym (ap (λ (kind : PortKind). kind.bus) c.kind-above.ensures ∙ ap (λ (link : ℕ). (plan_link_at c.args.source.now.plan.now link).link.bus) c.link_into-upper.ensures))
    (up-begins c.args.number c.requires.source c.requires.known c.requires.up).shape.narrow

pub new-node-requires-clause-wide : goal.new-node-requires-clause-wide
new-node-requires-clause-wide c =
    subst IsBusWidth
    (sym (c.bus-wide.ensures ∙ ap (λ (nodes : List DocumentNode). (node_at nodes c.document-document.result).bus) c.wiring.ensures
    ∙ ap (λ (document : ℕ). (node_at c.args.source.now.plan.now document).bus) c.document-document.ensures.document))
    (up-begins c.args.number c.requires.source c.requires.known c.requires.up).shape.wide

pub new-node-requires-clause-wider : goal.new-node-requires-clause-wider
new-node-requires-clause-wider c =
    omega (
      arith,
      (up-begins c.args.number c.requires.source c.requires.known c.requires.up).shape.wider,
      ap (λ (kind : PortKind). kind.bus) c.kind-above.ensures,
      ap (λ (link : ℕ). (plan_link_at c.args.source.now.plan.now link).link.bus) c.link_into-upper.ensures,
      c.bus-wide.ensures,
      ap (λ (nodes : List DocumentNode). (node_at nodes c.document-document.result).bus) c.wiring.ensures,
      ap (λ (document : ℕ). (node_at c.args.source.now.plan.now document).bus) c.document-document.ensures.document,
    )

pub returns : goal.returns
returns c =
    ap (as_node AnUp)
    (c.in_ok-boxed.ensures
    ∙ up-made c.args.source.now.plan.now c.args.source.now.traffic.now c.args.number c.link_into-upper.result c.link_out_of-lower.result c.kind-above.result.bus c.bus-wide.result c.new-node.result
    c.link_into-upper.ensures c.link_out_of-lower.ensures (ap (λ (kind : PortKind). kind.bus) c.kind-above.ensures)
    (c.bus-wide.ensures ∙ ap (λ (nodes : List DocumentNode). (node_at nodes c.document-document.result).bus) c.wiring.ensures
    ∙ ap (λ (document : ℕ). (node_at c.args.source.now.plan.now document).bus) c.document-document.ensures.document)
    c.new-node.ensures)
