use Rattle.std.proofs.Common.{◌<◌, ◌≤◌, ◌∙◌, List, ap, length, subst, sym, ℕ}
use Rattle.net_build.proofs.MadeLemmas.{as_node, remap-made}
use Rattle.net_build.proofs.SourceLemmas.{remap-begins}
use Rattle.net_build.proofs.parts.remap_node.Goals as goal
use Rattle.net_kinds.specs.NodeKind.{ARemap}
use Rattle.topology.specs.Document.{DocumentNode, node_at}

pub id_width-width-requires : goal.id_width-width-requires
id_width-width-requires c = subst (λ (nodes : List DocumentNode). c.document-document.result < length nodes) (sym c.wiring.ensures) c.document-document.ensures.known

pub new-node-requires : goal.new-node-requires
new-node-requires c =
    subst (λ (width : ℕ). width ≤ 16)
    (sym (c.id_width-width.ensures ∙ ap (λ (nodes : List DocumentNode). (node_at nodes c.document-document.result).id_width) c.wiring.ensures
    ∙ ap (λ (document : ℕ). (node_at c.args.source.now.plan.now document).id_width) c.document-document.ensures.document))
    (remap-begins c.args.number c.requires.source c.requires.known c.requires.remap).narrow

pub returns : goal.returns
returns c =
    ap (as_node ARemap)
    (c.in_ok-boxed.ensures
    ∙ remap-made c.args.source.now.plan.now c.args.source.now.traffic.now c.args.number c.link_into-upper.result c.link_out_of-lower.result c.id_width-width.result c.new-node.result
    c.link_into-upper.ensures c.link_out_of-lower.ensures
    (c.id_width-width.ensures ∙ ap (λ (nodes : List DocumentNode). (node_at nodes c.document-document.result).id_width) c.wiring.ensures
    ∙ ap (λ (document : ℕ). (node_at c.args.source.now.plan.now document).id_width) c.document-document.ensures.document)
    c.new-node.ensures)
