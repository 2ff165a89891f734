use Rattle.std.proofs.Common.{◌≡◌, ◌<◌, ◌≤◌, ◌∙◌, ℕ, List, ap, length, subst, sym}
use Rattle.std.specs.Prelude.{All}
use Rattle.address_map.specs.declared.region.Region.{Region}
use Rattle.demux_node.specs.DemuxTrail.{IsNewDemux}
use Rattle.elaborate.specs.Path.{ported_regions}
use Rattle.net_build.proofs.MadeLemmas.{as_node, demux-made}
use Rattle.net_build.proofs.SourceLemmas.{demux-begins}
use Rattle.net_build.proofs.parts.demux_node.Goals as goal
use Rattle.net_kinds.specs.NodeKind.{ADemux}
use Rattle.net_opening.specs.States.{demux_at, document_node_of}
use Rattle.topology.specs.Document.{DocumentNode, node_at}
use Rattle.topology.specs.Refused.{IsAccepted}

pub map_of-requires-clause-accepted : goal.map_of-requires-clause-accepted
map_of-requires-clause-accepted c = subst IsAccepted (sym c.wiring.ensures) c.requires.source.accepted

pub map_of-requires-clause-known : goal.map_of-requires-clause-known
map_of-requires-clause-known c = subst (λ (nodes : List DocumentNode). c.document-document.result < length nodes) (sym c.wiring.ensures) c.document-document.ensures.known

pub new-node-requires-clause-some : goal.new-node-requires-clause-some
new-node-requires-clause-some c =
    let begins : IsNewDemux (demux_at c.args.source.now.plan.now c.args.number) = demux-begins c.args.number c.requires.source c.requires.known c.requires.demux in
    subst (λ (links : List ℕ). 0 < length links) (sym c.links_out_of-lowers.ensures) begins.shape.some

pub new-node-requires-clause-most : goal.new-node-requires-clause-most
new-node-requires-clause-most c =
    let begins : IsNewDemux (demux_at c.args.source.now.plan.now c.args.number) = demux-begins c.args.number c.requires.source c.requires.known c.requires.demux in
    subst (λ (links : List ℕ). length links ≤ 17) (sym c.links_out_of-lowers.ensures) begins.shape.most

pub new-node-requires-clause-regions : goal.new-node-requires-clause-regions
new-node-requires-clause-regions c =
    let begins : IsNewDemux (demux_at c.args.source.now.plan.now c.args.number) = demux-begins c.args.number c.requires.source c.requires.known c.requires.demux in
    let placed : c.in_ok-map.map ≡ ported_regions c.args.source.now.plan.now (document_node_of c.args.source.now.plan.now c.args.number) =
    c.in_ok-map.ensures ∙ ap (λ (nodes : List DocumentNode). ported_regions nodes (node_at nodes c.document-document.result)) c.wiring.ensures
    ∙ ap (λ (document : ℕ). ported_regions c.args.source.now.plan.now (node_at c.args.source.now.plan.now document)) c.document-document.ensures.document in
    subst (λ (links : List ℕ). All (λ (region : Region). region.port < length links) c.in_ok-map.map) (sym c.links_out_of-lowers.ensures)
    (subst (All (λ (region : Region). region.port < length (demux_at c.args.source.now.plan.now c.args.number).shape.lowers)) (sym placed) begins.shape.regions)

pub returns : goal.returns
returns c =
    let placed : c.in_ok-map.map ≡ ported_regions c.args.source.now.plan.now (document_node_of c.args.source.now.plan.now c.args.number) =
    c.in_ok-map.ensures ∙ ap (λ (nodes : List DocumentNode). ported_regions nodes (node_at nodes c.document-document.result)) c.wiring.ensures
    ∙ ap (λ (document : ℕ). ported_regions c.args.source.now.plan.now (node_at c.args.source.now.plan.now document)) c.document-document.ensures.document in
    ap (as_node ADemux)
    (c.in_ok-boxed.ensures
    ∙ demux-made c.args.source.now.plan.now c.args.source.now.traffic.now c.args.number c.link_into-upper.result c.links_out_of-lowers.result.now c.in_ok-map.map c.new-node.result
    c.link_into-upper.ensures c.links_out_of-lowers.ensures placed c.new-node.ensures)
