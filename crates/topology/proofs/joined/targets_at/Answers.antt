use Rattle.std.proofs.Common.{◌≡◌, ◌∙◌, ◌∷◌, [], ap, false, filter_map, map, sym, true}
use Rattle.std.proofs.lemmas.Result.{IfOk-weaker}
use Rattle.address_map.specs.declared.region.Region.{Region}
use Rattle.node_graph.specs.Graph.{each_once}
use Rattle.topology.specs.Document.{DocumentNode, has_regions, is_memory, node_at, targets_of}
use Rattle.topology.specs.Joined.{name_place}
use Rattle.topology.specs.Wiring.{regions_of}
use Rattle.topology.proofs.JoinedLemmas.{all-known, targets-other, targets-region}
use Rattle.topology.proofs.WiringFacts.{regions-at}
use Rattle.topology.proofs.joined.targets_at.Goals as goal

pub returns-then-has_regions : goal.returns-then-has_regions
returns-then-has_regions c =
    let node : DocumentNode = node_at c.args.nodes.now c.args.place in
    let here : has_regions node.kind ≡ true = sym (ap has_regions (c.kind.ensures ∙ ap (λ (d : DocumentNode). d.kind) c.node_at-node.ensures)) ∙ sym c.if-has_regions.ensures in
    let are : c.deref.result.now ≡ regions_of c.args.nodes.now node =
    c.deref.ensures.value ∙ regions-at c.args.nodes.now c.args.regions.now c.args.place c.index-regions-place.result c.requires.regions c.requires.inside c.index-regions-place.is in
    IfOk-weaker c.ports_of.result (λ below. below.items ≡ each_once (map (λ (region : Region). region.port) c.deref.result.now)) (λ below. below.items ≡ targets_of c.args.nodes.now node)
    (λ below e. e ∙ targets-region node c.args.nodes.now c.deref.result.now here (all-known c.args.nodes.now c.args.place c.requires.inside c.requires.known) are) c.ports_of.ensures

pub returns : goal.returns
returns c =
    let node : DocumentNode = node_at c.args.nodes.now c.args.place in
    let here : has_regions node.kind ≡ false = sym (ap has_regions (c.kind.ensures ∙ ap (λ (d : DocumentNode). d.kind) c.node_at-node.ensures)) ∙ sym c.if-has_regions.ensures in
    let other : is_memory node.kind ≡ false = sym (ap is_memory (c.kind-2.ensures ∙ ap (λ (d : DocumentNode). d.kind) c.node_at-node.ensures)) ∙ sym c.if-is_memory.ensures in
    IfOk-weaker c.target_of.result (λ below. below.items ≡ each_once (filter_map (name_place c.args.names.now.keys) (c.node_at-node.result.now.to ∷ []))) (λ below. below.items ≡ targets_of c.args.nodes.now node)
    (
    λ below e. e ∙ ap (λ (d : DocumentNode). each_once (filter_map (name_place c.args.names.now.keys) (d.to ∷ []))) c.node_at-node.ensures
    ∙ targets-other node c.args.nodes.now c.args.names.now.keys c.requires.names here other
    )
    c.target_of.ensures
