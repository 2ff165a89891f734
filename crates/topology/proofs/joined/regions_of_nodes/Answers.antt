use Rattle.std.proofs.Common.{◌≡◌, ◌<◌, ◌∙◌, ap, arith, length, map}
use Rattle.std.specs.Prelude.{vec_items}
use Rattle.topology.specs.Document.{DocumentNode, named, node_at}
use Rattle.topology.specs.Joined.{name_place, placed_region}
use Rattle.topology.specs.Wiring.{region_lists, regions_of}
use Rattle.topology.proofs.JoinedLemmas.{lists-next, place-named, regions-same}
use Rattle.topology.proofs.joined.regions_of_nodes.Goals as goal

pub loop-place-preserved : goal.loop-place-preserved
loop-place-preserved c =
    let less : c.loop-place.place < length c.args.nodes.now = omega (arith, c.loop-place-test.true, c.requires.few) in
    let is : vec_items c.in_ok-regions_of.field-0 ≡ regions_of c.args.nodes.now (node_at c.args.nodes.now c.loop-place.place) =
    c.in_ok-regions_of.ensures
    ∙ ap (λ (node : DocumentNode). map (placed_region (name_place c.args.names.now.keys)) node.region) c.node_at.ensures
    ∙ regions-same (name_place c.args.names.now.keys) (named c.args.nodes.now) (λ name. place-named name c.args.names.now.keys c.args.nodes.now c.requires.names) (node_at c.args.nodes.now c.loop-place.place).region in
    ap region_lists c.in_ok-push.ensures.items
    ∙ lists-next vec_items (regions_of c.args.nodes.now) c.args.nodes.now c.loop-place.place c.loop-place.regions.items c.in_ok-regions_of.field-0 less c.loop-place.invariant is
