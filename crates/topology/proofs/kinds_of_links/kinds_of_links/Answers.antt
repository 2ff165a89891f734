use Rattle.std.proofs.Common.{rules, ◌≡◌, ◌<◌, ℕ, get_or, length, arith}
use Rattle.node_graph.specs.Simple.{LeadsDown}
use Rattle.topology.proofs.LinkLemmas.{links-next, order-known}
use Rattle.topology.proofs.kinds_of_links.kinds_of_links.Goals as goal

pub node_at-requires : goal.node_at-requires
node_at-requires c =
    let leads : LeadsDown c.args.graph.now c.deref-place-items.result.now = search rules in
    let less : c.loop-place.place-index < length c.deref-place-items.result.now = search rules in
    omega (arith, order-known c.args.graph.now c.deref-place-items.result.now c.loop-place.place-index leads less, c.requires.long)

pub above-requires : goal.above-requires
above-requires c =
    let leads : LeadsDown c.args.graph.now c.deref-place-items.result.now = search rules in
    let less : c.loop-place.place-index < length c.deref-place-items.result.now = search rules in
    order-known c.args.graph.now c.deref-place-items.result.now c.loop-place.place-index leads less

pub index_mut-requires : goal.index_mut-requires
index_mut-requires c =
    let leads : LeadsDown c.args.graph.now c.deref-place-items.result.now = search rules in
    let less : c.loop-place.place-index < length c.deref-place-items.result.now = search rules in
    let known : get_or c.deref-place-items.result.now c.loop-place.place-index 0 < length c.args.graph.now = order-known c.args.graph.now c.deref-place-items.result.now c.loop-place.place-index leads less in
    let long : length c.loop-place.links.items ≡ length c.args.nodes.now = c.loop-place.invariant.long in
    search (rules, known, long, c.requires.long)

pub loop-place-preserved : goal.loop-place-preserved
loop-place-preserved c =
    let leads : LeadsDown c.args.graph.now c.deref-place-items.result.now = search rules in
    let less : c.loop-place.place-index < length c.deref-place-items.result.now = search rules in
    let node : ℕ = get_or c.deref-place-items.result.now c.loop-place.place-index 0 in
    links-next c.args.nodes.now c.args.graph.now c.loop-place.links.items c.deref-place-items.result.now c.loop-place.place-index node c.link_below-link.result c.node_at.result.now c.above.result.now
    c.requires.joined c.requires.long c.requires.acyclic leads less (search rules) c.node_at.ensures c.above.ensures.nodes c.loop-place.invariant (search rules)
