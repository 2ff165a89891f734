use Rattle.std.proofs.Common.{◌≡◌, List, arith, length, map, subst}
use Rattle.node_graph.specs.Graph.{numbers}
use Rattle.topology.specs.Document.{DocumentNode, link_kind_of}
use Rattle.topology.proofs.WiringFacts.{link-at, links-long}
use Rattle.topology.proofs.wiring.Wiring.link.Goals as goal

pub index-requires : goal.index-requires
index-requires c =
    let kept : c.self.inside.links.items ≡ map (link_kind_of c.args.self.now) (numbers (length c.args.self.now)) =
    subst (λ (nodes : List DocumentNode). c.self.inside.links.items ≡ map (link_kind_of nodes) (numbers (length nodes))) c.self.view_is c.self.invariant.links_are in
    let long : length c.self.inside.links.items ≡ length c.args.self.now = links-long c.args.self.now c.self.inside.links.items kept in
    omega (arith, c.requires, long, c.self.inside.links.ok)

pub returns : goal.returns
returns c =
    let kept : c.self.inside.links.items ≡ map (link_kind_of c.args.self.now) (numbers (length c.args.self.now)) =
    subst (λ (nodes : List DocumentNode). c.self.inside.links.items ≡ map (link_kind_of nodes) (numbers (length nodes))) c.self.view_is c.self.invariant.links_are in
    link-at c.args.self.now c.self.inside.links.items c.args.node c.index.result.now kept c.requires c.index.ensures
