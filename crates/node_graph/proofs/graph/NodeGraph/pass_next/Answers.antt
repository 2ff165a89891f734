use Rattle.std.proofs.Common.{◌∙◌, ◌<◌, ap, length, refl, arith}
use Rattle.node_graph.specs.Graph.{is_in}
use Rattle.node_graph.proofs.Searched.{search-next, search-over}
use Rattle.node_graph.proofs.Uppers.{get-in}
use Rattle.node_graph.proofs.Visited.{get-any}
use Rattle.node_graph.proofs.graph.NodeGraph.pass_next.Goals as goal

pub pass-requires-clause-inside : goal.pass-requires-clause-inside
pass-requires-clause-inside c =
    let less : c.args.place < length c.args.search.now.queue.items = omega (arith, c.if-place-len.false, c.len.ensures) in
    c.requires.search.known c.index-node.result.now
    (ap (is_in c.args.search.now.queue.items) (c.index-node.ensures ∙ get-any c.args.search.now.queue.items c.args.place c.index-node.result.now less) ∙ get-in c.args.search.now.queue.items c.args.place less)

pub returns-then-place-len : goal.returns-then-place-len
returns-then-place-len c = record {
  search = search-over c.args.self.now c.args.place c.args.search.now (omega (arith, c.if-place-len.true, c.len.ensures)) c.requires.search;
  start = refl;
}

pub returns-clause-search : goal.returns-clause-search
returns-clause-search c =
    let less : c.args.place < length c.args.search.now.queue.items = omega (arith, c.if-place-len.false, c.len.ensures) in
    search-next c.args.self.now c.args.place c.index-node.result.now c.args.search.now c.pass.new.search c.requires.search less c.index-node.ensures c.in_ok-pass.ensures
