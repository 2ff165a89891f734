use Rattle.std.proofs.Common.{◌≡◌}
use Rattle.node_graph.specs.Search.{IsSearch}
use Rattle.node_graph.proofs.graph.NodeGraph.is_on_cycle.Given as goal

abbrev pub invariant-loop-place : goal.invariant-loop-place
invariant-loop-place l = record {
  search : IsSearch l.self l.place l.search;
  start : l.search.start ≡ l.node;
}
