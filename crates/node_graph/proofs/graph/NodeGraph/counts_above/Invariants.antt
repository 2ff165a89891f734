use Rattle.std.proofs.Common.{◌≡◌, ◌<◌, ℕ, length, get_or}
use Rattle.node_graph.specs.Graph.{nodes_above}
use Rattle.node_graph.proofs.graph.NodeGraph.counts_above.Given as goal

abbrev pub invariant-loop-node : goal.invariant-loop-node
invariant-loop-node l = record {
  long : length l.counts.items ≡ l.node;
  each : (node : ℕ) → node < l.node → get_or l.counts.items node 0 ≡ length (nodes_above l.self node);
}
