use Rattle.std.proofs.Common.{◌≡◌, ◌<◌, ℕ, true}
use Rattle.node_graph.specs.Ranks.{is_never_lower}
use Rattle.node_graph.proofs.graph.NodeGraph.never_falls.Given as goal

abbrev pub invariant-loop-node : goal.invariant-loop-node
invariant-loop-node l = (node : ℕ) → node < l.node → is_never_lower l.self l.ranks node ≡ true
