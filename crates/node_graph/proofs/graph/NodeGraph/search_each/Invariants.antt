use Rattle.std.proofs.Common.{◌≡◌, ◌-◌, length}
use Rattle.std.specs.Prelude.{find}
use Rattle.std.specs.List.{range_with_len}
use Rattle.node_graph.specs.Graph.{is_on_cycle, numbers}
use Rattle.node_graph.proofs.graph.NodeGraph.search_each.Given as goal

abbrev pub invariant-loop-node : goal.invariant-loop-node
invariant-loop-node l = find (is_on_cycle l.self) (range_with_len l.node (length l.self - l.node)) ≡ find (is_on_cycle l.self) (numbers (length l.self))
