use Rattle.std.proofs.Common.{◌≡◌, ◌-◌, length}
use Rattle.std.specs.Prelude.{find, not}
use Rattle.std.specs.List.{range_with_len}
use Rattle.node_graph.specs.Graph.{numbers}
use Rattle.node_graph.specs.Ranks.{is_risen}
use Rattle.node_graph.proofs.graph.NodeGraph.first_not_risen.Given as goal

abbrev pub invariant-loop-node : goal.invariant-loop-node
invariant-loop-node l =
    find (λ node. not (is_risen l.self l.ranks node)) (range_with_len l.node (length l.self - l.node))
    ≡ find (λ node. not (is_risen l.self l.ranks node)) (numbers (length l.self))
