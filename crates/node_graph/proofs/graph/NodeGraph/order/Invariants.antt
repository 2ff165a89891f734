use Rattle.node_graph.specs.Visits.{AreVisited}
use Rattle.node_graph.proofs.graph.NodeGraph.order.Given as goal

abbrev pub invariant-loop-count : goal.invariant-loop-count
invariant-loop-count l = AreVisited l.self l.count l.waiting.items l.queue.items
