use Rattle.node_graph.specs.Search.{PassesSome}
use Rattle.std.proofs.Common.{take}
use Rattle.node_graph.proofs.graph.NodeGraph.pass.Given as goal

abbrev pub invariant-loop-lower : goal.invariant-loop-lower
invariant-loop-lower l = PassesSome l.self (take l.lower-index l.lower-items) l.initial.search l.search
