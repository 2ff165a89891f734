use Rattle.node_graph.specs.Inside.{HasAbove}
use Rattle.node_graph.specs.Simple.{lists_in}
use Rattle.node_graph.proofs.graph.turned.Given as goal

abbrev pub invariant-loop-upper : goal.invariant-loop-upper
invariant-loop-upper l = HasAbove (lists_in l.below) l.upper (lists_in l.above.items)
