use Rattle.std.proofs.Common.{take}
use Rattle.node_graph.specs.Inside.{AddsUpper}
use Rattle.node_graph.specs.Simple.{lists_in}
use Rattle.node_graph.proofs.graph.add_upper.Given as goal

abbrev pub invariant-loop-lower : goal.invariant-loop-lower
invariant-loop-lower l = AddsUpper (take l.lower-index l.lowers) l.upper (lists_in l.initial.above) (lists_in l.above)
