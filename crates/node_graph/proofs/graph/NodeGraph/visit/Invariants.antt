use Rattle.std.proofs.Common.{◌≡◌, ◌+◌, take}
use Rattle.node_graph.specs.Visits.{IsPassingOn}
use Rattle.node_graph.proofs.graph.NodeGraph.visit.Given as goal

abbrev pub invariant-loop-lower : goal.invariant-loop-lower
invariant-loop-lower l = record {
  passing : IsPassingOn l.self (take l.place l.initial.queue.items) (take l.lower-index l.lower-items) l.waiting l.queue.items;
  front : take (l.place + 1) l.queue.items ≡ take (l.place + 1) l.initial.queue.items;
}
