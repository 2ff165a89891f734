use Rattle.std.proofs.Common.{◌≡◌, map, take}
use Rattle.node_graph.specs.Simple.{lists_in}
use Rattle.topology.specs.Document.{targets_of}
use Rattle.topology.proofs.joined.targets_of_nodes.Given as goal

abbrev pub invariant-loop-place : goal.invariant-loop-place
invariant-loop-place l = lists_in l.below.items ≡ map (targets_of l.nodes) (take l.place l.nodes)
