use Rattle.net_build.specs.Linked.{AreAbove}
use Rattle.node_graph.specs.Simple.{lists_in}
use Rattle.net_build.proofs.ends.links_above.Given as goal

abbrev pub invariant-loop-link : goal.invariant-loop-link
invariant-loop-link l = AreAbove l.plan l.link (lists_in l.lists.items)
