use Rattle.std.proofs.Common.{ap, length, arith}
use Rattle.node_graph.proofs.Uppers.{above-few}
use Rattle.node_graph.proofs.graph.NodeGraph.above.Goals as goal

pub returns-clause-few : goal.returns-clause-few
returns-clause-few c = omega (arith, ap length c.uppers.ensures.nodes, above-few c.args.self.now c.args.node, c.uppers.ensures.few)
