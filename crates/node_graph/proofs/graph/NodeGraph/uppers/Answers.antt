use Rattle.std.proofs.Common.{◌<◌, ◌^◌, length, subst}
use Rattle.node_graph.specs.Graph.{Graph}
use Rattle.node_graph.proofs.graph.NodeGraph.uppers.Goals as goal

pub returns-clause-few : goal.returns-clause-few
returns-clause-few c = subst (λ (graph : Graph). length graph < 2 ^ 32) c.self.view_is c.self.invariant.few
