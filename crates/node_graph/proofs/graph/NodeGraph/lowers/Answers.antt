use Rattle.std.proofs.Common.{subst}
use Rattle.node_graph.specs.Graph.{Graph}
use Rattle.node_graph.specs.Simple.{IsSimple}
use Rattle.node_graph.proofs.graph.NodeGraph.lowers.Goals as goal

pub returns-clause-simple : goal.returns-clause-simple
returns-clause-simple c = subst (λ (graph : Graph). IsSimple graph) c.self.view_is c.self.invariant.simple
