use Rattle.std.proofs.Common.{◌∙◌, ap, length}
use Rattle.node_graph.specs.Graph.{Graph, nodes_below}
use Rattle.topology.proofs.AcceptedFacts.{below-targets}
use Rattle.topology.proofs.size.targets_of.Goals as goal

pub returns : goal.returns
returns c =
    ap length (c.below.ensures.nodes ∙ ap (λ (g : Graph). nodes_below g c.args.place) c.requires.joined ∙ below-targets c.args.nodes.now c.args.place c.requires.inside)
