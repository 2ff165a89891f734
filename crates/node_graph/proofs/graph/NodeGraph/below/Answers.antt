use Rattle.std.proofs.Common.{◌≡◌, ◌∙◌, ℕ, List, ap, subst, true}
use Rattle.node_graph.specs.Graph.{is_in}
use Rattle.node_graph.specs.Order.{repeats}
use Rattle.node_graph.proofs.graph.NodeGraph.below.Goals as goal

pub returns-clause-known : goal.returns-clause-known
returns-clause-known c = λ lower there.
    c.lowers.ensures.simple.known c.args.node lower (subst (λ (list : List ℕ). is_in list lower ≡ true) c.lowers.ensures.nodes there)

pub returns-clause-once : goal.returns-clause-once
returns-clause-once c = ap repeats c.lowers.ensures.nodes ∙ c.lowers.ensures.simple.once c.args.node
