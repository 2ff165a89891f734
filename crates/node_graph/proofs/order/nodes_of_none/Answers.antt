use Rattle.std.proofs.Common.{◌==◌, ◌++◌, ◌∙◌, ℕ, List, [], ◌∷◌, ap, cond, get_or, sym}
use Rattle.node_graph.proofs.Uppers.{filter_of_range}
use Rattle.node_graph.proofs.order.nodes_of_none.Goals as goal

pub loop-node-preserved : goal.loop-node-preserved
loop-node-preserved c =
    c.in_ok-push_free.ensures
    ∙ ap (λ (xs : List ℕ). xs ++ (cond (get_or c.args.waiting.now c.loop-node.node 0 == 0) (c.loop-node.node ∷ []) [])) c.loop-node.invariant
    ∙ sym (filter_of_range (λ node. get_or c.args.waiting.now node 0 == 0) c.loop-node.node)
