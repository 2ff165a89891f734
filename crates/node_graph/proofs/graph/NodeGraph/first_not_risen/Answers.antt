use Rattle.std.proofs.Common.{◌≡◌, ◌<◌, ◌-◌, ◌∙◌, ap, length, sym, true, arith, rules}
use Rattle.std.specs.Prelude.{find, not, ℕ}
use Rattle.std.specs.List.{range_with_len}
use Rattle.node_graph.specs.Graph.{numbers}
use Rattle.node_graph.specs.Ranks.{is_risen}
use Rattle.node_graph.proofs.Finds.{find-next}
use Rattle.node_graph.proofs.graph.NodeGraph.first_not_risen.Goals as goal

pub loop-node-init : goal.loop-node-init
unfolding numbers
loop-node-init c =
    let whole : length c.args.self.now - 0 ≡ length c.args.self.now = omega arith in
    ap (λ (k : ℕ). find (λ node. not (is_risen c.args.self.now c.args.ranks.now node)) (range_with_len 0 k)) whole

pub loop-node-preserved : goal.loop-node-preserved
loop-node-preserved c =
    let less : c.loop-node.node < length c.args.self.now = omega (arith, c.loop-node-test.true, c.count-node-end.ensures) in
    let risen : is_risen c.args.self.now c.args.ranks.now c.loop-node.node ≡ true = search rules in
    sym (find-next (λ node. not (is_risen c.args.self.now c.args.ranks.now node)) (length c.args.self.now) c.loop-node.node less (ap not risen)) ∙ c.loop-node.invariant
