use Rattle.std.proofs.Common.{◌≡◌, ◌<◌, ◌-◌, ◌∙◌, ap, length, sym, arith}
use Rattle.std.specs.Prelude.{find, ℕ}
use Rattle.std.specs.List.{range_with_len}
use Rattle.node_graph.specs.Graph.{is_on_cycle, numbers}
use Rattle.node_graph.proofs.Finds.{find-next}
use Rattle.node_graph.proofs.graph.NodeGraph.search_each.Goals as goal

pub loop-node-init : goal.loop-node-init
unfolding numbers
loop-node-init c =
    let whole : length c.args.self.now - 0 ≡ length c.args.self.now = omega arith in
    ap (λ (k : ℕ). find (is_on_cycle c.args.self.now) (range_with_len 0 k)) whole

pub loop-node-preserved : goal.loop-node-preserved
loop-node-preserved c =
    let less : c.loop-node.node < length c.args.self.now = omega (arith, c.loop-node-test.true, c.count-node-end.ensures) in
    sym (find-next (is_on_cycle c.args.self.now) (length c.args.self.now) c.loop-node.node less (sym c.in_ok-is_on_cycle.ensures ∙ c.if-branch.false)) ∙ c.loop-node.invariant
