use Rattle.std.proofs.Common.{◌∙◌, ap, get_or, sym, arith}
use Rattle.std.specs.Prelude.{◌==◌, List, ℕ, filter}
use Rattle.std.specs.List.{list_all, range_with_len}
use Rattle.node_graph.proofs.Ordered.{has-cycle, leads-down, visits-begin, visits-end}
use Rattle.node_graph.proofs.graph.NodeGraph.order.Goals as goal

pub loop-count-init : goal.loop-count-init
loop-count-init c =
    visits-begin c.args.self.now c.count-nodes.result c.in_ok-waiting.waiting.items c.in_ok-queue.queue.items c.count-nodes.ensures c.in_ok-waiting.ensures.long c.in_ok-waiting.ensures.each
    (c.in_ok-queue.ensures ∙ ap (λ (waiting : List ℕ). filter (λ node. get_or waiting node 0 == 0) (range_with_len 0 c.count-nodes.result)) c.deref.ensures.value)

pub returns-then-are_zero : goal.returns-then-are_zero
returns-then-are_zero c = record {
  order =
      leads-down c.args.self.now c.loop-count.waiting.items c.loop-count.queue.items
      (visits-end c.args.self.now c.loop-count.count c.loop-count.waiting.items c.loop-count.queue.items (omega (arith, c.loop-count-test.false, c.count-nodes.ensures)) c.loop-count.invariant)
      (ap (list_all (λ count. count == 0)) (sym c.deref-2.ensures.value) ∙ sym c.are_zero.ensures ∙ c.if-are_zero.true);
  cycle = λ same. absurd cc;
}

pub returns-clause-cycle : goal.returns-clause-cycle
returns-clause-cycle c = λ same.
    has-cycle c.args.self.now c.loop-count.waiting.items c.loop-count.queue.items
    (visits-end c.args.self.now c.loop-count.count c.loop-count.waiting.items c.loop-count.queue.items (omega (arith, c.loop-count-test.false, c.count-nodes.ensures)) c.loop-count.invariant)
    (ap (list_all (λ count. count == 0)) (sym c.deref-2.ensures.value) ∙ sym c.are_zero.ensures ∙ c.if-are_zero.false)
