use Rattle.std.proofs.Common.{◌≡◌, ◌<◌, ap, arith, get_or, length, set, subst, sym, true, ◌∙◌}
use Rattle.std.proofs.lemmas.List.Edits.{map_over_more}
use Rattle.net_kinds.specs.NodeTable.{node_done, node_table}
use Rattle.net_kinds.specs.declared.node.Node.{Node}
use Rattle.net_steps.proofs.CallLemmas.{acting-set, passed-over}
use Rattle.net_steps.proofs.PhaseLemmas.{next-is, one-small, unfinished-few, unfinished-more}
use Rattle.net_steps.proofs.phase.decide_each.Goals as goal
use Rattle.net_steps.specs.Calls.{acts}
use Rattle.net_steps.specs.Unfinished.{one_unless}

pub overflow_add-unfinished : goal.overflow_add-unfinished
overflow_add-unfinished c =
    let few = unfinished-few (node_table c.args.round c.args.queues.now) c.loop-node.node-index c.args.nodes.now in
    let small = one-small (node_done c.decide_where-unfinished.new.node) in
    omega (arith, c.requires.few, c.loop-node.invariant.1, c.decide_where-unfinished.ensures.unfinished, few, small)

pub loop-node-preserved : goal.loop-node-preserved
loop-node-preserved c =
    let f = node_table c.args.round c.args.queues.now in
    let i = c.loop-node.node-index in
    let item = c.node-item.result in
    let within : i < length c.args.nodes.now = omega arith in
    let decided : c.decide_where-unfinished.new.node ≡ f item = c.decide_where-unfinished.ensures.node ∙ ap f (sym c.node-item.is) in
    let own : item ≡ get_or c.args.nodes.now i item = c.node-item.is ∙ next-is f c.args.nodes.now c.loop-node.nodes i item within c.loop-node.invariant.0 in
    let counts : c.decide_where-unfinished.result ≡ one_unless (node_done (f item)) =
    c.decide_where-unfinished.ensures.unfinished ∙ ap (λ (n : Node). one_unless (node_done n)) decided in
    let more = unfinished-more f c.args.nodes.now i item item within own in (
      ap (λ n. set c.loop-node.nodes i n) decided ∙ map_over_more f c.args.nodes.now c.loop-node.nodes i item within c.loop-node.invariant.0 c.node-item.is,
      omega (arith, c.loop-node.invariant.1, counts, more),
      omega (arith, c.loop-node.invariant.2),
      acting-set c.loop-node.nodes c.loop-node.acting c.loop-node.place i c.decide_where-unfinished.new.node c.acts_where.result c.loop-node.invariant.3 c.loop-node.invariant.2 c.acts_where.ensures,
    )

pub decide_where-unfinished-requires-clause-stays : goal.decide_where-unfinished-requires-clause-stays
decide_where-unfinished-requires-clause-stays c = λ is.
    let over = passed-over c.args.round c.args.queues.now c.args.seen.now c.loop-node.acting c.args.nodes.now c.loop-node.nodes c.loop-node.place c.loop-node.node-index c.node-item.result
    c.is_called-called.result c.requires.seen c.loop-node.auto.nodes c.loop-node-test.true c.loop-node.invariant.0 c.loop-node.invariant.2 c.loop-node.invariant.3 c.node-item.is
    c.is_called-called.ensures c.requires.others is in
    subst (λ (n : Node). node_table c.args.round c.args.queues.now n ≡ n) c.node-item.is over.stays

pub decide_where-unfinished-requires-clause-done : goal.decide_where-unfinished-requires-clause-done
decide_where-unfinished-requires-clause-done c = λ is.
    let over = passed-over c.args.round c.args.queues.now c.args.seen.now c.loop-node.acting c.args.nodes.now c.loop-node.nodes c.loop-node.place c.loop-node.node-index c.node-item.result
    c.is_called-called.result c.requires.seen c.loop-node.auto.nodes c.loop-node-test.true c.loop-node.invariant.0 c.loop-node.invariant.2 c.loop-node.invariant.3 c.node-item.is
    c.is_called-called.ensures c.requires.others is in
    subst (λ (n : Node). node_done n ≡ true) c.node-item.is over.done

pub acts_where-requires : goal.acts_where-requires
acts_where-requires c = λ is.
    let over = passed-over c.args.round c.args.queues.now c.args.seen.now c.loop-node.acting c.args.nodes.now c.loop-node.nodes c.loop-node.place c.loop-node.node-index c.node-item.result
    c.is_called-called.result c.requires.seen c.loop-node.auto.nodes c.loop-node-test.true c.loop-node.invariant.0 c.loop-node.invariant.2 c.loop-node.invariant.3 c.node-item.is
    c.is_called-called.ensures c.requires.others is in
    ap acts (c.decide_where-unfinished.ensures.node ∙ ap (node_table c.args.round c.args.queues.now) (sym c.node-item.is) ∙ over.stays) ∙ over.still
