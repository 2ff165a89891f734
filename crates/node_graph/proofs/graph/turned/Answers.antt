use Rattle.std.proofs.Common.{◌≡◌, ◌<◌, ◌+◌, ◌∙◌, ℕ, List, ap, length, sym, subst, true, arith}
use Rattle.std.specs.Prelude.{Vec}
use Rattle.std.specs.declared.alloc.Global.{Global}
use Rattle.node_graph.specs.Graph.{is_in, nodes_below}
use Rattle.node_graph.specs.Inside.{AddsUpper, HasAbove}
use Rattle.node_graph.specs.Order.{repeats}
use Rattle.node_graph.specs.Simple.{lists_in}
use Rattle.node_graph.proofs.Uppers.{above-none, above-more, length-lists, list-at, taken-back}
use Rattle.node_graph.proofs.graph.turned.Goals as goal

pub loop-upper-init : goal.loop-upper-init
loop-upper-init c =
    above-none (lists_in c.args.below.now) (lists_in c.in_ok-above.above.items) (c.in_ok-above.ensures.long ∙ sym (length-lists c.args.below.now)) c.in_ok-above.ensures.empty

pub add_upper-requires-clause-known : goal.add_upper-requires-clause-known
add_upper-requires-clause-known c = λ lower there.
    let same : nodes_below (lists_in c.args.below.now) c.loop-upper.upper ≡ c.deref.result.now =
    list-at c.args.below.now c.loop-upper.upper c.index-below-upper.result c.loop-upper-test.true c.index-below-upper.is ∙ sym c.deref.ensures.value in
    let known : lower < length (lists_in c.args.below.now) =
    c.requires.simple.known c.loop-upper.upper lower (subst (λ (list : List ℕ). is_in list lower ≡ true) (sym same) there) in
    omega (arith, known, c.loop-upper.invariant.long, length-lists c.loop-upper.above.items, ap length c.deref_mut.ensures.value)

pub add_upper-requires-clause-once : goal.add_upper-requires-clause-once
add_upper-requires-clause-once c =
    let same : nodes_below (lists_in c.args.below.now) c.loop-upper.upper ≡ c.deref.result.now =
    list-at c.args.below.now c.loop-upper.upper c.index-below-upper.result c.loop-upper-test.true c.index-below-upper.is ∙ sym c.deref.ensures.value in
    ap repeats (sym same) ∙ c.requires.simple.once c.loop-upper.upper

pub loop-upper-preserved : goal.loop-upper-preserved
loop-upper-preserved c =
    let same : nodes_below (lists_in c.args.below.now) c.loop-upper.upper ≡ c.deref.result.now =
    list-at c.args.below.now c.loop-upper.upper c.index-below-upper.result c.loop-upper-test.true c.index-below-upper.is ∙ sym c.deref.ensures.value in
    let whole = taken-back c.loop-upper.above.len c.add_upper.new.above c.loop-upper.above.items (omega (arith, c.add_upper.auto.above, ap length c.deref_mut.ensures.value))
    (omega (arith, c.add_upper.auto.above, c.deref_mut.ensures.len)) in
    subst (λ (items : List (Vec ℕ Global)). HasAbove (lists_in c.args.below.now) (c.loop-upper.upper + 1) (lists_in items)) (sym whole)
    (above-more (lists_in c.args.below.now) c.loop-upper.upper (lists_in c.loop-upper.above.items) (lists_in c.add_upper.new.above) c.loop-upper.invariant
    (subst (λ (list : List ℕ). AddsUpper list c.loop-upper.upper (lists_in c.loop-upper.above.items) (lists_in c.add_upper.new.above)) (sym same)
    (subst (λ (items : List (Vec ℕ Global)). AddsUpper c.deref.result.now c.loop-upper.upper (lists_in items) (lists_in c.add_upper.new.above)) c.deref_mut.ensures.value c.in_ok-add_upper.ensures)))
