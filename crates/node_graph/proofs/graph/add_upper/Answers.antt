use Rattle.std.proofs.Common.{◌<◌, ◌++◌, ◌∙◌, ℕ, [], ◌∷◌, ap, sym, length, get_or, arith}
use Rattle.std.specs.Prelude.{Vec, vec_items}
use Rattle.std.specs.declared.alloc.Global.{Global}
use Rattle.std.proofs.Math.ListN.{set}
use Rattle.node_graph.specs.Simple.{lists_in}
use Rattle.node_graph.proofs.Uppers.{adds-none, adds-more, get-in, length-lists, pushed-at}
use Rattle.node_graph.proofs.graph.add_upper.Goals as goal

pub loop-lower-init : goal.loop-lower-init
loop-lower-init c = adds-none c.args.upper (lists_in c.args.above.now)

pub bounds-above-lower : goal.bounds-above-lower
bounds-above-lower c =
    let known : get_or c.args.lowers.now c.loop-lower.lower-index 0 < length c.args.above.now =
    c.requires.known (get_or c.args.lowers.now c.loop-lower.lower-index 0) (get-in c.args.lowers.now c.loop-lower.lower-index c.loop-lower-test.true) in
    omega (arith, known, c.loop-lower.auto.above)

pub loop-lower-preserved : goal.loop-lower-preserved
loop-lower-preserved c =
    let known : get_or c.args.lowers.now c.loop-lower.lower-index 0 < length c.args.above.now =
    c.requires.known (get_or c.args.lowers.now c.loop-lower.lower-index 0) (get-in c.args.lowers.now c.loop-lower.lower-index c.loop-lower-test.true) in
    let inside : get_or c.args.lowers.now c.loop-lower.lower-index 0 < length c.loop-lower.above = omega (arith, known, c.loop-lower.auto.above) in
    adds-more c.args.lowers.now c.args.upper c.loop-lower.lower-index (lists_in c.args.above.now) (lists_in c.loop-lower.above)
    (lists_in (set c.loop-lower.above (get_or c.args.lowers.now c.loop-lower.lower-index 0) c.push.new.self)) c.loop-lower-test.true c.requires.once
    (omega (arith, known, length-lists c.args.above.now)) c.loop-lower.invariant
    (pushed-at c.loop-lower.above (get_or c.args.lowers.now c.loop-lower.lower-index 0) c.args.upper c.index-above-lower.result c.push.new.self inside c.index-above-lower.is
    (c.in_ok-push.ensures.items ∙ ap (λ (v : Vec ℕ Global). vec_items v ++ c.args.upper ∷ []) (sym c.index-above-lower.is)))
