use Rattle.std.proofs.Common.{ℕ, List, ◌++◌, ◌∙◌, ap, arith, sym}
use Rattle.elaborate.specs.Plan.{PlanNode, node_parts}
use Rattle.elaborate.proofs.Lists.{flat-more}
use Rattle.elaborate.proofs.parts.plan_nodes.Goals as goal

pub loop-place-preserved : goal.loop-place-preserved
loop-place-preserved c =
    c.in_ok-push_parts.ensures
    ∙ ap (λ (xs : List PlanNode). xs ++ node_parts c.args.wiring.now c.loop-place.place) c.loop-place.invariant
    ∙ sym (flat-more (node_parts c.args.wiring.now) c.loop-place.place)
