use Rattle.std.proofs.Common.{ℕ, List, ◌++◌, ◌∙◌, ap, append_assoc, sym}
use Rattle.std.specs.Prelude.{flat_map}
use Rattle.std.specs.List.{range_with_len}
use Rattle.elaborate.specs.Plan.{PlanNode, input_parts}
use Rattle.elaborate.proofs.Lists.{flat-more}
use Rattle.elaborate.proofs.crossbar.push_inputs.Goals as goal

pub loop-input-preserved : goal.loop-input-preserved
loop-input-preserved c =
    c.in_ok-push_input.ensures
    ∙ ap (λ (xs : List PlanNode). xs ++ input_parts c.args.wiring.now c.args.place c.loop-input.input) c.loop-input.invariant
    ∙ append_assoc c.args.nodes.now.items (flat_map (input_parts c.args.wiring.now c.args.place) (range_with_len 0 c.loop-input.input)) (input_parts c.args.wiring.now c.args.place c.loop-input.input)
    ∙ ap (λ (xs : List PlanNode). c.args.nodes.now.items ++ xs) (sym (flat-more (input_parts c.args.wiring.now c.args.place) c.loop-input.input))
