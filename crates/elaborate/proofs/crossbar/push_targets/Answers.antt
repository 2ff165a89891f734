use Rattle.std.proofs.Common.{ℕ, List, ◌++◌, ◌∷◌, [], ◌∙◌, ap, append_assoc, arith, map, sym}
use Rattle.std.specs.List.{range_with_len}
use Rattle.std.proofs.lemmas.List.FromFn.{map-range_with_len_more}
use Rattle.elaborate.specs.Plan.{PlanNode, target_mux}
use Rattle.elaborate.proofs.crossbar.push_targets.Goals as goal

pub loop-port-preserved : goal.loop-port-preserved
loop-port-preserved c =
    c.in_ok-push_target.ensures
    ∙ ap (λ (xs : List PlanNode). xs ++ target_mux c.args.wiring.now c.args.place c.loop-port.port ∷ []) c.loop-port.invariant
    ∙ append_assoc c.args.nodes.now.items (map (target_mux c.args.wiring.now c.args.place) (range_with_len 0 c.loop-port.port)) (target_mux c.args.wiring.now c.args.place c.loop-port.port ∷ [])
    ∙ ap (λ (xs : List PlanNode). c.args.nodes.now.items ++ xs) (sym (map-range_with_len_more (target_mux c.args.wiring.now c.args.place) 0 c.loop-port.port c.loop-port.port (omega arith)))
