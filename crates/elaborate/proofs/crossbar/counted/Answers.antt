use Rattle.std.proofs.Common.{◌+◌, ◌++◌, ◌∷◌, [], ℕ, List, ◌∙◌, ap, arith, sym}
use Rattle.std.proofs.lemmas.List.FromFn.{map-range_with_len_more}
use Rattle.node_graph.specs.Graph.{numbers}
use Rattle.elaborate.proofs.crossbar.counted.Goals as goal

pub loop-number-preserved : goal.loop-number-preserved
loop-number-preserved c =
    c.in_ok-push.ensures.items
    ∙ ap (λ (xs : List ℕ). xs ++ (c.args.from + c.loop-number.number) ∷ []) c.loop-number.invariant
    ∙ sym (map-range_with_len_more (λ j. c.args.from + j) 0 c.loop-number.number c.loop-number.number (omega arith))
