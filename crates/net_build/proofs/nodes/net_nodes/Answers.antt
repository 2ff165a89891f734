use Rattle.std.proofs.Common.{◌++◌, ◌∙◌, ℕ, List, [], ◌∷◌, ap, ap₂, arith, map, sym}
use Rattle.std.proofs.lemmas.List.{map-append}
use Rattle.std.proofs.lemmas.List.FromFn.{map-range_with_len_more}
use Rattle.net_build.proofs.nodes.net_nodes.Goals as goal
use Rattle.net_kinds.specs.NodeKind.{NodeState, node_view}
use Rattle.net_opening.specs.Opening.{state_at}
use Rattle.node_core.specs.Acted.{Acted, opened}

pub node_of-requires-clause-known : goal.node_of-requires-clause-known
node_of-requires-clause-known c = omega (arith, c.loop-number-test.true, c.nodes-number-end.ensures)

pub loop-number-preserved : goal.loop-number-preserved
loop-number-preserved c =
    let begun : ℕ → Acted NodeState = λ number. opened (state_at c.args.source.now.plan.now c.args.source.now.traffic.now number) in
    ap (map node_view) c.in_ok-add_node.ensures ∙ map-append node_view c.loop-number.nodes.items (c.in_ok-node_of.field-0 ∷ [])
    ∙ ap₂ (λ (xs : List (Acted NodeState)) (x : Acted NodeState). xs ++ x ∷ []) c.loop-number.invariant c.in_ok-node_of.ensures
    ∙ sym (map-range_with_len_more begun 0 c.loop-number.number c.loop-number.number (omega arith))
