use Rattle.std.proofs.Common.{◌++◌, ◌∷◌, [], ℕ, List, Bool, cond, ap, sym, ◌∙◌}
use Rattle.manager_node.specs.ManagerState.{is_directed}
use Rattle.manager_node.proofs.DirectionLemmas.{places-more}
use Rattle.manager_node.proofs.direction.Direction.new.Goals as goal

pub loop-n-preserved : goal.loop-n-preserved
loop-n-preserved c =
    c.in_ok-push_where.ensures
    ∙ ap (λ (wanted : Bool). c.loop-n.places.items ++ cond wanted (c.loop-n.n ∷ []) []) c.is_directed.ensures
    ∙ ap (λ (places : List ℕ). places ++ cond (is_directed c.args.write c.txn.result.now) (c.loop-n.n ∷ []) []) c.loop-n.invariant
    ∙ sym (places-more c.args.write c.args.script.now c.loop-n.n c.txn.result.now c.txn.ensures)
