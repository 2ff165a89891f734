-- The moves of the transactions so far.
use Rattle.plan_traffic.proofs.BoundLemmas.{AreMoves}
use Rattle.plan_traffic.proofs.bound.all_moves.Given as goal

abbrev pub invariant-loop-item : goal.invariant-loop-item
invariant-loop-item l = AreMoves l.plan l.traffic l.item-index l.moves
