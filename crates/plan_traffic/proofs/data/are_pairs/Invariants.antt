-- What is left is pairs exactly where the whole word is.
use Rattle.std.proofs.Common.{◌≡◌, length}
use Rattle.plan_traffic.specs.Data.{are_pairs}
use Rattle.plan_traffic.proofs.data.are_pairs.Given as goal

abbrev pub invariant-loop-rest : goal.invariant-loop-rest
invariant-loop-rest l = are_pairs l.rest ≡ are_pairs l.word

abbrev pub decreases-loop-rest : goal.decreases-loop-rest
decreases-loop-rest l = length l.rest
