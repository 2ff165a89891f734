-- What is left is pairs exactly where the whole word is, and is still to be added.
use Rattle.std.proofs.Common.{◌≡◌, ◌++◌, length}
use Rattle.plan_traffic.specs.Data.{are_pairs, word_bytes}
use Rattle.plan_traffic.proofs.data.take_pairs.Given as goal

abbrev pub invariant-loop-rest : goal.invariant-loop-rest
invariant-loop-rest l =
    (are_pairs l.rest ≡ are_pairs l.word)
    × (l.bytes.items ++ word_bytes l.rest ≡ l.fn.bytes.items ++ word_bytes l.word)

abbrev pub decreases-loop-rest : goal.decreases-loop-rest
decreases-loop-rest l = length l.rest
