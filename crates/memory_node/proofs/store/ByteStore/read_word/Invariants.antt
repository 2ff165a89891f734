use Rattle.std.specs.Prelude.{◌≡◌}
use Rattle.memory_node.specs.Store.{lanes_between}
use Rattle.memory_node.proofs.store.ByteStore.read_word.Given as goal

abbrev pub invariant-loop-lane : goal.invariant-loop-lane
invariant-loop-lane l = l.lanes ≡ lanes_between l.self l.word l.low l.lane
