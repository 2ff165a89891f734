use Rattle.std.proofs.Common.{◌≡◌, map, take}
use Rattle.manager_node.specs.Answer.{awaited_of}
use Rattle.manager_node.specs.ManagerState.{due_bytes, due_resps}
use Rattle.manager_node.proofs.answers.Answers.new.Given as goal

abbrev pub invariant-loop-n : goal.invariant-loop-n
invariant-loop-n l = l.items.items ≡ map (λ item. awaited_of (due_resps item.txn) (due_bytes item.txn)) (take l.n l.script)
