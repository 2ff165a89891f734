use Rattle.std.proofs.Common.{◌≡◌, ◌<◌, ℕ, false}
use Rattle.topology.specs.Document.{node_at}
use Rattle.elaborate.specs.Unbuilt.{is_unbuilt}
use Rattle.elaborate.proofs.kinds.unbuilt.Given as goal

abbrev pub invariant-loop-node : goal.invariant-loop-node
invariant-loop-node l = (place : ℕ) → place < l.node → is_unbuilt (node_at l.wiring place).kind ≡ false
