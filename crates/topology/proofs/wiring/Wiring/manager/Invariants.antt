use Rattle.std.proofs.Common.{◌≡◌, ◌<◌, ◌&&◌, ℕ, false}
use Rattle.std.specs.Prelude.{bytes_eq}
use Rattle.topology.specs.Document.{is_manager, node_at}
use Rattle.topology.proofs.wiring.Wiring.manager.Given as goal

abbrev pub invariant-loop-node : goal.invariant-loop-node
invariant-loop-node l = (place : ℕ) → place < l.node → (is_manager (node_at l.self place).kind && bytes_eq (node_at l.self place).name l.name) ≡ false
