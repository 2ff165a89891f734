-- No node so far is a manager of this name.
use Rattle.std.proofs.Common.{◌≡◌, ◌<◌, ◌&&◌, ℕ, false}
use Rattle.std.specs.Prelude.{bytes_eq}
use Rattle.topology.specs.Document.{is_manager, node_at}
use Rattle.plan_traffic.proofs.managers.manager_called.Given as goal

abbrev pub invariant-loop-number : goal.invariant-loop-number
invariant-loop-number l = (place : ℕ) → place < l.number → (is_manager (node_at l.nodes place).kind && bytes_eq (node_at l.nodes place).name l.name) ≡ false
