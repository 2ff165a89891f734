use Rattle.std.proofs.Common.{◌≡◌, ◌≤◌, ◌==◌, ◌-◌}
use Rattle.std.specs.Int.{bit_at}
use Rattle.std.specs.List.{find, range_with_len}
use Rattle.node_core.proofs.turn.first_of.Given as goal

abbrev pub invariant-loop-port : goal.invariant-loop-port
invariant-loop-port l =
    (l.port ≤ l.end) × (find (λ port. bit_at l.ready port == 1) (range_with_len l.start (l.end - l.start)) ≡ find (λ port. bit_at l.ready port == 1) (range_with_len l.port (l.end - l.port)))
