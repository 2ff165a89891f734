-- What was counted, and what is left to be counted.
use Rattle.std.proofs.Common.{◌≡◌, ◌+◌, ◌≤◌, length}
use Rattle.plain_text.specs.Lines.{lines}
use Rattle.plan_traffic.specs.Orders.{issued, orders_of, total_beats}
use Rattle.plan_traffic.proofs.order.is_too_much.Given as goal

abbrev pub invariant-loop-rest : goal.invariant-loop-rest
invariant-loop-rest l =
    (l.bursts + length (issued (orders_of l.nodes (lines l.rest))) ≡ length (issued (orders_of l.nodes (lines l.text))))
    × (l.beats + total_beats (issued (orders_of l.nodes (lines l.rest))) ≡ total_beats (issued (orders_of l.nodes (lines l.text))))
    × (l.bursts ≤ 16384)
    × (l.beats ≤ 262144)

abbrev pub decreases-loop-rest : goal.decreases-loop-rest
decreases-loop-rest l = length l.rest
