-- What was found, and what the lines that are left will give.
use Rattle.std.proofs.Common.{◌≡◌, ◌+◌, ◌≤◌, length}
use Rattle.plain_text.specs.Lines.{lines}
use Rattle.plan_traffic.specs.LineRefusals.{lesser_of, least_refusal}
use Rattle.plan_traffic.proofs.refusal.least_refusal.Given as goal

abbrev pub invariant-loop-rest : goal.invariant-loop-rest
invariant-loop-rest l =
    (lesser_of l.found (least_refusal l.nodes l.number (lines l.rest)) ≡ least_refusal l.nodes 1 (lines l.text)) × (l.number + length l.rest ≤ length l.text + 1)

abbrev pub decreases-loop-rest : goal.decreases-loop-rest
decreases-loop-rest l = length l.rest
