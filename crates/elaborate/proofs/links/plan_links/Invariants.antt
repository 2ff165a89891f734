use Rattle.std.proofs.Common.{◌≡◌, ◌++◌, drop}
use Rattle.elaborate.specs.Plan.{links_from, plan_links}
use Rattle.elaborate.proofs.links.plan_links.Given as goal

abbrev pub invariant-loop-number : goal.invariant-loop-number
invariant-loop-number l = l.links.items ++ links_from l.wiring l.number (drop l.number l.nodes) ≡ plan_links l.wiring
