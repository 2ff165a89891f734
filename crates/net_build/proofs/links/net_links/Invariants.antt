use Rattle.std.proofs.Common.{◌≡◌, map, take}
use Rattle.elaborate.specs.Plan.{plan_links}
use Rattle.net_opening.specs.PlanLinks.{net_link_of}
use Rattle.net_build.proofs.links.net_links.Given as goal

abbrev pub invariant-loop-number : goal.invariant-loop-number
invariant-loop-number l = l.links.items ≡ map net_link_of (take l.number (plan_links l.plan))
