-- The widest IDs of the links so far.
use Rattle.std.proofs.Common.{◌≡◌, map, take}
use Rattle.elaborate.specs.Plan.{plan_link_at}
use Rattle.topology.specs.Document.{widest}
use Rattle.net_build.proofs.parts.widest.Given as goal

abbrev pub invariant-loop-link : goal.invariant-loop-link
invariant-loop-link l = l.most ≡ widest (map (λ link. (plan_link_at l.plan link).link) (take l.link-index l.links))
