-- The lines that were read have given what is there.
use Rattle.std.proofs.Common.{length}
use Rattle.plan_traffic.specs.Inside.{traffic_items}
use Rattle.plan_traffic.proofs.ReadLemmas.{IsRead}
use Rattle.plan_traffic.proofs.build.collect_items.Given as goal

abbrev pub invariant-loop-rest : goal.invariant-loop-rest
invariant-loop-rest l = IsRead l.nodes l.text (traffic_items l.items.items) l.counts.items l.beats l.rest

abbrev pub decreases-loop-rest : goal.decreases-loop-rest
decreases-loop-rest l = length l.rest
