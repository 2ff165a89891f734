use Rattle.std.proofs.Common.{◌≡◌, map, take}
use Rattle.plan_traffic.specs.Due.{target_number}
use Rattle.net_build.proofs.targets.targets_of.Given as goal

abbrev pub invariant-loop-place : goal.invariant-loop-place
invariant-loop-place l = l.targets.items ≡ map (target_number l.plan) (take l.place l.traffic)
