use Rattle.std.proofs.Common.{◌≡◌, take}
use Rattle.net_build.specs.Source.{lines_written}
use Rattle.net_build.proofs.lines.lines_touched.Given as goal

abbrev pub invariant-loop-place : goal.invariant-loop-place
invariant-loop-place l = l.lines.items ≡ lines_written l.source.plan.now l.node (take l.place l.source.traffic.now)
