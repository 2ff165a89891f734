use Rattle.std.proofs.Common.{◌≡◌, map, take}
use Rattle.net_opening.specs.States.{memory_range}
use Rattle.net_build.proofs.ranges.memory_ranges.Given as goal

abbrev pub invariant-loop-span : goal.invariant-loop-span
invariant-loop-span l = l.ranges.items ≡ map memory_range (take l.span-index l.spans)
