use Rattle.std.proofs.Common.{◌≡◌, ◌++◌, drop, map}
use Rattle.elaborate.specs.Plan.{entrance}
use Rattle.elaborate.proofs.entrances.entrances.Given as goal

abbrev pub invariant-loop-target : goal.invariant-loop-target
invariant-loop-target l = l.lower.items ++ map (entrance l.wiring l.place) (drop l.target-index l.targets) ≡ map (entrance l.wiring l.place) l.targets
