use Rattle.std.proofs.Common.{◌<◌, ℕ}
use Rattle.address_map.specs.Regions.{IsOverlap}
use Rattle.address_map.proofs.overlap.least_overlap.Given as goal

abbrev pub invariant-loop-first : goal.invariant-loop-first
invariant-loop-first l = (one other : ℕ) → one < l.first → IsOverlap l.regions one other → ⊥
