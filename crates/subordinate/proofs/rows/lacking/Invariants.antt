use Rattle.std.specs.Prelude.{◌≡◌, None, take}
use Rattle.subordinate.specs.Places.{lacking_place}
use Rattle.subordinate.proofs.rows.lacking.Given as goal

abbrev pub invariant-loop-place : goal.invariant-loop-place
invariant-loop-place l = lacking_place (take l.place l.entries) ≡ None
