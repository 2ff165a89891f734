use Rattle.std.proofs.Common.{◌≡◌, ◌-◌, length}
use Rattle.std.specs.Prelude.{find}
use Rattle.std.specs.List.{range_with_len}
use Rattle.topology.specs.Read.{first_with}
use Rattle.topology.specs.Refused.{has_lite_mismatch}
use Rattle.topology.proofs.fits.first_lite_mismatch.Given as goal

abbrev pub invariant-loop-place : goal.invariant-loop-place
invariant-loop-place l = find (has_lite_mismatch l.nodes) (range_with_len l.place (length l.nodes - l.place)) ≡ first_with has_lite_mismatch l.nodes
