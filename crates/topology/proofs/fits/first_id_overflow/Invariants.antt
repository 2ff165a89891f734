use Rattle.std.proofs.Common.{◌≡◌, ◌-◌, length}
use Rattle.std.specs.Prelude.{find}
use Rattle.std.specs.List.{range_with_len}
use Rattle.topology.specs.Read.{first_with}
use Rattle.topology.specs.Refused.{has_id_overflow}
use Rattle.topology.proofs.fits.first_id_overflow.Given as goal

abbrev pub invariant-loop-place : goal.invariant-loop-place
invariant-loop-place l = find (has_id_overflow l.nodes) (range_with_len l.place (length l.nodes - l.place)) ≡ first_with has_id_overflow l.nodes
