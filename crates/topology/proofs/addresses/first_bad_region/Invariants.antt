use Rattle.std.proofs.Common.{◌≡◌, ◌-◌, length}
use Rattle.std.specs.Prelude.{find}
use Rattle.std.specs.List.{range_with_len}
use Rattle.topology.specs.Read.{first_with}
use Rattle.topology.specs.Refused.{has_bad_region}
use Rattle.topology.proofs.addresses.first_bad_region.Given as goal

abbrev pub invariant-loop-place : goal.invariant-loop-place
invariant-loop-place l = find (has_bad_region l.nodes) (range_with_len l.place (length l.nodes - l.place)) ≡ first_with has_bad_region l.nodes
