use Rattle.std.proofs.Common.{◌≡◌, ◌-◌, length}
use Rattle.std.specs.Prelude.{find}
use Rattle.std.specs.List.{range_with_len}
use Rattle.topology.specs.Read.{first_with}
use Rattle.topology.specs.Refused.{regions_overlap}
use Rattle.topology.proofs.addresses.first_overlap.Given as goal

abbrev pub invariant-loop-place : goal.invariant-loop-place
invariant-loop-place l = find (regions_overlap l.nodes) (range_with_len l.place (length l.nodes - l.place)) ≡ first_with regions_overlap l.nodes
