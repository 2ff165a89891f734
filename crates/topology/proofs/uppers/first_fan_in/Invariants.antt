use Rattle.std.proofs.Common.{◌≡◌, ◌-◌, length}
use Rattle.std.specs.Prelude.{find}
use Rattle.std.specs.List.{range_with_len}
use Rattle.topology.specs.Read.{first_with}
use Rattle.topology.specs.Refused.{has_fan_in}
use Rattle.topology.proofs.uppers.first_fan_in.Given as goal

abbrev pub invariant-loop-place : goal.invariant-loop-place
invariant-loop-place l = find (has_fan_in l.nodes) (range_with_len l.place (length l.nodes - l.place)) ≡ first_with has_fan_in l.nodes
