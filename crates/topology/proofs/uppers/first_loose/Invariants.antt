use Rattle.std.proofs.Common.{◌≡◌, ◌-◌, length}
use Rattle.std.specs.Prelude.{find}
use Rattle.std.specs.List.{range_with_len}
use Rattle.topology.specs.Read.{first_with}
use Rattle.topology.specs.Refused.{is_loose}
use Rattle.topology.proofs.uppers.first_loose.Given as goal

abbrev pub invariant-loop-place : goal.invariant-loop-place
invariant-loop-place l = find (is_loose l.nodes) (range_with_len l.place (length l.nodes - l.place)) ≡ first_with is_loose l.nodes
