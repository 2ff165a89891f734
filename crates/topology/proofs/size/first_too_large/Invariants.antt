use Rattle.std.proofs.Common.{◌≡◌, ◌-◌, length}
use Rattle.std.specs.Prelude.{find}
use Rattle.std.specs.List.{range_with_len}
use Rattle.topology.specs.Read.{first_with}
use Rattle.topology.specs.Refused.{is_too_large}
use Rattle.topology.specs.Sizes.{IsSizeOf}
use Rattle.topology.proofs.size.first_too_large.Given as goal

abbrev pub invariant-loop-place : goal.invariant-loop-place
invariant-loop-place l = (find (is_too_large l.nodes) (range_with_len l.place (length l.nodes - l.place)) ≡ first_with is_too_large l.nodes) × IsSizeOf l.nodes l.place l.size
