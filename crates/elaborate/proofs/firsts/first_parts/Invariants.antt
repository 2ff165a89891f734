use Rattle.std.proofs.Common.{◌≡◌, map}
use Rattle.std.specs.List.{range_with_len}
use Rattle.elaborate.specs.Plan.{first_part}
use Rattle.elaborate.proofs.firsts.first_parts.Given as goal

abbrev pub invariant-loop-place : goal.invariant-loop-place
invariant-loop-place l = record {
  all : l.firsts.items ≡ map (first_part l.wiring) (range_with_len 0 l.place);
  next : l.first ≡ first_part l.wiring l.place;
}
