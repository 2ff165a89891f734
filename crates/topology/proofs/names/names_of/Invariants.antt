use Rattle.std.proofs.Common.{◌≡◌, ◌-◌, length, take}
use Rattle.std.specs.Prelude.{find}
use Rattle.std.specs.List.{range_with_len}
use Rattle.topology.specs.Joined.{node_names, texts}
use Rattle.topology.specs.Read.{first_with}
use Rattle.topology.specs.Refused.{is_duplicate}
use Rattle.topology.proofs.names.names_of.Given as goal

abbrev pub invariant-loop-place : goal.invariant-loop-place
invariant-loop-place l =
    (find (is_duplicate l.nodes) (range_with_len l.place (length l.nodes - l.place)) ≡ first_with is_duplicate l.nodes) × (texts l.names.keys ≡ node_names (take l.place l.nodes))
