use Rattle.std.specs.Prelude.{◌≡◌, ◌-◌, find}
use Rattle.std.specs.List.{range_with_len}
use Rattle.remap_node.specs.RemapTable.{is_free, least_free}
use Rattle.remap_node.proofs.rows.least_free.Given as goal

-- the IDs so far aren't free
abbrev pub invariant-loop-id : goal.invariant-loop-id
invariant-loop-id l = least_free l.pairs l.ids ≡ find (is_free l.pairs) (range_with_len l.id (l.ids - l.id))
