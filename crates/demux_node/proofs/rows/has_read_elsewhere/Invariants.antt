use Rattle.std.specs.Prelude.{◌≡◌, false, take}
use Rattle.std.specs.List.{list_any}
use Rattle.demux_node.specs.DemuxTable.{is_elsewhere}
use Rattle.demux_node.proofs.rows.has_read_elsewhere.Given as goal

abbrev pub invariant-loop-place : goal.invariant-loop-place
invariant-loop-place l = list_any (is_elsewhere l.id l.port) (take l.place l.reads) ≡ false
