use Rattle.std.specs.Prelude.{◌≡◌, None, take}
use Rattle.demux_node.specs.DemuxTable.{open_place}
use Rattle.demux_node.proofs.rows.oldest_open.Given as goal

abbrev pub invariant-loop-place : goal.invariant-loop-place
invariant-loop-place l = open_place (take l.place l.writes) ≡ None
