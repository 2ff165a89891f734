use Rattle.std.proofs.Common.{◌∙◌, sym}
use Rattle.demux_node.specs.DemuxTable.{is_elsewhere}
use Rattle.demux_node.proofs.MoveLemmas.{any_here, any_past}
use Rattle.demux_node.proofs.rows.has_read_elsewhere.Goals as goal

pub returns-then-is_elsewhere : goal.returns-then-is_elsewhere
returns-then-is_elsewhere c =
    sym (any_here (is_elsewhere c.args.id c.args.port) c.args.reads.now c.loop-place.place c.get.result.now c.get.ensures (sym c.is_elsewhere.ensures ∙ c.if-is_elsewhere.true))

pub loop-place-preserved : goal.loop-place-preserved
loop-place-preserved c =
    any_past (is_elsewhere c.args.id c.args.port) c.args.reads.now c.loop-place.place c.get.result.now c.get.ensures c.loop-place.invariant (sym c.is_elsewhere.ensures ∙ c.if-is_elsewhere.false)
