use Rattle.std.proofs.Common.{◌∙◌, sym, ap, add-one, take}
use Rattle.demux_node.specs.DemuxTable.{open_place}
use Rattle.demux_node.proofs.MoveLemmas.{open_found, open_past}
use Rattle.demux_node.proofs.rows.oldest_open.Goals as goal

pub returns-then-is_open-clause-place : goal.returns-then-is_open-clause-place
returns-then-is_open-clause-place c =
    sym (open_found c.args.writes.now c.loop-place.place c.get.result.now c.get.ensures (sym c.is_open.ensures ∙ c.if-is_open.true) c.loop-place.invariant)

pub loop-place-preserved : goal.loop-place-preserved
loop-place-preserved c =
    ap (λ n. open_place (take n c.args.writes.now)) (add-one c.loop-place.place)
    ∙ open_past c.args.writes.now c.loop-place.place c.get.result.now c.get.ensures (sym c.is_open.ensures ∙ c.if-is_open.false) c.loop-place.invariant
