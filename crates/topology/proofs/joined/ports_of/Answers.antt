use Rattle.std.proofs.Common.{◌∙◌}
use Rattle.topology.proofs.JoinedLemmas.{ports-next}
use Rattle.topology.proofs.joined.ports_of.Goals as goal

pub loop-region-preserved : goal.loop-region-preserved
loop-region-preserved c = c.in_ok-add_port.ensures ∙ ports-next c.args.regions.now c.loop-region.region-index _ c.loop-region.ports.keys c.loop-region-test.true c.loop-region.invariant
