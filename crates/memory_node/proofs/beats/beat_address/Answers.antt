use Rattle.burst_address.proofs.Legality.{legal-wider}
use Rattle.burst_address.proofs.Widths.{width-bounds}
use Rattle.memory_node.proofs.beats.beat_address.Goals as goal

pub beat_address-requires-clause-legal : goal.beat_address-requires-clause-legal
beat_address-requires-clause-legal c =
    legal-wider c.args.request.now c.args.area.now.bus 128 (width-bounds c.args.area.now.bus c.requires.area.bus).1 c.requires.request.legal
