use Rattle.std.proofs.Common.{rules}
use Rattle.topology.proofs.LinkLemmas.{protocol-known}
use Rattle.topology.proofs.fits.has_lite_mismatch.Goals as goal

pub returns : goal.returns
returns c =
    protocol-known c.args.nodes.now c.args.graph.now c.args.links.now c.args.place c.above.result.now c.requires.links c.requires.joined c.above.ensures.nodes c.kind.result c.protocol_differs.result (search rules) c.protocol_differs.ensures
