use Rattle.topology.proofs.LinkLemmas.{width-known}
use Rattle.topology.proofs.fits.has_width_mismatch.Goals as goal

pub returns : goal.returns
returns c =
    width-known c.args.nodes.now c.args.graph.now c.args.links.now c.args.place c.above.result.now c.requires.links c.requires.joined c.above.ensures.nodes c.node_at.result.now c.bus_differs.result c.node_at.ensures c.bus_differs.ensures
