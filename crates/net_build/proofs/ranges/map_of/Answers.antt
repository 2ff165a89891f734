use Rattle.std.proofs.Common.{◌≡◌, ap, arith, length}
use Rattle.std.proofs.lemmas.List.{length-map}
use Rattle.elaborate.specs.Path.{ported_regions}
use Rattle.net_build.proofs.SourceLemmas.{regions-few}
use Rattle.net_build.proofs.ranges.map_of.Goals as goal
use Rattle.topology.specs.Document.{node_at}

pub new-requires : goal.new-requires
new-requires c =
    let long : length (ported_regions c.args.wiring.now (node_at c.args.wiring.now c.args.document)) ≡ length (node_at c.args.wiring.now c.args.document).region =
    length-map (node_at c.args.wiring.now c.args.document).region _ in
    omega (arith, ap length c.in_ok-regions.ensures, long, regions-few c.args.wiring.now c.args.document c.requires.accepted c.requires.known)
