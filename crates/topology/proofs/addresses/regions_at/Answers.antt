use Rattle.std.proofs.Common.{◌∙◌}
use Rattle.topology.proofs.RegionLemmas.{good-known, overlap-known}
use Rattle.topology.proofs.WiringFacts.{regions-at}
use Rattle.topology.proofs.addresses.regions_at.Goals as goal

pub returns-clause-overlap : goal.returns-clause-overlap
returns-clause-overlap c =
    overlap-known c.args.nodes.now c.args.place c.deref.result.now
    (c.deref.ensures.value ∙ regions-at c.args.nodes.now c.args.regions.now c.args.place c.index-regions-place.result c.requires.regions c.requires.inside c.index-regions-place.is)

pub returns-clause-good : goal.returns-clause-good
returns-clause-good c =
    good-known c.args.nodes.now c.args.place c.deref.result.now c.requires.inside c.requires.good
    (c.deref.ensures.value ∙ regions-at c.args.nodes.now c.args.regions.now c.args.place c.index-regions-place.result c.requires.regions c.requires.inside c.index-regions-place.is)
