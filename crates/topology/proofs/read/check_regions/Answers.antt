use Rattle.std.proofs.Common.{◌≡◌, ◌∙◌, drop, sym}
use Rattle.refusals.specs.declared.cause.Cause.TheVariants.{BadRegion, Overlap}
use Rattle.topology.specs.Refused.{checks, fault_of, first_cause, has_bad_region, regions_overlap}
use Rattle.topology.proofs.PastLemmas.{past-next, refused-here}
use Rattle.topology.proofs.read.check_regions.Goals as goal

pub returns-in-Some-clause-fault : goal.returns-in-Some-clause-fault
returns-in-Some-clause-fault c =
    refused-here c.args.nodes.now BadRegion has_bad_region (drop 6 checks) c.in-Some.place c.refused.result c.requires.few c.requires.past (sym c.first_bad_region.ensures ∙ c.in-Some.is) c.refused.ensures

pub returns-in-Ok-Some-clause-fault : goal.returns-in-Ok-Some-clause-fault
returns-in-Ok-Some-clause-fault c =
    let good : fault_of c.args.nodes.now ≡ first_cause c.args.nodes.now (drop 6 checks) = past-next c.args.nodes.now BadRegion has_bad_region (drop 6 checks) c.requires.past (sym c.first_bad_region.ensures ∙ c.in_default.is) in
    refused-here c.args.nodes.now Overlap regions_overlap (drop 7 checks) c.in-Ok-Some.place c.refused-in-Ok-Some.result c.requires.few good (sym c.in-Ok-Some.ensures ∙ c.in-Ok-Some.field-0-is) c.refused-in-Ok-Some.ensures
