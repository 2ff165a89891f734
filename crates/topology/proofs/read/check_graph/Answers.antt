use Rattle.std.proofs.Common.{◌≡◌, ◌∙◌, drop, sym}
use Rattle.refusals.specs.declared.cause.Cause.TheVariants.{FanIn, Loose, Cycle}
use Rattle.topology.specs.Refused.{checks, fault_of, first_cause, has_fan_in, is_cyclic, is_loose}
use Rattle.topology.proofs.PastLemmas.{cyclic-first, none-acyclic, past-next, refused-here}
use Rattle.topology.proofs.read.check_graph.Goals as goal

pub returns-in-Some-clause-fault : goal.returns-in-Some-clause-fault
returns-in-Some-clause-fault c =
    refused-here c.args.nodes.now FanIn has_fan_in (drop 3 checks) c.in-Some.place c.refused.result c.requires.few c.requires.past (sym c.first_fan_in.ensures ∙ c.in-Some.is) c.refused.ensures

pub returns-in-Some-first_loose-clause-fault : goal.returns-in-Some-first_loose-clause-fault
returns-in-Some-first_loose-clause-fault c =
    let few_above : fault_of c.args.nodes.now ≡ first_cause c.args.nodes.now (drop 3 checks) = past-next c.args.nodes.now FanIn has_fan_in (drop 3 checks) c.requires.past (sym c.first_fan_in.ensures ∙ c.in_default.is) in
    refused-here c.args.nodes.now Loose is_loose (drop 4 checks) c.in-Some-first_loose.place c.refused-in-Some-first_loose.result c.requires.few few_above (sym c.first_loose.ensures ∙ c.in-Some-first_loose.is) c.refused-in-Some-first_loose.ensures

pub returns-in-Ok-None-clause-acyclic : goal.returns-in-Ok-None-clause-acyclic
returns-in-Ok-None-clause-acyclic c = none-acyclic c.args.graph.now (sym c.in-Ok-None.ensures ∙ c.in-Ok-None.field-0-is)

pub returns-in-Ok-None-clause-past : goal.returns-in-Ok-None-clause-past
returns-in-Ok-None-clause-past c =
    let few_above : fault_of c.args.nodes.now ≡ first_cause c.args.nodes.now (drop 3 checks) = past-next c.args.nodes.now FanIn has_fan_in (drop 3 checks) c.requires.past (sym c.first_fan_in.ensures ∙ c.in_default.is) in
    let none_loose : fault_of c.args.nodes.now ≡ first_cause c.args.nodes.now (drop 4 checks) = past-next c.args.nodes.now Loose is_loose (drop 4 checks) few_above (sym c.first_loose.ensures ∙ c.in_default-first_loose.is) in
    past-next c.args.nodes.now Cycle is_cyclic (drop 5 checks) none_loose (sym (cyclic-first c.args.nodes.now c.args.graph.now c.requires.joined c.requires.long) ∙ sym c.in-Ok-None.ensures ∙ c.in-Ok-None.field-0-is)

pub returns-in-Ok-Some-clause-fault : goal.returns-in-Ok-Some-clause-fault
returns-in-Ok-Some-clause-fault c =
    let few_above : fault_of c.args.nodes.now ≡ first_cause c.args.nodes.now (drop 3 checks) = past-next c.args.nodes.now FanIn has_fan_in (drop 3 checks) c.requires.past (sym c.first_fan_in.ensures ∙ c.in_default.is) in
    let none_loose : fault_of c.args.nodes.now ≡ first_cause c.args.nodes.now (drop 4 checks) = past-next c.args.nodes.now Loose is_loose (drop 4 checks) few_above (sym c.first_loose.ensures ∙ c.in_default-first_loose.is) in
    refused-here c.args.nodes.now Cycle is_cyclic (drop 5 checks) c.in-Ok-Some.place c.refused-in-Ok-Some.result c.requires.few none_loose
    (sym (cyclic-first c.args.nodes.now c.args.graph.now c.requires.joined c.requires.long) ∙ sym c.in-Ok-Some.ensures ∙ c.in-Ok-Some.field-0-is) c.refused-in-Ok-Some.ensures
