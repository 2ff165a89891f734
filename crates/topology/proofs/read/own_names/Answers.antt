use Rattle.std.proofs.Common.{◌≡◌, Some, drop, length, refl, rules}
use Rattle.std.specs.Prelude.{find}
use Rattle.node_graph.specs.Graph.{numbers}
use Rattle.refusals.specs.declared.cause.Cause.TheVariants.{DuplicateName}
use Rattle.topology.specs.Refused.{checks, fault_of, first_cause, is_duplicate}
use Rattle.topology.proofs.PastLemmas.{refused-here}
use Rattle.topology.proofs.read.own_names.Goals as goal

pub returns-in-Ok-Err-clause-fault : goal.returns-in-Ok-Err-clause-fault
returns-in-Ok-Err-clause-fault c =
    let found : find (is_duplicate c.args.nodes.now) (numbers (length c.args.nodes.now)) ≡ Some c.in-Ok-Err.place = search rules in
    let first : fault_of c.args.nodes.now ≡ first_cause c.args.nodes.now (drop 0 checks) = refl in
    refused-here c.args.nodes.now DuplicateName is_duplicate (drop 1 checks) c.in-Ok-Err.place c.refused.result c.requires.few first found c.refused.ensures
