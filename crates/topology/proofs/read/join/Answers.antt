use Rattle.std.proofs.Common.{◌∙◌, drop, rules, subst, sym}
use Rattle.node_graph.specs.Simple.{IsSimple}
use Rattle.refusals.specs.declared.cause.Cause.TheVariants.{UnknownName}
use Rattle.topology.specs.Read.{IsPast}
use Rattle.topology.specs.Refused.{checks, names_unknown}
use Rattle.topology.proofs.JoinedLemmas.{graph-simple}
use Rattle.topology.proofs.PastLemmas.{refused-here}
use Rattle.topology.proofs.read.join.Goals as goal

pub returns-in-Some-clause-fault : goal.returns-in-Some-clause-fault
returns-in-Some-clause-fault c =
    let past : IsPast c.args.nodes.now 1 = search rules in
    refused-here c.args.nodes.now UnknownName names_unknown (drop 2 checks) c.in-Some.place c.refused.result c.requires.few past (sym c.first_unknown.ensures ∙ c.in-Some.is) c.refused.ensures

pub new-requires-clause-simple : goal.new-requires-clause-simple
new-requires-clause-simple c = subst IsSimple (sym c.in-Ok-targets_of_nodes.ensures) (graph-simple c.args.nodes.now)
