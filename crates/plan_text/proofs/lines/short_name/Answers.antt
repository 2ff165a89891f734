use Rattle.std.proofs.Common.{ap, arith, length, subst}
use Rattle.plan_text.proofs.NameLemmas.{plan_node-name-short}
use Rattle.topology.specs.Refused.{IsAccepted}
use Rattle.topology_text.specs.Formed.{AreFormed}
use Rattle.plan_text.proofs.lines.short_name.Goals as goal

pub returns-clause-short : goal.returns-clause-short
returns-clause-short c =
    let formed = subst AreFormed c.wiring.ensures c.count.ensures.formed in
    let accepted = subst IsAccepted c.wiring.ensures c.count.ensures.accepted in
    omega (arith, plan_node-name-short c.args.plan.now c.args.node formed accepted c.requires, ap length c.name.ensures)
