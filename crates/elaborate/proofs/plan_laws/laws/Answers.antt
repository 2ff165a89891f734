use Rattle.elaborate.proofs.Once.{none-is_twice_below}
use Rattle.elaborate.proofs.PlanFacts.{lowers-are_nodes, one-is_above, plan-is_acyclic}
use Rattle.elaborate.proofs.Uppers.{none-is_above, some-is_above}
use Rattle.elaborate.proofs.plan_laws.laws.Goals as goal

pub returns-clause-acyclic : goal.returns-clause-acyclic
returns-clause-acyclic c = plan-is_acyclic

pub returns-clause-nodes : goal.returns-clause-nodes
returns-clause-nodes c = lowers-are_nodes

pub returns-clause-one : goal.returns-clause-one
returns-clause-one c = one-is_above

pub returns-clause-some : goal.returns-clause-some
returns-clause-some c = some-is_above

pub returns-clause-none : goal.returns-clause-none
returns-clause-none c = none-is_above

pub returns-clause-twice : goal.returns-clause-twice
returns-clause-twice c = none-is_twice_below
