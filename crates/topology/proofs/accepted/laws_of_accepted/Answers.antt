use Rattle.topology.proofs.AcceptedFacts.{accepted-is_acyclic, accepted-is_clean, links-are_handed_down}
use Rattle.topology.proofs.LinkWidths.{accepted-are_narrow}
use Rattle.topology.proofs.accepted.laws_of_accepted.Goals as goal

pub returns-clause-clean : goal.returns-clause-clean
returns-clause-clean c = accepted-is_clean

pub returns-clause-acyclic : goal.returns-clause-acyclic
returns-clause-acyclic c = accepted-is_acyclic

pub returns-clause-links : goal.returns-clause-links
returns-clause-links c = links-are_handed_down

pub returns-clause-narrow : goal.returns-clause-narrow
returns-clause-narrow c = accepted-are_narrow
