use Rattle.manager_node.proofs.StateLemmas.{manager-done}
use Rattle.manager_node.proofs.OrderLaws.{notes-stay}
use Rattle.manager_node.proofs.manager_laws.laws_of_notes.Goals as goal

pub returns : goal.returns
returns c = record { stay = notes-stay; done = manager-done }
