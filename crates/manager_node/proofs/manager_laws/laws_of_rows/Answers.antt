use Rattle.manager_node.proofs.TableLemmas.{manager-is_paced}
use Rattle.manager_node.proofs.manager_laws.laws_of_rows.Goals as goal

pub returns : goal.returns
returns c = manager-is_paced (Unit {0})
