use Rattle.memory_node.proofs.TableLemmas.{memory-is_paced}
use Rattle.memory_node.proofs.memory_laws.laws_of_rows.Goals as goal

pub returns : goal.returns
returns c = record { paced = memory-is_paced }
