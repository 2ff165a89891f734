use Rattle.lite_memory_node.proofs.TableLemmas.{lite_memory-is_paced}
use Rattle.lite_memory_node.proofs.lite_memory_laws.laws_of_rows.Goals as goal

pub returns : goal.returns
returns c = record { paced = lite_memory-is_paced }
