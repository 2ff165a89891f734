use Rattle.lite_memory_node.proofs.TableLemmas.{lite_memory-always_fits, lite_memory-begins, lite_memory-is_steady, lite_memory-moves_own, lite_memory-rests, lite_memory-stays_memory}
use Rattle.lite_memory_node.proofs.lite_memory_laws.laws_of_table.Goals as goal

pub returns : goal.returns
returns c = record { fit = lite_memory-always_fits; own = lite_memory-moves_own; steady = lite_memory-is_steady; begins = lite_memory-begins; stays = lite_memory-stays_memory; rests = lite_memory-rests }
