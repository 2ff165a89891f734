use Rattle.memory_node.proofs.TableLemmas.{memory-always_fits, memory-begins, memory-is_steady, memory-moves_own, memory-rests, memory-stays_memory}
use Rattle.memory_node.proofs.memory_laws.laws_of_table.Goals as goal

pub returns : goal.returns
returns c = record { fit = memory-always_fits; own = memory-moves_own; steady = memory-is_steady; begins = memory-begins; stays = memory-stays_memory; rests = memory-rests }
