use Rattle.split_node.proofs.TableLemmas.{split-begins, split-always_fits, split-is_steady, split-moves_own, split-rests, split-stays}
use Rattle.split_node.proofs.split_laws.laws_of_table.Goals as goal

pub returns : goal.returns
returns c = record { fit = split-always_fits (Unit {0}); own = split-moves_own (Unit {0}); steady = split-is_steady (Unit {0}); begins = split-begins (Unit {0}); stays = split-stays (Unit {0}); rests = split-rests (Unit {0}) }
