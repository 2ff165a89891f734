use Rattle.remap_node.proofs.TableLemmas.{remap-begins, remap-always_fits, remap-is_steady, remap-moves_own, remap-rests, remap-stays}
use Rattle.remap_node.proofs.remap_laws.laws_of_table.Goals as goal

pub returns : goal.returns
returns c = record { fit = remap-always_fits (Unit {0}); own = remap-moves_own (Unit {0}); steady = remap-is_steady (Unit {0}); begins = remap-begins (Unit {0}); stays = remap-stays (Unit {0}); rests = remap-rests (Unit {0}) }
