use Rattle.up_node.proofs.TableLemmas.{up-begins, up-always_fits, up-is_steady, up-moves_own, up-rests, up-stays}
use Rattle.up_node.proofs.up_laws.laws_of_table.Goals as goal

pub returns : goal.returns
returns c = record { fit = up-always_fits (Unit {0}); own = up-moves_own (Unit {0}); steady = up-is_steady (Unit {0}); begins = up-begins (Unit {0}); stays = up-stays (Unit {0}); rests = up-rests (Unit {0}) }
