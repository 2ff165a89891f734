use Rattle.lite_node.proofs.TableLemmas.{lite-begins, lite-always_fits, lite-is_steady, lite-moves_own, lite-rests, lite-stays}
use Rattle.lite_node.proofs.lite_laws.laws_of_table.Goals as goal

pub returns : goal.returns
returns c = record { fit = lite-always_fits (Unit {0}); own = lite-moves_own (Unit {0}); steady = lite-is_steady (Unit {0}); begins = lite-begins (Unit {0}); stays = lite-stays (Unit {0}); rests = lite-rests (Unit {0}) }
