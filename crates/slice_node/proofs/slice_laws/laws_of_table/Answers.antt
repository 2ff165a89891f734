use Rattle.slice_node.proofs.TableLemmas.{slice-begins, slice-always_fits, slice-is_steady, slice-moves_own, slice-rests, slice-stays}
use Rattle.slice_node.proofs.slice_laws.laws_of_table.Goals as goal

pub returns : goal.returns
returns c = record { fit = slice-always_fits (Unit {0}); own = slice-moves_own (Unit {0}); steady = slice-is_steady (Unit {0}); begins = slice-begins (Unit {0}); stays = slice-stays (Unit {0}); rests = slice-rests (Unit {0}) }
