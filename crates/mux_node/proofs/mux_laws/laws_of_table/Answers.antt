use Rattle.mux_node.proofs.TableLemmas.{mux-begins, mux-always_fits, mux-is_steady, mux-moves_own, mux-rests, mux-stays}
use Rattle.mux_node.proofs.mux_laws.laws_of_table.Goals as goal

pub returns : goal.returns
returns c = record { fit = mux-always_fits (Unit {0}); own = mux-moves_own (Unit {0}); steady = mux-is_steady (Unit {0}); begins = mux-begins (Unit {0}); stays = mux-stays (Unit {0}); rests = mux-rests (Unit {0}) }
