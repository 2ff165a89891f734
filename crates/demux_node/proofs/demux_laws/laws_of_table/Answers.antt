use Rattle.demux_node.proofs.TableLemmas.{demux-always_fits, demux-begins, demux-is_steady, demux-moves_own, demux-rests, demux-stays}
use Rattle.demux_node.proofs.demux_laws.laws_of_table.Goals as goal

pub returns : goal.returns
returns c = record {
  fit = demux-always_fits (Unit {0});
  own = demux-moves_own (Unit {0});
  steady = demux-is_steady (Unit {0});
  begins = demux-begins (Unit {0});
  stays = demux-stays (Unit {0});
  rests = demux-rests (Unit {0});
}
