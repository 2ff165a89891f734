use Rattle.manager_node.proofs.TableLemmas.{manager-always_fits, manager-is_steady, manager-kind_begins, manager-kind_stays, manager-moves_own, manager-rests}
use Rattle.manager_node.proofs.manager_laws.laws_of_table.Goals as goal

pub returns : goal.returns
returns c = record {
  fit = manager-always_fits (Unit {0});
  own = manager-moves_own (Unit {0});
  steady = manager-is_steady (Unit {0});
  begins = manager-kind_begins (Unit {0});
  stays = manager-kind_stays (Unit {0});
  rests = manager-rests (Unit {0});
}
