use Rattle.error_node.proofs.TableLemmas.{error-always_fits, error-begins, error-is_steady, error-moves_own, error-rests, error-stays_error}
use Rattle.error_node.proofs.error_laws.laws_of_table.Goals as goal

pub returns : goal.returns
returns c = record {
  fit = error-always_fits (Unit {0});
  own = error-moves_own (Unit {0});
  steady = error-is_steady (Unit {0});
  begins = error-begins (Unit {0});
  stays = error-stays_error (Unit {0});
  rests = error-rests (Unit {0});
}
