use Rattle.error_node.proofs.TableLemmas.{error-is_paced}
use Rattle.error_node.proofs.error_laws.laws_of_rows.Goals as goal

pub returns : goal.returns
returns c = record {
  paced = error-is_paced (Unit {0});
}
