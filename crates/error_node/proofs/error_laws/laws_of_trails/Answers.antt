use Rattle.error_node.proofs.IdleLemmas.{error-idle_holds_nothing}
use Rattle.error_node.proofs.TrailLemmas.{error-answers_above, error-asks_below, error-fills_at_ends, error-lasts, error-may_decide, error-opens}
use Rattle.error_node.proofs.error_laws.laws_of_trails.Goals as goal

pub returns : goal.returns
returns c = record {
  opens = error-opens (Unit {0});
  may_decide = error-may_decide (Unit {0});
  lasts = error-lasts (Unit {0});
  asks_below = error-asks_below (Unit {0});
  answers_above = error-answers_above (Unit {0});
  fills_at_ends = error-fills_at_ends (Unit {0});
  idle_holds_nothing = error-idle_holds_nothing (Unit {0});
}
