use Rattle.up_node.proofs.IdleLemmas.{up-holds_nothing}
use Rattle.up_node.proofs.TrailLemmas.{up-answers, up-asks, up-fills_nothing, up-lasts, up-may_decide, up-opens}
use Rattle.up_node.proofs.up_laws.laws_of_trails.Goals as goal

pub returns : goal.returns
returns c = record {
  opens = up-opens (Unit {0});
  may_decide = up-may_decide (Unit {0});
  lasts = up-lasts (Unit {0});
  asks_below = up-asks (Unit {0});
  answers_above = up-answers (Unit {0});
  fills_at_ends = up-fills_nothing (Unit {0});
  idle_holds_nothing = up-holds_nothing (Unit {0});
}
