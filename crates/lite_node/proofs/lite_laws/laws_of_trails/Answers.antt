use Rattle.lite_node.proofs.IdleLemmas.{lite-holds_nothing}
use Rattle.lite_node.proofs.AnswerLemmas.{lite-answers}
use Rattle.lite_node.proofs.TrailLemmas.{lite-asks, lite-fills_nothing, lite-lasts, lite-may_decide, lite-opens}
use Rattle.lite_node.proofs.lite_laws.laws_of_trails.Goals as goal

pub returns : goal.returns
returns c = record {
  opens = lite-opens (Unit {0});
  may_decide = lite-may_decide (Unit {0});
  lasts = lite-lasts (Unit {0});
  asks_below = lite-asks (Unit {0});
  answers_above = lite-answers (Unit {0});
  fills_at_ends = lite-fills_nothing (Unit {0});
  idle_holds_nothing = lite-holds_nothing (Unit {0});
}
