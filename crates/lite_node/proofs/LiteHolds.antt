-- A Lite bridge shows what every kind has to show.
use Rattle.node_shape.specs.KindHolds.{KindHolds}
use Rattle.lite_node.proofs.IdleLemmas.{lite-holds_nothing}
use Rattle.lite_node.proofs.TableLemmas.{lite-begins, lite-always_fits, lite-is_steady, lite-moves_own, lite-rests, lite-stays}
use Rattle.lite_node.proofs.AnswerLemmas.{lite-answers}
use Rattle.lite_node.proofs.TrailLemmas.{lite-asks, lite-fills_nothing, lite-lasts, lite-may_decide, lite-opens}
use Rattle.lite_node.proofs.WayLemmas.{lite-cuts_fit, lite-goes_below, lite-has_way, lite-origins_fit, lite-ways_suit}
use Rattle.lite_node.specs.LiteTrail.{lite_kind}

pub lite-holds : (E : Type 0) → KindHolds (lite_kind {E = E})
lite-holds E = record {
  fit = lite-always_fits E;
  own = lite-moves_own E;
  steady = lite-is_steady E;
  begins = lite-begins E;
  stays = lite-stays E;
  rests = lite-rests E;
  has_way = lite-has_way E;
  goes_below = lite-goes_below E;
  origins_fit = lite-origins_fit E;
  cuts_fit = lite-cuts_fit E;
  ways_suit = lite-ways_suit E;
  opens = lite-opens E;
  may_decide = lite-may_decide E;
  lasts = lite-lasts E;
  asks_below = lite-asks E;
  answers_above = lite-answers E;
  fills_at_ends = lite-fills_nothing E;
  idle_holds_nothing = lite-holds_nothing E;
}
