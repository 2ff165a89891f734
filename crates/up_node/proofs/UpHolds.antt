-- An up converter shows what every kind has to show.
use Rattle.node_shape.specs.KindHolds.{KindHolds}
use Rattle.up_node.proofs.IdleLemmas.{up-holds_nothing}
use Rattle.up_node.proofs.TableLemmas.{up-begins, up-always_fits, up-is_steady, up-moves_own, up-rests, up-stays}
use Rattle.up_node.proofs.TrailLemmas.{up-answers, up-asks, up-fills_nothing, up-lasts, up-may_decide, up-opens}
use Rattle.up_node.proofs.WayLemmas.{up-cuts_fit, up-goes_below, up-has_way, up-origins_fit, up-ways_suit}
use Rattle.up_node.specs.UpTrail.{up_kind}

pub up-holds : (E : Type 0) → KindHolds (up_kind {E = E})
up-holds E = record {
  fit = up-always_fits E;
  own = up-moves_own E;
  steady = up-is_steady E;
  begins = up-begins E;
  stays = up-stays E;
  rests = up-rests E;
  has_way = up-has_way E;
  goes_below = up-goes_below E;
  origins_fit = up-origins_fit E;
  cuts_fit = up-cuts_fit E;
  ways_suit = up-ways_suit E;
  opens = up-opens E;
  may_decide = up-may_decide E;
  lasts = up-lasts E;
  asks_below = up-asks E;
  answers_above = up-answers E;
  fills_at_ends = up-fills_nothing E;
  idle_holds_nothing = up-holds_nothing E;
}
