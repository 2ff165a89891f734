-- An error subordinate shows all that a kind of node has to show.
use Rattle.error_node.specs.ErrorTrail.{error_kind}
use Rattle.node_shape.specs.KindHolds.{KindHolds}
use Rattle.error_node.proofs.IdleLemmas.{error-idle_holds_nothing}
use Rattle.error_node.proofs.TableLemmas.{error-always_fits, error-begins, error-is_steady, error-moves_own, error-rests, error-stays_error}
use Rattle.error_node.proofs.TrailLemmas.{error-answers_above, error-asks_below, error-fills_at_ends, error-lasts, error-may_decide, error-opens}
use Rattle.error_node.proofs.WayLemmas.{error-cuts_fit, error-goes_below, error-has_way, error-origins_fit, error-ways_suit}

pub error-holds : (E : Type 0) → KindHolds (error_kind {E = E})
error-holds E = record {
  fit = error-always_fits E;
  own = error-moves_own E;
  steady = error-is_steady E;
  begins = error-begins E;
  stays = error-stays_error E;
  rests = error-rests E;
  has_way = error-has_way E;
  goes_below = error-goes_below E;
  origins_fit = error-origins_fit E;
  cuts_fit = error-cuts_fit E;
  ways_suit = error-ways_suit E;
  opens = error-opens E;
  may_decide = error-may_decide E;
  lasts = error-lasts E;
  asks_below = error-asks_below E;
  answers_above = error-answers_above E;
  fills_at_ends = error-fills_at_ends E;
  idle_holds_nothing = error-idle_holds_nothing E;
}
