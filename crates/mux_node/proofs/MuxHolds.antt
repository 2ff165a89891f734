-- A mux shows what every kind has to show.
use Rattle.mux_node.proofs.IdleLemmas.{mux-holds_nothing}
use Rattle.mux_node.proofs.TableLemmas.{mux-always_fits, mux-begins, mux-is_steady, mux-moves_own, mux-rests, mux-stays}
use Rattle.mux_node.proofs.TrailLemmas.{mux-answers, mux-asks, mux-fills_nothing, mux-lasts, mux-may_decide, mux-opens}
use Rattle.mux_node.proofs.WayLemmas.{mux-cuts_fit, mux-goes_below, mux-has_way, mux-origins_fit, mux-ways_suit}
use Rattle.mux_node.specs.MuxTrail.{mux_kind}
use Rattle.node_shape.specs.KindHolds.{KindHolds}

pub mux-holds : (E : Type 0) → KindHolds (mux_kind {E = E})
mux-holds E = record {
  fit = mux-always_fits E;
  own = mux-moves_own E;
  steady = mux-is_steady E;
  begins = mux-begins E;
  stays = mux-stays E;
  rests = mux-rests E;
  has_way = mux-has_way E;
  goes_below = mux-goes_below E;
  origins_fit = mux-origins_fit E;
  cuts_fit = mux-cuts_fit E;
  ways_suit = mux-ways_suit E;
  opens = mux-opens E;
  may_decide = mux-may_decide E;
  lasts = mux-lasts E;
  asks_below = mux-asks E;
  answers_above = mux-answers E;
  fills_at_ends = mux-fills_nothing E;
  idle_holds_nothing = mux-holds_nothing E;
}
