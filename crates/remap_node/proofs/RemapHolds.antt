-- A remapper shows what every kind has to show.
use Rattle.node_shape.specs.KindHolds.{KindHolds}
use Rattle.remap_node.proofs.IdleLemmas.{remap-holds_nothing}
use Rattle.remap_node.proofs.TableLemmas.{remap-begins, remap-always_fits, remap-is_steady, remap-moves_own, remap-rests, remap-stays}
use Rattle.remap_node.proofs.TrailLemmas.{remap-answers, remap-asks, remap-fills_nothing, remap-lasts, remap-may_decide, remap-opens}
use Rattle.remap_node.proofs.WayLemmas.{remap-cuts_fit, remap-goes_below, remap-has_way, remap-origins_fit, remap-ways_suit}
use Rattle.remap_node.specs.RemapTrail.{remap_kind}

pub remap-holds : (E : Type 0) → KindHolds (remap_kind {E = E})
remap-holds E = record {
  fit = remap-always_fits E;
  own = remap-moves_own E;
  steady = remap-is_steady E;
  begins = remap-begins E;
  stays = remap-stays E;
  rests = remap-rests E;
  has_way = remap-has_way E;
  goes_below = remap-goes_below E;
  origins_fit = remap-origins_fit E;
  cuts_fit = remap-cuts_fit E;
  ways_suit = remap-ways_suit E;
  opens = remap-opens E;
  may_decide = remap-may_decide E;
  lasts = remap-lasts E;
  asks_below = remap-asks E;
  answers_above = remap-answers E;
  fills_at_ends = remap-fills_nothing E;
  idle_holds_nothing = remap-holds_nothing E;
}
