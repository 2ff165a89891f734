-- A slice shows what every kind has to show.
use Rattle.node_shape.specs.KindHolds.{KindHolds}
use Rattle.slice_node.proofs.IdleLemmas.{slice-holds_nothing}
use Rattle.slice_node.proofs.TableLemmas.{slice-begins, slice-always_fits, slice-is_steady, slice-moves_own, slice-rests, slice-stays}
use Rattle.slice_node.proofs.TrailLemmas.{slice-answers, slice-asks, slice-fills_nothing, slice-lasts, slice-may_decide, slice-opens}
use Rattle.slice_node.proofs.WayLemmas.{slice-cuts_fit, slice-goes_below, slice-has_way, slice-origins_fit, slice-ways_suit}
use Rattle.slice_node.specs.SliceTrail.{slice_kind}

pub slice-holds : (E : Type 0) → KindHolds (slice_kind {E = E})
slice-holds E = record {
  fit = slice-always_fits E;
  own = slice-moves_own E;
  steady = slice-is_steady E;
  begins = slice-begins E;
  stays = slice-stays E;
  rests = slice-rests E;
  has_way = slice-has_way E;
  goes_below = slice-goes_below E;
  origins_fit = slice-origins_fit E;
  cuts_fit = slice-cuts_fit E;
  ways_suit = slice-ways_suit E;
  opens = slice-opens E;
  may_decide = slice-may_decide E;
  lasts = slice-lasts E;
  asks_below = slice-asks E;
  answers_above = slice-answers E;
  fills_at_ends = slice-fills_nothing E;
  idle_holds_nothing = slice-holds_nothing E;
}
