-- A splitter shows what every kind has to show.
use Rattle.node_shape.specs.KindHolds.{KindHolds}
use Rattle.split_node.proofs.IdleLemmas.{split-holds_nothing}
use Rattle.split_node.proofs.TableLemmas.{split-always_fits, split-begins, split-is_steady, split-moves_own, split-rests, split-stays}
use Rattle.split_node.proofs.TrailLemmas.{split-answers_above, split-asks_below, split-fills_nothing, split-lasts, split-may_decide, split-opens_kind}
use Rattle.split_node.proofs.WayLemmas.{split-cuts_fit, split-goes_below, split-has_way, split-origins_fit, split-ways_suit}
use Rattle.split_node.specs.SplitTrail.{split_kind}

pub split-holds : (E : Type 0) → KindHolds (split_kind {E = E})
split-holds E = record {
  fit = split-always_fits E;
  own = split-moves_own E;
  steady = split-is_steady E;
  begins = split-begins E;
  stays = split-stays E;
  rests = split-rests E;
  has_way = split-has_way E;
  goes_below = split-goes_below E;
  origins_fit = split-origins_fit E;
  cuts_fit = split-cuts_fit E;
  ways_suit = split-ways_suit E;
  opens = split-opens_kind E;
  may_decide = split-may_decide E;
  lasts = split-lasts E;
  asks_below = split-asks_below E;
  answers_above = split-answers_above E;
  fills_at_ends = split-fills_nothing E;
  idle_holds_nothing = split-holds_nothing E;
}
