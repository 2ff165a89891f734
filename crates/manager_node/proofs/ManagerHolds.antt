-- A manager shows what every kind has to show.
use Rattle.manager_node.proofs.IdleLemmas.{manager-holds_nothing}
use Rattle.manager_node.proofs.KindLemmas.{manager-answers_above, manager-asks_below, manager-fills_nothing, manager-kind_lasts, manager-kind_opens, manager-may_decide}
use Rattle.manager_node.proofs.TableLemmas.{manager-always_fits, manager-is_steady, manager-kind_begins, manager-kind_stays, manager-moves_own, manager-rests}
use Rattle.manager_node.proofs.WayLemmas.{manager-cuts_fit, manager-goes_below, manager-has_way, manager-origins_fit, manager-ways_suit}
use Rattle.manager_node.specs.ManagerTrail.{manager_kind}
use Rattle.node_shape.specs.KindHolds.{KindHolds}

pub manager-holds : (E : Type 0) → KindHolds (manager_kind {E = E})
manager-holds E = record {
  fit = manager-always_fits E;
  own = manager-moves_own E;
  steady = manager-is_steady E;
  begins = manager-kind_begins E;
  stays = manager-kind_stays E;
  rests = manager-rests E;
  has_way = manager-has_way E;
  goes_below = manager-goes_below E;
  origins_fit = manager-origins_fit E;
  cuts_fit = manager-cuts_fit E;
  ways_suit = manager-ways_suit E;
  opens = manager-kind_opens E;
  may_decide = manager-may_decide E;
  lasts = manager-kind_lasts E;
  asks_below = manager-asks_below E;
  answers_above = manager-answers_above E;
  fills_at_ends = manager-fills_nothing E;
  idle_holds_nothing = manager-holds_nothing E;
}
