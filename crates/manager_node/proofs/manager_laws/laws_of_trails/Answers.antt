use Rattle.manager_node.proofs.IdleLemmas.{manager-holds_nothing}
use Rattle.manager_node.proofs.KindLemmas.{manager-answers_above, manager-asks_below, manager-fills_nothing, manager-kind_lasts, manager-kind_opens, manager-may_decide}
use Rattle.manager_node.proofs.manager_laws.laws_of_trails.Goals as goal

pub returns : goal.returns
returns c = record {
  opens = manager-kind_opens (Unit {0});
  may_decide = manager-may_decide (Unit {0});
  lasts = manager-kind_lasts (Unit {0});
  asks_below = manager-asks_below (Unit {0});
  answers_above = manager-answers_above (Unit {0});
  fills_at_ends = manager-fills_nothing (Unit {0});
  idle_holds_nothing = manager-holds_nothing (Unit {0});
}
