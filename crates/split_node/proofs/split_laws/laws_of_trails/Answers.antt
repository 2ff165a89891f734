use Rattle.split_node.proofs.IdleLemmas.{split-holds_nothing}
use Rattle.split_node.proofs.TrailLemmas.{split-answers_above, split-asks_below, split-fills_nothing, split-lasts, split-may_decide, split-opens_kind}
use Rattle.split_node.proofs.split_laws.laws_of_trails.Goals as goal

pub returns : goal.returns
returns c = record {
  opens = split-opens_kind (Unit {0});
  may_decide = split-may_decide (Unit {0});
  lasts = split-lasts (Unit {0});
  asks_below = split-asks_below (Unit {0});
  answers_above = split-answers_above (Unit {0});
  fills_at_ends = split-fills_nothing (Unit {0});
  idle_holds_nothing = split-holds_nothing (Unit {0});
}
