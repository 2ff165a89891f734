use Rattle.remap_node.proofs.IdleLemmas.{remap-holds_nothing}
use Rattle.remap_node.proofs.TrailLemmas.{remap-answers, remap-asks, remap-fills_nothing, remap-lasts, remap-may_decide, remap-opens}
use Rattle.remap_node.proofs.remap_laws.laws_of_trails.Goals as goal

pub returns : goal.returns
returns c = record {
  opens = remap-opens (Unit {0});
  may_decide = remap-may_decide (Unit {0});
  lasts = remap-lasts (Unit {0});
  asks_below = remap-asks (Unit {0});
  answers_above = remap-answers (Unit {0});
  fills_at_ends = remap-fills_nothing (Unit {0});
  idle_holds_nothing = remap-holds_nothing (Unit {0});
}
