use Rattle.slice_node.proofs.IdleLemmas.{slice-holds_nothing}
use Rattle.slice_node.proofs.TrailLemmas.{slice-answers, slice-asks, slice-fills_nothing, slice-lasts, slice-may_decide, slice-opens}
use Rattle.slice_node.proofs.slice_laws.laws_of_trails.Goals as goal

pub returns : goal.returns
returns c = record {
  opens = slice-opens (Unit {0});
  may_decide = slice-may_decide (Unit {0});
  lasts = slice-lasts (Unit {0});
  asks_below = slice-asks (Unit {0});
  answers_above = slice-answers (Unit {0});
  fills_at_ends = slice-fills_nothing (Unit {0});
  idle_holds_nothing = slice-holds_nothing (Unit {0});
}
