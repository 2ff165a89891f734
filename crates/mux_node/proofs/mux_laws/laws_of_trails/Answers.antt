use Rattle.mux_node.proofs.IdleLemmas.{mux-holds_nothing}
use Rattle.mux_node.proofs.TrailLemmas.{mux-answers, mux-asks, mux-fills_nothing, mux-lasts, mux-may_decide, mux-opens}
use Rattle.mux_node.proofs.mux_laws.laws_of_trails.Goals as goal

pub returns : goal.returns
returns c = record {
  opens = mux-opens (Unit {0});
  may_decide = mux-may_decide (Unit {0});
  lasts = mux-lasts (Unit {0});
  asks_below = mux-asks (Unit {0});
  answers_above = mux-answers (Unit {0});
  fills_at_ends = mux-fills_nothing (Unit {0});
  idle_holds_nothing = mux-holds_nothing (Unit {0});
}
