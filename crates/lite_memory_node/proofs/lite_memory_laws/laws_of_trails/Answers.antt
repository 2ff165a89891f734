use Rattle.lite_memory_node.proofs.IdleLemmas.{lite_memory-idle_holds_nothing}
use Rattle.lite_memory_node.proofs.TrailLemmas.{lite_memory-answers_above, lite_memory-asks_below, lite_memory-fills_at_ends, lite_memory-lasts, lite_memory-may_decide, lite_memory-opens}
use Rattle.lite_memory_node.proofs.lite_memory_laws.laws_of_trails.Goals as goal

pub returns : goal.returns
returns c = record {
  opens = lite_memory-opens;
  may_decide = lite_memory-may_decide;
  lasts = lite_memory-lasts;
  asks_below = lite_memory-asks_below;
  answers_above = lite_memory-answers_above;
  fills_at_ends = lite_memory-fills_at_ends;
  idle_holds_nothing = lite_memory-idle_holds_nothing;
}
