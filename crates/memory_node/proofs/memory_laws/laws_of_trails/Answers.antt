use Rattle.memory_node.proofs.IdleLemmas.{memory-idle_holds_nothing}
use Rattle.memory_node.proofs.TrailLemmas.{memory-answers_above, memory-asks_below, memory-fills_at_ends, memory-lasts, memory-may_decide, memory-opens}
use Rattle.memory_node.proofs.memory_laws.laws_of_trails.Goals as goal

pub returns : goal.returns
returns c = record {
  opens = memory-opens;
  may_decide = memory-may_decide;
  lasts = memory-lasts;
  asks_below = memory-asks_below;
  answers_above = memory-answers_above;
  fills_at_ends = memory-fills_at_ends;
  idle_holds_nothing = memory-idle_holds_nothing;
}
