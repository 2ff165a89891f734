-- A memory shows all that a kind of node has to show.
use Rattle.memory_node.specs.MemoryTrail.{memory_kind}
use Rattle.node_shape.specs.KindHolds.{KindHolds}
use Rattle.memory_node.proofs.IdleLemmas.{memory-idle_holds_nothing}
use Rattle.memory_node.proofs.TableLemmas.{memory-always_fits, memory-begins, memory-is_steady, memory-moves_own, memory-rests, memory-stays_memory}
use Rattle.memory_node.proofs.TrailLemmas.{memory-answers_above, memory-asks_below, memory-fills_at_ends, memory-lasts, memory-may_decide, memory-opens}
use Rattle.memory_node.proofs.WayLemmas.{memory-cuts_fit, memory-goes_below, memory-has_way, memory-origins_fit, memory-ways_suit}

pub memory-holds : KindHolds memory_kind
memory-holds = record {
  fit = memory-always_fits;
  own = memory-moves_own;
  steady = memory-is_steady;
  begins = memory-begins;
  stays = memory-stays_memory;
  rests = memory-rests;
  has_way = memory-has_way;
  goes_below = memory-goes_below;
  origins_fit = memory-origins_fit;
  cuts_fit = memory-cuts_fit;
  ways_suit = memory-ways_suit;
  opens = memory-opens;
  may_decide = memory-may_decide;
  lasts = memory-lasts;
  asks_below = memory-asks_below;
  answers_above = memory-answers_above;
  fills_at_ends = memory-fills_at_ends;
  idle_holds_nothing = memory-idle_holds_nothing;
}
