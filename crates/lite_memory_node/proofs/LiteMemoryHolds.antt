-- A Lite memory shows all that a kind of node has to show.
use Rattle.lite_memory_node.specs.LiteMemoryTrail.{lite_memory_kind}
use Rattle.node_shape.specs.KindHolds.{KindHolds}
use Rattle.lite_memory_node.proofs.IdleLemmas.{lite_memory-idle_holds_nothing}
use Rattle.lite_memory_node.proofs.TableLemmas.{lite_memory-always_fits, lite_memory-begins, lite_memory-is_steady, lite_memory-moves_own, lite_memory-rests, lite_memory-stays_memory}
use Rattle.lite_memory_node.proofs.TrailLemmas.{lite_memory-answers_above, lite_memory-asks_below, lite_memory-fills_at_ends, lite_memory-lasts, lite_memory-may_decide, lite_memory-opens}
use Rattle.lite_memory_node.proofs.WayLemmas.{lite_memory-cuts_fit, lite_memory-goes_below, lite_memory-has_way, lite_memory-origins_fit, lite_memory-ways_suit}

pub lite_memory-holds : KindHolds lite_memory_kind
lite_memory-holds = record {
  fit = lite_memory-always_fits;
  own = lite_memory-moves_own;
  steady = lite_memory-is_steady;
  begins = lite_memory-begins;
  stays = lite_memory-stays_memory;
  rests = lite_memory-rests;
  has_way = lite_memory-has_way;
  goes_below = lite_memory-goes_below;
  origins_fit = lite_memory-origins_fit;
  cuts_fit = lite_memory-cuts_fit;
  ways_suit = lite_memory-ways_suit;
  opens = lite_memory-opens;
  may_decide = lite_memory-may_decide;
  lasts = lite_memory-lasts;
  asks_below = lite_memory-asks_below;
  answers_above = lite_memory-answers_above;
  fills_at_ends = lite_memory-fills_at_ends;
  idle_holds_nothing = lite_memory-idle_holds_nothing;
}
