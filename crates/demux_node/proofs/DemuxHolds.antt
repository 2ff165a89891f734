-- A demux shows what every kind has to show.
use Rattle.demux_node.proofs.AnswerLemmas.{demux-answers}
use Rattle.demux_node.proofs.AskLemmas.{demux-asks}
use Rattle.demux_node.proofs.IdleLemmas.{demux-holds_nothing}
use Rattle.demux_node.proofs.TableLemmas.{demux-always_fits, demux-begins, demux-is_steady, demux-moves_own, demux-rests, demux-stays}
use Rattle.demux_node.proofs.TrailLemmas.{demux-fills_nothing, demux-lasts, demux-may_decide, demux-opens}
use Rattle.demux_node.proofs.WayLemmas.{demux-cuts_fit, demux-goes_below, demux-has_way, demux-origins_fit, demux-ways_suit}
use Rattle.demux_node.specs.DemuxTrail.{demux_kind}
use Rattle.node_shape.specs.KindHolds.{KindHolds}

pub demux-holds : (E : Type 0) → KindHolds (demux_kind {E = E})
demux-holds E = record {
  fit = demux-always_fits E;
  own = demux-moves_own E;
  steady = demux-is_steady E;
  begins = demux-begins E;
  stays = demux-stays E;
  rests = demux-rests E;
  has_way = demux-has_way E;
  goes_below = demux-goes_below E;
  origins_fit = demux-origins_fit E;
  cuts_fit = demux-cuts_fit E;
  ways_suit = demux-ways_suit E;
  opens = demux-opens E;
  may_decide = demux-may_decide E;
  lasts = demux-lasts E;
  asks_below = demux-asks E;
  answers_above = demux-answers E;
  fills_at_ends = demux-fills_nothing E;
  idle_holds_nothing = demux-holds_nothing E;
}
