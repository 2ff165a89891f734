use Rattle.demux_node.proofs.AnswerLemmas.{demux-answers}
use Rattle.demux_node.proofs.AskLemmas.{demux-asks}
use Rattle.demux_node.proofs.IdleLemmas.{demux-holds_nothing}
use Rattle.demux_node.proofs.TrailLemmas.{demux-fills_nothing, demux-lasts, demux-may_decide, demux-opens}
use Rattle.demux_node.proofs.demux_laws.laws_of_trails.Goals as goal

pub returns : goal.returns
returns c = record {
  opens = demux-opens (Unit {0});
  may_decide = demux-may_decide (Unit {0});
  lasts = demux-lasts (Unit {0});
  asks_below = demux-asks (Unit {0});
  answers_above = demux-answers (Unit {0});
  fills_at_ends = demux-fills_nothing (Unit {0});
  idle_holds_nothing = demux-holds_nothing (Unit {0});
}
