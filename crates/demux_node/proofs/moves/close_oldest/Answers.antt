use Rattle.std.proofs.Common.{◌∙◌, sym}
use Rattle.demux_node.proofs.MoveLemmas.{none_open, oldest_open_at}
use Rattle.demux_node.proofs.moves.close_oldest.Goals as goal

pub returns-in-Some : goal.returns-in-Some
returns-in-Some c =
    c.set.ensures.entry ∙ (oldest_open_at c.get-write.result.now c.args.writes.now c.in-Some.place (sym c.oldest_open.ensures.place ∙ c.in-Some.is) c.get-write.ensures).closed

pub returns-in_default : goal.returns-in_default
returns-in_default c = sym (none_open c.args.writes.now (sym c.oldest_open.ensures.place ∙ c.in_default.is)).closed
