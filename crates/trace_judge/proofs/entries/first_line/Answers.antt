-- A new link has judged no round, and fits a link without a line.
use Rattle.trace_judge.proofs.EntryLemmas.{taken_first}
use Rattle.trace_judge.proofs.entries.first_line.Goals as goal

pub returns : goal.returns
returns c = taken_first c.new-state.result _ c.args.line c.args.r.now c.requires.first c.new-state.ensures.port c.new-state.ensures.rounds c.new-state.ensures.follows c.in_ok-take_line.ensures
