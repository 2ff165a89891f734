-- A new judge follows a link without lines.
use Rattle.trace_judge.proofs.FollowLemmas.{follows_none}
use Rattle.trace_judge.proofs.link_state.LinkState.new.Goals as goal

pub returns-clause-follows : goal.returns-clause-follows
returns-clause-follows c = λ lines link none. follows_none c.new.result c.args.port lines link c.new.ensures.port c.new.ensures.given c.new.ensures.rounds c.new.ensures.judged none
