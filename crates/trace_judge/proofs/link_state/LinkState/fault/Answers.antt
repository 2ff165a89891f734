-- What the judge keeps after the last row of rounds is what the link breaks first.
use Rattle.trace_judge.proofs.FollowLemmas.{tells_rest}
use Rattle.trace_judge.proofs.link_state.LinkState.fault.Goals as goal

pub returns : goal.returns
returns c = record {
  tells = λ lines link greatest follows.
      tells_rest c.args.self.judge c.pass.new.self c.args.self.port lines link c.args.last greatest follows c.in_ok-pass.ensures.port c.in_ok-pass.ensures.rounds c.in_ok-pass.ensures.judged;
}
