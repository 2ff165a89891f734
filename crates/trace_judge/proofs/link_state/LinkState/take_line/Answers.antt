-- The judge follows the link over the rounds before the line, and over the line.
use Rattle.std.proofs.Common.{◌∷◌, [], ◌++◌, refl, sym, subst}
use Rattle.axi_history.specs.declared.port.PortKind.{PortKind}
use Rattle.trace_judge.specs.Follows.{Follows}
use Rattle.trace_judge.proofs.FollowLemmas.{follows_line}
use Rattle.trace_judge.proofs.link_state.LinkState.take_line.Goals as goal

pub returns : goal.returns
returns c = record {
  state = record { port = c.args.self.now.port; judge = c.next.new.self };
  kept = refl;
  port = sym c.requires.kind;
  rounds = c.in_ok-next.ensures.rounds;
  follows = λ lines is_next follows.
      subst (λ (kind : PortKind). Follows c.next.new.self kind (lines ++ c.args.r.now ∷ []) c.args.r.now.link) (sym c.requires.kind)
      (follows_line c.args.self.now.judge c.pass.new.self c.next.new.self c.args.self.now.port lines c.args.r.now c.args.line is_next c.requires.first follows.0 follows.1
      c.in_ok-pass.ensures.port c.in_ok-pass.ensures.given c.in_ok-pass.ensures.rounds c.in_ok-pass.ensures.judged
      c.in_ok-next.ensures.port c.in_ok-next.ensures.given c.in_ok-next.ensures.rounds c.in_ok-next.ensures.judged);
}
