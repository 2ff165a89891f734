-- The first of the rounds is judged, and the others break what it breaks.
use Rattle.std.proofs.Common.{◌<◌, ◌≤◌, ℕ, ◌∙◌, arith}
use Rattle.trace_judge.proofs.JudgeLemmas.{both_quiet, quiet_rounds}
use Rattle.trace_judge.proofs.link_judge.LinkJudge.pass.Goals as goal

pub returns-in_ok-next-clause-judged : goal.returns-in_ok-next-clause-judged
returns-in_ok-next-clause-judged c = λ shown number quiet j.
    let first : ℕ = c.quiet_round.result.round in
    let lo : c.args.self.now.rounds < first = omega (arith, c.quiet_round.ensures.round) in
    let hi : first ≤ c.args.upto = omega (arith, c.quiet_round.ensures.round, c.if-self-upto.true) in
    let q = quiet first lo hi in
    let after = c.in_ok-next.ensures.judged shown number c.quiet_round.ensures.round (both_quiet (shown first) c.quiet_round.result q.0 c.quiet_round.ensures.quiet) q.1 j in
    quiet_rounds c.next.new.self.checker c.next.new.self.fault c.args.self.now.rounds c.next.new.self.rounds c.args.upto shown number (c.in_ok-next.ensures.rounds ∙ c.quiet_round.ensures.round) c.if-self-upto.true (λ m l h. (quiet m l h).0) after
