-- A round is judged where nothing is broken before it.
use Rattle.std.proofs.Common.{sym, subst}
use Rattle.trace_judge.specs.Judged.{IsJudged}
use Rattle.trace_judge.specs.declared.link_judge.LinkJudge.{LinkJudge}
use Rattle.trace_judge.proofs.JudgeLemmas.{judged_next, judged_broken, judged_open}
use Rattle.trace_judge.proofs.link_judge.LinkJudge.next.Goals as goal
use Rattle.trace_judge.proofs.link_judge.LinkJudge.next.Goals.{then-is_none+in_ok-self, else-is_none}

pub returns-clause-judged : goal.returns-clause-judged
returns-clause-judged c = λ shown number e same is j.
    let P : LinkJudge → Type 0 = λ s. IsJudged s.checker s.fault c.args.r.now.round shown number in
    elim c.if-is_none.branch [
      | then-is_none+in_ok-self w ↦
          subst P (sym w.self-is)
          (judged_next c.args.self.now.checker w.fault_in.new.checker w.in_ok-self.field-0 c.args.line c.args.self.now.rounds c.args.r.now shown number w.in_ok-self.ensures.port w.in_ok-self.ensures.added w.in_ok-self.ensures.told c.args.r.now.round e same is w.in_ok-self.ensures.place
          (judged_open c.args.self.now.checker c.args.self.now.fault c.args.self.now.rounds shown number w.if-is_none.ensures j))
      | else-is_none w ↦
          subst P (sym w.self-is) (judged_broken c.args.self.now.checker c.args.self.now.fault c.args.self.now.rounds c.args.r.now.round shown number w.if-is_none.ensures e j)
    ]
