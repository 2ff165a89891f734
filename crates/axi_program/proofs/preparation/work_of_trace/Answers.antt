use Rattle.std.proofs.Common.{ap, subst, ◌∙◌}
use Rattle.std.specs.Prelude.{IfOk}
use Rattle.trace_judge.specs.Verdicts.{verdict_of}
use Rattle.axi_program.proofs.CallLaws.{check-judges, check-refuses}
use Rattle.axi_program.specs.Outcome.{Outcome, Refuses, outcome_of}
use Rattle.axi_program.specs.Work.{IsWorkOf}
use Rattle.axi_program.proofs.preparation.work_of_trace.Goals as goal

pub returns-in_ok-verdict-in-Ok : goal.returns-in_ok-verdict-in-Ok
returns-in_ok-verdict-in-Ok c =
    subst (λ (o : Outcome). IfOk c.say.result (IsWorkOf o))
    (c.of_verdict.ensures ∙ ap outcome_of (c.in_ok-verdict-in-Ok.ensures.verdict ∙ ap verdict_of c.in-Ok.ensures.text) ∙ check-judges c.args.input.now c.requires c.in-Ok.ensures.utf8) c.say.ensures

pub returns-in-Err : goal.returns-in-Err
returns-in-Err c =
    subst (λ (o : Outcome). IfOk c.say-in-Err.result (IsWorkOf o)) (ap Refuses c.in-Err.ensures.refused ∙ check-refuses c.args.input.now c.requires c.in-Err.ensures.other) c.say-in-Err.ensures
