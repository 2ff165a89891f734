use Rattle.std.proofs.Common.{subst}
use Rattle.std.specs.Prelude.{IfOk}
use Rattle.command_words.specs.declared.choice.Task.TheVariants.{Check, Plan, Run}
use Rattle.axi_program.proofs.CallLaws.{outcome-task}
use Rattle.axi_program.specs.Outcome.{Outcome}
use Rattle.axi_program.specs.Work.{IsWorkOf}
use Rattle.axi_program.proofs.preparation.work_of_input.Goals as goal

pub returns-in-Run : goal.returns-in-Run
returns-in-Run c =
    subst (λ (o : Outcome). IfOk c.work_of_document.result (IsWorkOf o)) (outcome-task c.args.choice.now c.args.input.now Run c.in-Run.is) c.work_of_document.ensures

pub returns-in-Check : goal.returns-in-Check
returns-in-Check c =
    subst (λ (o : Outcome). IfOk c.work_of_trace.result (IsWorkOf o)) (outcome-task c.args.choice.now c.args.input.now Check c.in-Check.is) c.work_of_trace.ensures

pub returns-in-Plan : goal.returns-in-Plan
returns-in-Plan c =
    subst (λ (o : Outcome). IfOk c.work_of_plan.result (IsWorkOf o)) (outcome-task c.args.choice.now c.args.input.now Plan c.in-Plan.is) c.work_of_plan.ensures
