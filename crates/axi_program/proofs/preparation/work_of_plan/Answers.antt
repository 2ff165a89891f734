use Rattle.std.proofs.Common.{Err, subst, sym}
use Rattle.std.specs.Prelude.{IfOk}
use Rattle.refusals.specs.declared.refusal.DocFault.{DocFault}
use Rattle.document.specs.Document.{IsDocumentFault, planned_of}
use Rattle.axi_program.proofs.CallLaws.{planned-outcome}
use Rattle.axi_program.specs.Outcome.{Outcome}
use Rattle.axi_program.specs.Work.{IsWorkOf}
use Rattle.axi_program.proofs.preparation.work_of_plan.Goals as goal

pub returns-in_ok-line-in-Ok : goal.returns-in_ok-line-in-Ok
returns-in_ok-line-in-Ok c = sym (planned-outcome c.args.input.now _ c.in-Ok.ensures.planned)

pub returns-in-Err-Refused : goal.returns-in-Err-Refused
returns-in-Err-Refused c =
    let refused = subst (λ (f : DocFault). IsDocumentFault (planned_of c.args.input.now) f) c.in-Err-Refused.field-0-is c.in-Err-Refused.ensures.fault in
    subst (λ (o : Outcome). IfOk c.say.result (IsWorkOf o)) (planned-outcome c.args.input.now (Err c.in-Err-Refused.refusal) refused) c.say.ensures
