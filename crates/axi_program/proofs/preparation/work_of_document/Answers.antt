use Rattle.std.proofs.Common.{Err, subst}
use Rattle.std.specs.Prelude.{IfOk}
use Rattle.refusals.specs.declared.refusal.DocFault.{DocFault}
use Rattle.document.specs.Document.{IsDocumentFault, document_of}
use Rattle.axi_program.proofs.CallLaws.{outcome-of}
use Rattle.document.proofs.RunnableLemmas.{accepted-are_runnable}
use Rattle.axi_program.specs.Outcome.{Outcome}
use Rattle.axi_program.specs.Work.{IsWorkOf}
use Rattle.axi_program.proofs.preparation.work_of_document.Goals as goal

pub work_of_run-requires : goal.work_of_run-requires
work_of_run-requires c = accepted-are_runnable c.args.input.now _ c.in-Ok.ensures.asked

pub returns-in-Ok : goal.returns-in-Ok
returns-in-Ok c =
    subst (λ (o : Outcome). IfOk c.work_of_run.result (IsWorkOf o)) (outcome-of c.args.trace c.args.input.now _ c.in-Ok.ensures.asked) c.work_of_run.ensures

pub returns-in-Err-Refused : goal.returns-in-Err-Refused
returns-in-Err-Refused c =
    let refused = subst (λ (f : DocFault). IsDocumentFault (document_of c.args.input.now) f) c.in-Err-Refused.field-0-is c.in-Err-Refused.ensures.fault in
    subst (λ (o : Outcome). IfOk c.say.result (IsWorkOf o)) (outcome-of c.args.trace c.args.input.now (Err c.in-Err-Refused.refusal) refused) c.say.ensures
