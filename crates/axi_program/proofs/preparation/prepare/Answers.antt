use Rattle.std.proofs.Common.{◌≡◌, Err, Some, sym, ap, subst, inl, inr, ◌∙◌, List, ℕ}
use Rattle.refusals.specs.Refusal.{refused_for}
use Rattle.refusals.specs.declared.cause.Cause.TheVariants.{InputTooLong}
use Rattle.refusals.specs.declared.refusal.Refusal.{Refusal}
use Rattle.axi_program.proofs.CallLaws.{told-over, whole-read, whole-told}
use Rattle.axi_program.specs.DeviceBytes.{IsWhole}
use Rattle.axi_program.specs.Outcome.{Refuses, input_outcome}
use Rattle.axi_program.specs.Work.{IsWorkOf}
use Rattle.axi_program.proofs.preparation.prepare.Goals as goal

pub returns-in_ok-work_of_input-in-Ok-read_all-clause-work : goal.returns-in_ok-work_of_input-in-Ok-read_all-clause-work
returns-in_ok-work_of_input-in-Ok-read_all-clause-work g c =
    let work = c.in_ok-work_of_input-in-Ok-read_all.field-0 in
    let choice = c.in-Ok.choice in
    let text = c.deref.result.now in
    let of = c.in_ok-work_of_input-in-Ok-read_all.ensures in
    let before = g.S.Source.left c.args.source.now in
    let now = g.S.Source.left c.read_all.new.source in
    let whole = subst (λ (t : List ℕ). IsWhole before now t) (sym c.deref.ensures.value) c.in-Ok-read_all.ensures.whole in
    record {
      choice = choice;
      chosen = c.in-Ok.ensures.chosen;
      ready = (input_outcome choice text, of);
      told = whole-told before now text (λ input. IsWorkOf (input_outcome choice input) work) whole of;
      read = inl (whole-read before now text whole);
    }

pub returns-in_ok-say-in-Err-TooLong-clause-work : goal.returns-in_ok-say-in-Err-TooLong-clause-work
returns-in_ok-say-in-Err-TooLong-clause-work g c =
    let work = c.in_ok-say-in-Err-TooLong.field-0 in
    let choice = c.in-Ok.choice in
    let of = subst (λ (r : Refusal). IsWorkOf (Refuses r) work) c.new.ensures c.in_ok-say-in-Err-TooLong.ensures in
    let over = c.in-Err-TooLong.ensures.too_long (ap Err c.in-Err-TooLong.field-0-is) in
    record {
      choice = choice;
      chosen = c.in-Ok.ensures.chosen;
      ready = (Refuses (refused_for InputTooLong), of);
      told = told-over choice work (g.S.Source.left c.args.source.now) over of;
      read = inr (over, of);
    }

pub returns-in-Err-ReadFault-clause-stop : goal.returns-in-Err-ReadFault-clause-stop
returns-in-Err-ReadFault-clause-stop g c = ((c.in-Ok.choice, c.in-Ok.ensures.chosen), c.in-Err-ReadFault.ensures.read_fault (ap Err c.in-Err-ReadFault.field-0-is))
