use Rattle.std.proofs.Common.{sym, subst}
use Rattle.std.specs.Prelude.{map, string_bytes}
use Rattle.axi_program.proofs.CallLaws.{cut-off, done-complete, done-reads, done-tells}
use Rattle.axi_program.proofs.RightLaws.{documents-run-right, plans-tell-bounds}
use Rattle.axi_program.specs.Call.{IsComplete, ReadsWhole, Tells}
use Rattle.axi_program.specs.declared.status.Status.{Status}
use Rattle.axi_program.proofs.top.axinet.Goals as goal

pub returns-in-Ok-finish-clause-reads_whole : goal.returns-in-Ok-finish-clause-reads_whole
returns-in-Ok-finish-clause-reads_whole g c =
    subst (λ (status : Status). ReadsWhole g.S.Source.left c.args.source.now c.prepare.new.source status) (sym c.status.ensures)
    (done-reads g.S.Source.left c.args.source.now c.prepare.new.source (map string_bytes c.args.words.now) c.in-Ok.work c.in-Ok.ensures.work c.in-Ok-finish.ending
    (λ outcome of. (c.in-Ok-finish.ensures.concludes outcome of).ending))

pub returns-in-Ok-finish-clause-tells : goal.returns-in-Ok-finish-clause-tells
returns-in-Ok-finish-clause-tells g c =
    let words = map string_bytes c.args.words.now in
    let left = g.S.Source.left in
    let now = c.args.source.now in
    let later = c.prepare.new.source in
    let written = g.K.Sink.written in
    let sink = c.args.sink.now in
    let after = c.finish.new.sink in
    subst (λ (status : Status). Tells words left g.S.Source.faults written g.K.Sink.faults now later sink after status) (sym c.status.ensures)
    (done-tells left now later words c.in-Ok.work c.in-Ok.ensures.work g.S.Source.faults written g.K.Sink.faults sink after c.in-Ok-finish.ending
    (λ outcome of. (c.in-Ok-finish.ensures.concludes outcome of).ending) (λ outcome of. (c.in-Ok-finish.ensures.concludes outcome of).whole))

pub returns-in-Ok-finish-clause-complete : goal.returns-in-Ok-finish-clause-complete
returns-in-Ok-finish-clause-complete g c reads writes =
    subst (λ (status : Status). IsComplete (map string_bytes c.args.words.now) (g.S.Source.left c.args.source.now) status) (sym c.status.ensures)
    (done-complete g.S.Source.left c.args.source.now c.prepare.new.source (map string_bytes c.args.words.now) c.in-Ok.work c.in-Ok.ensures.work c.in-Ok-finish.ending
    (λ outcome of. (c.in-Ok-finish.ensures.concludes outcome of).ending))

pub returns-in-Err-finish-clause-tells : goal.returns-in-Err-finish-clause-tells
returns-in-Err-finish-clause-tells g c = (
  c.in-Err-finish.ensures.cause.failed,
  cut-off g.S.Source.left c.args.source.now c.prepare.new.source (map string_bytes c.args.words.now) c.in-Ok.work c.in-Ok.ensures.work g.S.Source.faults g.K.Sink.written g.K.Sink.faults c.args.sink.now
      c.finish.new.sink (λ outcome of. (c.in-Err-finish.ensures.concludes outcome of).part),
)

-- the law speaks of documents, whatever the call answers

pub returns-in-Ok-finish-clause-right : goal.returns-in-Ok-finish-clause-right
returns-in-Ok-finish-clause-right g c = documents-run-right

pub returns-in-Err-finish-clause-right : goal.returns-in-Err-finish-clause-right
returns-in-Err-finish-clause-right g c = documents-run-right

pub returns-in-Err-clause-right : goal.returns-in-Err-clause-right
returns-in-Err-clause-right g c = documents-run-right

pub returns-in-Ok-finish-clause-planned : goal.returns-in-Ok-finish-clause-planned
returns-in-Ok-finish-clause-planned g c = plans-tell-bounds

pub returns-in-Err-finish-clause-planned : goal.returns-in-Err-finish-clause-planned
returns-in-Err-finish-clause-planned g c = plans-tell-bounds

pub returns-in-Err-clause-planned : goal.returns-in-Err-clause-planned
returns-in-Err-clause-planned g c = plans-tell-bounds
