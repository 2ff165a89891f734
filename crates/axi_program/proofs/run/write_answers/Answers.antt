use Rattle.std.proofs.Common.{◌++◌, [], append-nil, sym}
use Rattle.axi_program.proofs.RunLaws.{on-err-map, prefix-later}
use Rattle.axi_program.specs.DeviceBytes.{AppendsPrefix}
use Rattle.axi_program.specs.Text.{run_text, separator_line, where_asked}
use Rattle.axi_program.proofs.run.write_answers.Goals as goal

pub returns-clause-err : goal.returns-clause-err
returns-clause-err g c =
    let text = run_text c.args.net.now in
    on-err-map c.write_text.result _ _
    (λ (part : AppendsPrefix (g.K.Sink.written c.write_separator.new.sink) (g.K.Sink.written c.write_text.new.sink) text).
    prefix-later (g.K.Sink.written c.args.sink.now) (g.K.Sink.written c.write_separator.new.sink) (g.K.Sink.written c.write_text.new.sink) (where_asked c.args.trace separator_line) text [] (where_asked c.args.trace separator_line ++ text)
    c.in_ok-write_separator.ensures.ok part (sym (append-nil (where_asked c.args.trace separator_line ++ text))))
    c.write_text.ensures.err
