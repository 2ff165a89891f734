use Rattle.std.proofs.Common.{◌≡◌, ◌++◌, [], ℕ, List, Bool, sym, ap, subst, ◌∙◌, append-nil}
use Rattle.std.specs.Io.KnownBytes.{Appends}
use Rattle.std.proofs.KnownBytes.{Appends-trans}
use Rattle.document.specs.Document.{Asked}
use Rattle.net_build.specs.NetRun.{NetRun}
use Rattle.axi_program.proofs.RunLaws.{on-err, outcome-answers, outcome-traces, prefix-later, prefix-whole}
use Rattle.axi_program.specs.DeviceBytes.{AppendsPrefix}
use Rattle.axi_program.specs.Opening.{asked_by}
use Rattle.axi_program.specs.Outcome.{Answers, ending_of, run_outcome, run_trace, text_of}
use Rattle.axi_program.specs.Run.{run_end}
use Rattle.axi_program.specs.Text.{run_text, separator_line, where_asked}
use Rattle.axi_program.proofs.run.run.Goals as goal

-- what the run comes to, by the network after it
answers :
    (trace : Bool) (asked : Asked) (after : NetRun) → after ≡ run_end asked →
    run_outcome trace asked ≡ Answers (where_asked trace (run_trace asked) ++ (where_asked trace separator_line ++ run_text after))
answers trace asked after ran =
    outcome-answers trace asked ∙ ap (λ (run : NetRun). Answers (where_asked trace (run_trace asked) ++ (where_asked trace separator_line ++ run_text run))) (sym ran)

pub returns-in_err-run_to_end-clause-err : goal.returns-in_err-run_to_end-clause-err
returns-in_err-run_to_end-clause-err g c =
    let trace = c.args.trace in
    let asked = asked_by c.args.net in
    let whole = outcome-traces trace asked in
    on-err c.from_residual.result _
    (prefix-whole (g.K.Sink.written c.args.sink.now) (g.K.Sink.written c.run_to_end.new.sink) (where_asked trace (run_trace asked)) whole.0 (text_of (run_outcome trace asked))
    c.in_err-run_to_end.ensures.err whole.1)

pub returns-in_err-write_answers-clause-err : goal.returns-in_err-write_answers-clause-err
returns-in_err-write_answers-clause-err g c =
    let trace = c.args.trace in
    let asked = asked_by c.args.net in
    let lines = where_asked trace (run_trace asked) in
    let rest = where_asked trace separator_line ++ run_text c.run_to_end.new.net in
    let is = answers trace asked c.run_to_end.new.net c.in_ok-run_to_end.ensures.ran in
    on-err c.from_residual-in_err-write_answers.result _
    (subst (λ (text : List ℕ). AppendsPrefix (g.K.Sink.written c.args.sink.now) (g.K.Sink.written c.write_answers.new.sink) text) (ap text_of (sym is))
    (prefix-later (g.K.Sink.written c.args.sink.now) (g.K.Sink.written c.run_to_end.new.sink) (g.K.Sink.written c.write_answers.new.sink)
    lines rest [] (lines ++ rest) c.in_ok-run_to_end.ensures.ok c.in_err-write_answers.ensures.err (sym (append-nil (lines ++ rest)))))

pub returns-clause-ending : goal.returns-clause-ending
returns-clause-ending g c = sym (ap ending_of (answers c.args.trace (asked_by c.args.net) c.run_to_end.new.net c.in_ok-run_to_end.ensures.ran))

pub returns-clause-ok : goal.returns-clause-ok
returns-clause-ok g c =
    let trace = c.args.trace in
    let asked = asked_by c.args.net in
    let lines = where_asked trace (run_trace asked) in
    let rest = where_asked trace separator_line ++ run_text c.run_to_end.new.net in
    let is = answers trace asked c.run_to_end.new.net c.in_ok-run_to_end.ensures.ran in
    subst (λ (text : List ℕ). Appends (g.K.Sink.written c.args.sink.now) (g.K.Sink.written c.write_answers.new.sink) text) (ap text_of (sym is))
    (Appends-trans (g.K.Sink.written c.args.sink.now) (g.K.Sink.written c.run_to_end.new.sink) (g.K.Sink.written c.write_answers.new.sink) lines rest c.in_ok-run_to_end.ensures.ok
    c.in_ok-write_answers.ensures.ok)
