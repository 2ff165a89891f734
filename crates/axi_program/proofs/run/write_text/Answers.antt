use Rattle.std.proofs.Common.{◌≡◌, ◌++◌, [], ℕ, List, append-nil, refl, sym, ap, subst, ◌∙◌}
use Rattle.std.specs.Io.KnownBytes.{Appends}
use Rattle.std.proofs.KnownBytes.{Appends-trans}
use Rattle.net_build.specs.NetRun.{NetRun}
use Rattle.axi_program.proofs.RunLaws.{on-err, on-err-map, on-ok-map, prefix-later, prefix-whole}
use Rattle.axi_program.specs.DeviceBytes.{AppendsPrefix}
use Rattle.axi_program.specs.Text.{answer_lines, rounds_line, run_text}
use Rattle.axi_program.proofs.run.write_text.Goals as goal

-- the text of a run is its answers and its rounds
text-is : (run : NetRun) → run_text run ≡ answer_lines run run.items ++ rounds_line run.rounds
unfolding run_text
text-is run = refl

pub returns-in_err-write_lines-clause-err : goal.returns-in_err-write_lines-clause-err
returns-in_err-write_lines-clause-err g c =
    let run = c.args.net.now in
    on-err c.from_residual.result _
    (prefix-whole (g.K.Sink.written c.args.sink.now) (g.K.Sink.written c.write_lines.new.sink) (answer_lines run run.items) (rounds_line run.rounds) (run_text run)
    c.in_err-write_lines.ensures.err (text-is run))

pub returns-clause-ok : goal.returns-clause-ok
returns-clause-ok g c =
    let run = c.args.net.now in
    let piece : c.bytes.result.now ≡ rounds_line run.rounds = c.bytes.ensures ∙ c.render_rounds.ensures ∙ ap rounds_line c.rounds.ensures in
    on-ok-map c.write_piece.result _ _
    (λ (last : Appends (g.K.Sink.written c.write_lines.new.sink) (g.K.Sink.written c.write_piece.new.sink) c.bytes.result.now).
    subst (λ (text : List ℕ). Appends (g.K.Sink.written c.args.sink.now) (g.K.Sink.written c.write_piece.new.sink) text) (sym (text-is run))
    (Appends-trans (g.K.Sink.written c.args.sink.now) (g.K.Sink.written c.write_lines.new.sink) (g.K.Sink.written c.write_piece.new.sink) (answer_lines run run.items) (rounds_line run.rounds)
    c.in_ok-write_lines.ensures.ok (subst (λ (bytes : List ℕ). Appends (g.K.Sink.written c.write_lines.new.sink) (g.K.Sink.written c.write_piece.new.sink) bytes) piece last)))
    c.write_piece.ensures.ok

pub returns-clause-err : goal.returns-clause-err
returns-clause-err g c =
    let run = c.args.net.now in
    let piece : c.bytes.result.now ≡ rounds_line run.rounds = c.bytes.ensures ∙ c.render_rounds.ensures ∙ ap rounds_line c.rounds.ensures in
    let lines = answer_lines run run.items in
    on-err-map c.write_piece.result _ _
    (λ (part : AppendsPrefix (g.K.Sink.written c.write_lines.new.sink) (g.K.Sink.written c.write_piece.new.sink) c.bytes.result.now).
    prefix-later (g.K.Sink.written c.args.sink.now) (g.K.Sink.written c.write_lines.new.sink) (g.K.Sink.written c.write_piece.new.sink) lines (rounds_line run.rounds) [] (run_text run)
    c.in_ok-write_lines.ensures.ok (subst (λ (bytes : List ℕ). AppendsPrefix (g.K.Sink.written c.write_lines.new.sink) (g.K.Sink.written c.write_piece.new.sink) bytes) piece part)
    (text-is run ∙ sym (append-nil (lines ++ rounds_line run.rounds))))
    c.write_piece.ensures.err
