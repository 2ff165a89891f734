use Rattle.std.proofs.Common.{◌≡◌, ◌<◌, ◌+◌, ◌-◌, [], ◌++◌, ℕ, List, length, take, sym, ap, subst, ◌∙◌, arith}
use Rattle.std.specs.Prelude.{slice_get}
use Rattle.std.specs.Option.{option_map_or}
use Rattle.std.specs.Io.KnownBytes.{Appends}
use Rattle.std.proofs.KnownBytes.{Appends-trans}
use Rattle.net_build.specs.NetRun.{NetRun}
use Rattle.axi_program.proofs.RunLaws.{lines-front, lines-next, on-err, prefix-later}
use Rattle.axi_program.specs.DeviceBytes.{AppendsPrefix}
use Rattle.axi_program.specs.Text.{answer_lines, item_line, line_of_number}
use Rattle.axi_program.proofs.run.write_lines.Goals as goal

-- the line of a number is that of the place before
at-place : (run : NetRun) (place : ℕ) → line_of_number run (place + 1) ≡ option_map_or (item_line run) (slice_get run.items place) []
at-place run place =
    let same : place + 1 - 1 ≡ place = omega arith in
    ap (λ (n : ℕ). option_map_or (item_line run) (slice_get run.items n) []) same

pub returns-in_err-write_line-clause-err : goal.returns-in_err-write_line-clause-err
returns-in_err-write_line-clause-err g c =
    let run = c.args.net.now in
    let n = c.loop-place.place in
    let long = ap length c.traffic.ensures.items in
    let within : n < length run.items = omega (arith, long) in
    let front = lines-front run run.items (n + 1) in
    let whole = front.1 ∙ ap (λ (text : List ℕ). text ++ front.0) (lines-next run run.items n within) in
    let part = subst (λ (bytes : List ℕ). AppendsPrefix (g.K.Sink.written c.loop-place.sink) (g.K.Sink.written c.write_line.new.sink) bytes) (at-place run n) c.in_err-write_line.ensures.err in
    on-err c.from_residual.result _
    (prefix-later (g.K.Sink.written c.args.sink.now) (g.K.Sink.written c.loop-place.sink) (g.K.Sink.written c.write_line.new.sink)
    (answer_lines run (take n run.items)) _ front.0 (answer_lines run run.items) c.loop-place.invariant.0 part whole)

pub loop-place-preserved : goal.loop-place-preserved
loop-place-preserved g c =
    let run = c.args.net.now in
    let n = c.loop-place.place in
    let long = ap length c.traffic.ensures.items in
    let within : n < length run.items = omega (arith, long) in
    let line = subst (λ (bytes : List ℕ). Appends (g.K.Sink.written c.loop-place.sink) (g.K.Sink.written c.write_line.new.sink) bytes) (at-place run n) c.in_ok-write_line.ensures.ok in
    let all = Appends-trans (g.K.Sink.written c.args.sink.now) (g.K.Sink.written c.loop-place.sink) (g.K.Sink.written c.write_line.new.sink)
    (answer_lines run (take n run.items)) _ c.loop-place.invariant.0 line in
    let faults = c.loop-place.invariant.1 in
    let stays = c.in_ok-write_line.ensures.cause.stays in (
      subst (λ (text : List ℕ). Appends (g.K.Sink.written c.args.sink.now) (g.K.Sink.written c.write_line.new.sink) text) (sym (lines-next run run.items n within)) all,
      omega arith,
    )
