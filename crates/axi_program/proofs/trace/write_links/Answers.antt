use Rattle.std.proofs.Common.{◌≡◌, ◌≤◌, ◌+◌, ◌++◌, ℕ, List, length, refl, sym, ap, subst, ◌∙◌, arith}
use Rattle.std.specs.Io.KnownBytes.{Appends}
use Rattle.std.proofs.KnownBytes.{Appends-trans}
use Rattle.net_build.specs.NetRun.{NetRun, network_of_run}
use Rattle.axi_program.proofs.RunLaws.{on-err, prefix-later}
use Rattle.axi_program.proofs.TraceLaws.{links-of, over-front, over-more}
use Rattle.axi_program.specs.Trace.{link_line, round_lines}
use Rattle.elaborate.specs.Plan.{plan_links}
use Rattle.plain_lists.specs.Rounds.{over}
use Rattle.axi_program.specs.DeviceBytes.{AppendsPrefix}
use Rattle.axi_program.proofs.trace.write_links.Goals as goal

-- the lines of a round are those of all links of the plan
round-is : (run : NetRun) (count : ℕ) → count ≡ length (plan_links run.nodes) →
    round_lines (run.rounds + 1) (network_of_run run) ≡ over (link_line (run.rounds + 1) (network_of_run run)) count
unfolding round_lines
round-is run count all = ap (over (link_line (run.rounds + 1) (network_of_run run))) (links-of run ∙ sym all)

pub returns-in_err-write_link-clause-err : goal.returns-in_err-write_link-clause-err
returns-in_err-write_link-clause-err g c =
    let run = c.args.net.now in
    let lines = link_line (run.rounds + 1) (network_of_run run) in
    let n = c.loop-number.number in
    let count = length (plan_links run.nodes) in
    let within : n + 1 ≤ count = omega arith in
    let front = over-front lines (n + 1) count within in
    let whole = round-is run count refl ∙ front.1 ∙ ap (λ (text : List ℕ). text ++ front.0) (over-more lines n) in
    on-err c.from_residual.result _
    (prefix-later (g.K.Sink.written c.args.sink.now) (g.K.Sink.written c.loop-number.sink) (g.K.Sink.written c.write_link.new.sink)
    (over lines n) (lines n) front.0 (round_lines (run.rounds + 1) (network_of_run run)) c.loop-number.invariant.0 c.in_err-write_link.ensures.err whole)

pub loop-number-preserved : goal.loop-number-preserved
loop-number-preserved g c =
    let run = c.args.net.now in
    let lines = link_line (run.rounds + 1) (network_of_run run) in
    let n = c.loop-number.number in
    let all = Appends-trans (g.K.Sink.written c.args.sink.now) (g.K.Sink.written c.loop-number.sink) (g.K.Sink.written c.write_link.new.sink)
    (over lines n) (lines n) c.loop-number.invariant.0 c.in_ok-write_link.ensures.ok in
    let faults = c.loop-number.invariant.1 in
    let stays = c.in_ok-write_link.ensures.cause.stays in (
      subst (λ (text : List ℕ). Appends (g.K.Sink.written c.args.sink.now) (g.K.Sink.written c.write_link.new.sink) text) (sym (over-more lines n)) all,
      omega arith,
    )

pub returns-clause-ok : goal.returns-clause-ok
returns-clause-ok g c =
    let run = c.args.net.now in
    let end : c.loop-number.number ≡ length (plan_links run.nodes) = omega arith in
    subst (λ (text : List ℕ). Appends (g.K.Sink.written c.args.sink.now) (g.K.Sink.written c.loop-number.sink) text) (sym (round-is run c.loop-number.number end)) c.loop-number.invariant.0
