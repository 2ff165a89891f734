use Rattle.std.proofs.Common.{◌≡◌, ◌≤◌, ◌+◌, ◌++◌, ℕ, List, length, sym, ap, subst, ◌∙◌, arith}
use Rattle.std.specs.Io.KnownBytes.{Appends}
use Rattle.std.proofs.KnownBytes.{Appends-trans}
use Rattle.elaborate.specs.Plan.{plan_links}
use Rattle.plan_text.specs.PlanText.{plan_link_lines}
use Rattle.axi_program.proofs.PlanLaws.{links_before, plan_link_text}
use Rattle.axi_program.proofs.RunLaws.{on-err, prefix-later}
use Rattle.axi_program.proofs.TraceLaws.{over-front, over-more}
use Rattle.axi_program.proofs.plan.write_links.Goals as goal

pub returns-in_err-write_link-clause-err : goal.returns-in_err-write_link-clause-err
returns-in_err-write_link-clause-err g c =
    let plan = c.args.plan.now in
    let n = c.loop-number.number in
    let count = length (plan_links plan) in
    let within : n + 1 ≤ count = omega arith in
    let front = over-front (plan_link_text plan) (n + 1) count within in
    let whole = front.1 ∙ ap (λ (text : List ℕ). text ++ front.0) (over-more (plan_link_text plan) n) in
    on-err c.from_residual.result _
    (prefix-later (g.K.Sink.written c.args.sink.now) (g.K.Sink.written c.loop-number.sink) (g.K.Sink.written c.write_link.new.sink)
    (links_before plan n) (plan_link_text plan n) front.0 (plan_link_lines plan) c.loop-number.invariant.0 c.in_err-write_link.ensures.err whole)

pub loop-number-preserved : goal.loop-number-preserved
loop-number-preserved g c =
    let plan = c.args.plan.now in
    let n = c.loop-number.number in
    let all = Appends-trans (g.K.Sink.written c.args.sink.now) (g.K.Sink.written c.loop-number.sink) (g.K.Sink.written c.write_link.new.sink)
    (links_before plan n) (plan_link_text plan n) c.loop-number.invariant.0 c.in_ok-write_link.ensures.ok in
    let faults = c.loop-number.invariant.1 in
    let stays = c.in_ok-write_link.ensures.cause.stays in (
      subst (λ (text : List ℕ). Appends (g.K.Sink.written c.args.sink.now) (g.K.Sink.written c.write_link.new.sink) text) (sym (over-more (plan_link_text plan) n)) all,
      omega arith,
    )

pub returns-clause-ok : goal.returns-clause-ok
returns-clause-ok g c =
    let end : c.loop-number.number ≡ length (plan_links c.args.plan.now) = omega arith in
    subst (λ (n : ℕ). Appends (g.K.Sink.written c.args.sink.now) (g.K.Sink.written c.loop-number.sink) (links_before c.args.plan.now n)) end c.loop-number.invariant.0
