use Rattle.std.proofs.Common.{◌++◌, [], append-nil, sym}
use Rattle.axi_program.proofs.RunLaws.{on-err-map, prefix-later}
use Rattle.axi_program.specs.DeviceBytes.{AppendsPrefix}
use Rattle.plan_text.specs.PlanText.{bound_line, plan_link_lines}
use Rattle.axi_program.proofs.plan.write_rest.Goals as goal

pub returns-clause-err : goal.returns-clause-err
returns-clause-err g c =
    let lines = plan_link_lines c.args.plan.now in
    let last = bound_line c.args.bound in
    on-err-map c.write_bound.result _ _
    (λ (part : AppendsPrefix (g.K.Sink.written c.write_links.new.sink) (g.K.Sink.written c.write_bound.new.sink) last).
    prefix-later (g.K.Sink.written c.args.sink.now) (g.K.Sink.written c.write_links.new.sink) (g.K.Sink.written c.write_bound.new.sink) lines last [] (lines ++ last)
    c.in_ok-write_links.ensures.ok part (sym (append-nil (lines ++ last))))
    c.write_bound.ensures.err
