use Rattle.std.proofs.Common.{◌≡◌, ◌++◌, [], ℕ, List, Option, append-nil, refl, subst, sym, ◌∙◌}
use Rattle.std.specs.Io.KnownBytes.{Appends}
use Rattle.std.proofs.KnownBytes.{Appends-trans}
use Rattle.axi_program.proofs.RunLaws.{on-err, prefix-later, prefix-whole}
use Rattle.axi_program.specs.DeviceBytes.{AppendsPrefix}
use Rattle.plan_text.specs.PlanText.{bound_line, plan_link_lines, plan_node_lines, plan_text}
use Rattle.topology_text.specs.Document.{DocumentNode}
use Rattle.axi_program.proofs.plan.write_plan.Goals as goal

text-is : (nodes : List DocumentNode) (bound : Option ℕ) → plan_text nodes bound ≡ plan_node_lines nodes ++ (plan_link_lines nodes ++ bound_line bound)
unfolding plan_text
text-is nodes bound = refl

pub returns-in_err-write_nodes-clause-err : goal.returns-in_err-write_nodes-clause-err
returns-in_err-write_nodes-clause-err g c =
    let plan = c.args.plan.now in
    on-err c.from_residual.result _
    (prefix-whole (g.K.Sink.written c.args.sink.now) (g.K.Sink.written c.write_nodes.new.sink) (plan_node_lines plan) (plan_link_lines plan ++ bound_line c.args.bound) (plan_text plan c.args.bound)
    c.in_err-write_nodes.ensures.err (text-is plan c.args.bound))

pub returns-in_err-write_rest-clause-err : goal.returns-in_err-write_rest-clause-err
returns-in_err-write_rest-clause-err g c =
    let plan = c.args.plan.now in
    let lines = plan_node_lines plan in
    let rest = plan_link_lines plan ++ bound_line c.args.bound in
    on-err c.from_residual-in_err-write_rest.result _
    (prefix-later (g.K.Sink.written c.args.sink.now) (g.K.Sink.written c.write_nodes.new.sink) (g.K.Sink.written c.write_rest.new.sink) lines rest [] (plan_text plan c.args.bound)
    c.in_ok-write_nodes.ensures.ok c.in_err-write_rest.ensures.err (text-is plan c.args.bound ∙ sym (append-nil (lines ++ rest))))

pub returns-clause-ok : goal.returns-clause-ok
returns-clause-ok g c =
    let plan = c.args.plan.now in
    subst (λ (text : List ℕ). Appends (g.K.Sink.written c.args.sink.now) (g.K.Sink.written c.write_rest.new.sink) text) (sym (text-is plan c.args.bound))
    (Appends-trans (g.K.Sink.written c.args.sink.now) (g.K.Sink.written c.write_nodes.new.sink) (g.K.Sink.written c.write_rest.new.sink) (plan_node_lines plan)
    (plan_link_lines plan ++ bound_line c.args.bound) c.in_ok-write_nodes.ensures.ok c.in_ok-write_rest.ensures.ok)
