use Rattle.std.proofs.Common.{◌≡◌, ◌∙◌, ap, codes}
use Rattle.std.proofs.lemmas.Result.{IfOk-weaker}
use Rattle.clap.specs.Built.{AddsArg}
use Rattle.clap.specs.Simple.{App, app_of, new_app, with_rule}
use Rattle.clap.specs.Walk.{Rule, rule_of}
use Rattle.command_words.specs.AxinetCommand.{IsAxinet, seed_rule, size_rule, task_rule, trace_rule, workers_rule}
use Rattle.command_words.proofs.command.axinet_command.Goals as goal

-- one more argument of a known rule
with_one : (old new : App) (rule known : Rule) (front : App) → new ≡ with_rule old rule → rule ≡ known → old ≡ front → new ≡ with_rule front known
with_one old new rule known front added is before = added ∙ ap (λ r. with_rule old r) is ∙ ap (λ a. with_rule a known) before

pub returns : goal.returns
returns c =
    let tasks = c.task_arg.ensures.rule.0 in
    let traces = c.trace_arg.ensures.rule.0 in
    let first : app_of c.in_ok-arg.field-0 ≡ with_rule (new_app (codes "axinet")) (task_rule tasks) =
    with_one (app_of c.new.result) (app_of c.in_ok-arg.field-0) (rule_of c.task_arg.result) (task_rule tasks) (new_app (codes "axinet"))
    (c.in_ok-arg.ensures.shape c.task_arg.ensures.local) c.task_arg.ensures.rule.2 c.new.ensures.app in
    let second : app_of c.in_ok-arg-2.field-0 ≡ with_rule (with_rule (new_app (codes "axinet")) (task_rule tasks)) workers_rule =
    with_one (app_of c.in_ok-arg.field-0) (app_of c.in_ok-arg-2.field-0) (rule_of c.workers_arg.result) workers_rule _
    (c.in_ok-arg-2.ensures.shape c.workers_arg.ensures.local) c.workers_arg.ensures.rule first in
    let third : app_of c.in_ok-arg-3.field-0 ≡ with_rule (with_rule (with_rule (new_app (codes "axinet")) (task_rule tasks)) workers_rule) (trace_rule traces) =
    with_one (app_of c.in_ok-arg-2.field-0) (app_of c.in_ok-arg-3.field-0) (rule_of c.trace_arg.result) (trace_rule traces) _
    (c.in_ok-arg-3.ensures.shape c.trace_arg.ensures.local) c.trace_arg.ensures.rule.2 second in
    let fourth : app_of c.in_ok-arg-4.field-0 ≡ with_rule (with_rule (with_rule (with_rule (new_app (codes "axinet")) (task_rule tasks)) workers_rule) (trace_rule traces)) seed_rule =
    with_one (app_of c.in_ok-arg-3.field-0) (app_of c.in_ok-arg-4.field-0) (rule_of c.seed_arg.result) seed_rule _
    (c.in_ok-arg-4.ensures.shape c.seed_arg.ensures.local) c.seed_arg.ensures.rule third in
    IfOk-weaker c.arg-5.result (AddsArg c.in_ok-arg-4.field-0 c.size_arg.result) (λ command. IsAxinet (app_of command)) (λ command added. record {
      tasks = tasks;
      traces = traces;
      tasks_are = c.task_arg.ensures.rule.1;
      traces_are = c.trace_arg.ensures.rule.1;
      is = with_one (app_of c.in_ok-arg-4.field-0) (app_of command) (rule_of c.size_arg.result) size_rule _ (added.shape c.size_arg.ensures.local) c.size_arg.ensures.rule fourth;
    }) c.arg-5.ensures
