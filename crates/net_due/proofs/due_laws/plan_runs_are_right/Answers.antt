use Rattle.net_due.proofs.PlanRuns.{plan-runs_are_right}
use Rattle.net_due.proofs.due_laws.plan_runs_are_right.Goals as goal

pub returns : goal.returns
returns c = plan-runs_are_right
