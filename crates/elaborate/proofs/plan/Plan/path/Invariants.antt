use Rattle.std.proofs.Common.{◌≡◌, ◌≤◌, length}
use Rattle.elaborate.specs.Plan.{plan_nodes}
use Rattle.elaborate.proofs.PathSteps.{IsOnPath}
use Rattle.elaborate.proofs.plan.Plan.path.Given as goal

abbrev pub invariant-loop-step : goal.invariant-loop-step
invariant-loop-step l = record {
  on : IsOnPath l.self l.manager l.addr l.node l._step;
  passed : l.passed ≡ l._step;
  few : l._step ≤ length (plan_nodes l.self);
}
