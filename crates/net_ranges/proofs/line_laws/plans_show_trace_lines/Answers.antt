use Rattle.net_ranges.proofs.PlanLemmas.{plans-show_lines}
use Rattle.net_ranges.proofs.line_laws.plans_show_trace_lines.Goals as goal

pub returns : goal.returns
returns c = plans-show_lines
