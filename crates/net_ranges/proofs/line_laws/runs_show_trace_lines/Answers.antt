use Rattle.net_ranges.proofs.PortLemmas.{runs-show_lines}
use Rattle.net_ranges.proofs.line_laws.runs_show_trace_lines.Goals as goal

pub returns : goal.returns
returns c = runs-show_lines
