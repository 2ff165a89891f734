-- The verdict on a trace.
use Rattle.std.specs.Prelude.{ℕ, List, Option, Some, None, Result, Ok, Err, length}
use Rattle.axi_history.specs.declared.port.PortRound.{PortRound}
use Rattle.trace_judge.specs.Histories.{first_broken}
use Rattle.trace_judge.specs.Lines.{judged_lines, shown_by}
use Rattle.trace_judge.specs.declared.verdict.TraceFault.{TraceFault}
use Rattle.trace_judge.specs.declared.verdict.Verdict.{Verdict}
use Rattle.trace_judge.specs.declared.verdict.Verdict.TheVariants.{BadTraceLine, Broken, Legal}

-- where a rule is broken, the first fault
abbrev pub verdict_of_rules : ℕ → Option TraceFault → Verdict
verdict_of_rules lines None = Legal lines
verdict_of_rules lines (Some fault) = Broken fault

-- where a line is refused, the first such line
abbrev pub verdict_of_lines : Result (List PortRound) ℕ → Verdict
verdict_of_lines (Err line) = BadTraceLine line
verdict_of_lines (Ok lines) = verdict_of_rules (length lines) (first_broken lines)

-- A line that is refused goes before a broken rule.
abbrev pub verdict_of : List ℕ → Verdict
verdict_of text = verdict_of_lines (shown_by (judged_lines text))
