-- What is said in one line, as an outcome.
use Rattle.axi_program.specs.Outcome.{Outcome, Answers, Breaks, Refuses}
use Rattle.axi_program.specs.Text.{legal_line}
use Rattle.axi_program.specs.declared.report.Report.{Report}
use Rattle.axi_program.specs.declared.report.Report.TheVariants.{Broken, Legal, Refused}

abbrev pub report_outcome : Report → Outcome
report_outcome (Refused refusal) = Refuses refusal
report_outcome (Legal lines) = Answers (legal_line lines)
report_outcome (Broken fault) = Breaks fault
