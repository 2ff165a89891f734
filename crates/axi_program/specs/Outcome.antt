-- What an input comes to: what is written, and how the program ends.
use Rattle.std.specs.Prelude.{◌++◌, ℕ, List, Bool, Result, Ok, Err, length, nat_lt, not, if◌then◌else◌}
use Rattle.command_words.specs.declared.choice.Choice.{Choice}
use Rattle.command_words.specs.declared.choice.Task.{Task}
use Rattle.command_words.specs.declared.choice.Task.TheVariants.{Check, Plan, Run}
use Rattle.document.specs.Document.{Asked, Planned, document_of, input_limit, planned_of}
use Rattle.plan_text.specs.PlanText.{plan_text}
use Rattle.refusals.specs.Refusal.{refused_at, refused_for}
use Rattle.refusals.specs.declared.cause.Cause.TheVariants.{BadTraceLine as CauseBadTraceLine, InputTooLong, NotText}
use Rattle.refusals.specs.declared.refusal.Refusal.{Refusal}
use Rattle.std.specs.Str.{is_utf8}
use Rattle.axi_program.specs.Run.{opened_network, run_end, run_rounds}
use Rattle.axi_program.specs.Text.{broken_line, legal_line, refusal_line, run_text, separator_line, where_asked}
use Rattle.axi_program.specs.Trace.{trace_lines}
use Rattle.axi_program.specs.Status.{status_of_ending}
use Rattle.axi_program.specs.declared.status.Status.{Status}
use Rattle.axi_program.specs.declared.status.Ending.{Ending}
use Rattle.axi_program.specs.declared.status.Ending.TheVariants.{Broken as EndsBroken, Done, Refused}
use Rattle.trace_judge.specs.Verdicts.{verdict_of}
use Rattle.trace_judge.specs.declared.verdict.TraceFault.{TraceFault}
use Rattle.trace_judge.specs.declared.verdict.Verdict.{Verdict}
use Rattle.trace_judge.specs.declared.verdict.Verdict.TheVariants.{BadTraceLine, Broken, Legal}

-- An input is refused; or what is asked is done, and has a text; or a trace breaks a rule.
pub data Outcome : Type 0 where
  Refuses : Refusal → Outcome
  Answers : List ℕ → Outcome
  Breaks : TraceFault → Outcome

-- the trace of the links of its run
unfoldable pub run_trace : Asked → List ℕ
run_trace asked = trace_lines (run_rounds asked) (opened_network asked)

-- what the run of what is asked comes to
unfoldable pub run_outcome : Bool → Asked → Outcome
run_outcome trace asked = Answers (where_asked trace (run_trace asked) ++ (where_asked trace separator_line ++ run_text (run_end asked)))

abbrev pub outcome_by : Bool → Result Asked Refusal → Outcome
outcome_by trace (Err refusal) = Refuses refusal
outcome_by trace (Ok asked) = run_outcome trace asked

-- what a trace comes to, by the verdict on it
abbrev pub outcome_of : Verdict → Outcome
outcome_of (Legal lines) = Answers (legal_line lines)
outcome_of (Broken fault) = Breaks fault
outcome_of (BadTraceLine line) = Refuses (refused_at CauseBadTraceLine line)

-- what an input comes to that is to be judged as a trace
unfoldable pub check_outcome : List ℕ → Outcome
check_outcome input =
    if nat_lt input_limit (length input) then Refuses (refused_for InputTooLong)
    else if not (is_utf8 input) then Refuses (refused_for NotText)
    else outcome_of (verdict_of input)

-- what an input comes to that is to be run
unfoldable pub document_outcome : Bool → List ℕ → Outcome
document_outcome trace input = outcome_by trace (document_of input)

-- what is planned comes to its text
abbrev pub planned_outcome : Result Planned Refusal → Outcome
planned_outcome (Err refusal) = Refuses refusal
planned_outcome (Ok planned) = Answers (plan_text planned.nodes planned.bound)

-- what an input comes to that is to be planned
unfoldable pub plan_outcome : List ℕ → Outcome
plan_outcome input = planned_outcome (planned_of input)

-- what an input comes to, by the task
abbrev pub task_outcome : Task → Bool → List ℕ → Outcome
task_outcome Run trace input = document_outcome trace input
task_outcome Check trace input = check_outcome input
task_outcome Plan trace input = plan_outcome input

unfoldable pub input_outcome : Choice → List ℕ → Outcome
input_outcome choice input = task_outcome choice.task choice.trace input

-- the text of an outcome, which is all that is written
abbrev pub text_of : Outcome → List ℕ
text_of (Refuses refusal) = refusal_line refusal
text_of (Answers text) = text
text_of (Breaks fault) = broken_line fault

-- how a command ends that writes its text
abbrev pub ending_of : Outcome → Ending
ending_of (Refuses refusal) = Refused refusal
ending_of (Answers text) = Done
ending_of (Breaks fault) = EndsBroken fault

-- and with which status
abbrev pub status_of : Outcome → Status
status_of outcome = status_of_ending (ending_of outcome)
