-- The work that is left when an input is read: the text of an outcome, and how the program ends when it is written.
use Rattle.std.specs.Prelude.{◌≡◌, ℕ, List, Option, Result, IfOk, OnErr, OnOk}
use Rattle.std.specs.Io.KnownBytes.{Appends}
use Rattle.axi_program.specs.DeviceBytes.{AppendsPrefix}
use Rattle.axi_program.specs.Opening.{IsOpening, asked_by}
use Rattle.axi_program.specs.Outcome.{Answers, Outcome, ending_of, run_outcome, text_of}
use Rattle.axi_program.specs.declared.status.Ending.{Ending}
use Rattle.document.specs.Document.{Asked}
use Rattle.axi_program.specs.declared.work.Work.{Work}
use Rattle.axi_program.specs.declared.work.Work.TheVariants.{Plan, Run, Say}
use Rattle.plan_text.specs.PlanText.{plan_text}

-- the work that an outcome asks for: the line is its text, or the plan and the bound are those whose text it is, or the network
-- is the one whose run it is
abbrev pub IsWorkOf : Outcome → Work → Type 0
IsWorkOf outcome (Say line ending) = (line ≡ text_of outcome) × (ending ≡ ending_of outcome)
IsWorkOf outcome (Plan plan bound line) = outcome ≡ Answers (plan_text plan bound)
IsWorkOf outcome (Run net line trace) = IsOpening net × (outcome ≡ run_outcome trace (asked_by net))

-- some outcome asks for it
abbrev pub IsReady : Work → Type 0
IsReady work = (outcome : Outcome) × IsWorkOf outcome work

-- How work ends: with the outcome's ending, and its whole text is written; or a write failed, and only a part of the
-- text is written.
pub record Concludes {K E : Type 0} (written : K → Option (List ℕ)) (outcome : Outcome) (before after : K) (result : Result Ending E) : Type 0 where
  pub ending : IfOk result (λ ending. ending ≡ ending_of outcome)
  pub whole : OnOk result (Appends (written before) (written after) (text_of outcome))
  pub part : OnErr result (AppendsPrefix (written before) (written after) (text_of outcome))
