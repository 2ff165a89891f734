-- What the plan of every document tells of its run.
use Rattle.std.specs.Prelude.{◌≡◌, ℕ, List, Ok, Some}
use Rattle.document.specs.Document.{Asked, document_of}
use Rattle.axi_program.specs.Outcome.{Answers, plan_outcome}
use Rattle.axi_program.specs.Run.{bound}
use Rattle.plan_text.specs.PlanText.{plan_text}

-- The plan of a document that is accepted is that of its nodes, with the bound within which its run ends.
abbrev pub PlansTellBounds : Type 0
PlansTellBounds = (input : List ℕ) (asked : Asked) → document_of input ≡ Ok asked → plan_outcome input ≡ Answers (plan_text asked.nodes (Some (bound asked)))
