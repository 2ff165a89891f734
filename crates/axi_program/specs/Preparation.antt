-- What is said of words and a source before anything is written.
use Rattle.std.specs.Prelude.{◌≡◌, ◌<◌, ⊤, ℕ, List, [], Option, Some, ◌⊎◌, IfSome, length}
use Rattle.refusals.specs.Refusal.{refused_for}
use Rattle.refusals.specs.declared.cause.Cause.TheVariants.{InputTooLong}
use Rattle.command_words.specs.Chosen.{AreRefused, IsChosen}
use Rattle.command_words.specs.declared.choice.Choice.{Choice}
use Rattle.document.specs.Document.{input_limit}
use Rattle.axi_program.specs.Faults.{Rose}
use Rattle.axi_program.specs.Outcome.{Refuses, input_outcome}
use Rattle.axi_program.specs.Work.{IsReady, IsWorkOf}
use Rattle.axi_program.specs.declared.status.Stop.{Stop}
use Rattle.axi_program.specs.declared.status.Stop.TheVariants.{NoMemory, ReadFault, Usage}
use Rattle.axi_program.specs.declared.work.Work.{Work}

module _ {S : Type 0} (left : S → Option (List ℕ)) (source source' : S) where
  -- the source was read to its end
  abbrev pub IsReadWhole : Type 0
  IsReadWhole = IfSome (left source) (λ input. left source' ≡ Some [])

  -- its input is over the size
  abbrev pub IsTooLong : Type 0
  IsTooLong = IfSome (left source) (λ input. input_limit < length input)

-- The work is what the input comes to by the choice that the words are, where the source tells it. The source was read to
-- its end, except where the input is refused for its size.
pub record IsPrepared {S : Type 0} (words : List (List ℕ)) (left : S → Option (List ℕ)) (source source' : S) (work : Work) : Type 0 where
  pub choice : Choice
  pub chosen : IsChosen words choice
  pub ready : IsReady work
  pub told : IfSome (left source) (λ input. IsWorkOf (input_outcome choice input) work)
  pub read : IsReadWhole left source source' ⊎ (IsTooLong left source source' × IsWorkOf (Refuses (refused_for InputTooLong)) work)

-- the words are taken
abbrev pub AreTaken : List (List ℕ) → Type 0
AreTaken words = (choice : Choice) × IsChosen words choice

-- Nothing is to be written: the words are refused, and nothing was read; or they are taken, and reading failed; or memory
-- is wanting.
module _ {S : Type 0} (words : List (List ℕ)) (faults : S → ℕ) (source source' : S) where
  abbrev pub Stops : Stop → Type 0
  Stops Usage = AreRefused words × (source' ≡ source)
  Stops ReadFault = AreTaken words × Rose (faults source) (faults source')
  Stops NoMemory = ⊤
