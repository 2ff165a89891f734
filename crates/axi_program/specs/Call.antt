-- What the top call says by its status.
use Rattle.std.specs.Prelude.{◌≡◌, ℕ, List, Option, ◌⊎◌, IfSome}
use Rattle.command_words.specs.Chosen.{AreRefused, IsChosen}
use Rattle.command_words.specs.declared.choice.Choice.{Choice}
use Rattle.axi_program.specs.DeviceBytes.{AppendsPrefix}
use Rattle.axi_program.specs.Faults.{Rose}
use Rattle.axi_program.specs.Outcome.{Outcome, input_outcome, status_of, text_of}
use Rattle.axi_program.specs.Preparation.{AreTaken, IsReadWhole, IsTooLong}
use Rattle.axi_program.specs.declared.status.Status.{Status}
use Rattle.axi_program.specs.declared.status.Status.TheVariants.{Usage, Refused, ReadFault, WriteFault, NoMemory}
use Rattle.refusals.specs.Refusal.{refused_for}
use Rattle.refusals.specs.declared.cause.Cause.TheVariants.{InputTooLong}
use Rattle.std.specs.Io.KnownBytes.{Appends}

module _ {S K : Type 0} (words : List (List ℕ)) (left : S → Option (List ℕ)) (reading : S → ℕ) (written : K → Option (List ℕ)) (writing : K → ℕ) (source source' : S) (sink sink' : K) where
  -- of the choice that the words are: what the input comes to by it is so, where the source tells the input
  abbrev pub OfOutcome : (Outcome → Type 0) → Type 0
  OfOutcome P = (choice : Choice) × IsChosen words choice × IfSome (left source) (λ input. P (input_outcome choice input))

  -- the status is the outcome's, and its whole text was written
  abbrev pub Came : Status → Type 0
  Came status = OfOutcome (λ outcome. (status ≡ status_of outcome) × Appends (written sink) (written sink') (text_of outcome))

  -- only a part of its text was written
  abbrev pub IsCutOff : Type 0
  IsCutOff = OfOutcome (λ outcome. AppendsPrefix (written sink) (written sink') (text_of outcome))

  -- Usage: the words are refused, and nothing was read or written. ReadFault: they are taken, the source's count of faults
  -- rose, and nothing was written. WriteFault: the sink's count rose, and only a part was written. NoMemory: nothing was
  -- written. All others: what the input comes to was written whole.
  abbrev pub Tells : Status → Type 0
  Tells Usage = AreRefused words × (source' ≡ source) × (sink' ≡ sink)
  Tells ReadFault = AreTaken words × Rose (reading source) (reading source') × (sink' ≡ sink)
  Tells WriteFault = Rose (writing sink) (writing sink') × IsCutOff
  Tells NoMemory = sink' ≡ sink
  Tells status = Came status

module _ {S : Type 0} (left : S → Option (List ℕ)) (source source' : S) where
  -- The source was read to its end where the status tells what the input comes to, except where the input is refused for
  -- its size or its refusal isn't written whole.
  abbrev pub ReadsWhole : Status → Type 0
  ReadsWhole Usage = Unit {0}
  ReadsWhole ReadFault = Unit {0}
  ReadsWhole NoMemory = Unit {0}
  ReadsWhole (Refused refusal) = IsReadWhole left source source' ⊎ ((refusal ≡ refused_for InputTooLong) × IsTooLong left source source')
  ReadsWhole WriteFault = IsReadWhole left source source' ⊎ IsTooLong left source source'
  ReadsWhole status = IsReadWhole left source source'

-- Where no count rises, the words are refused, or the status is that of what the input comes to by the choice that they
-- are, or memory was wanting.
abbrev pub IsComplete : List (List ℕ) → Option (List ℕ) → Status → Type 0
IsComplete words left status =
    (status ≡ NoMemory) ⊎ (AreRefused words × (status ≡ Usage))
    ⊎ ((choice : Choice) × IsChosen words choice × IfSome left (λ input. status ≡ status_of (input_outcome choice input)))
