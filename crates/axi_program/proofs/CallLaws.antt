-- What the top call's parts tell of the whole.
use Rattle.std.proofs.Common.{◌≡◌, ◌<◌, ◌≤◌, ℕ, List, [], Option, Some, None, Bool, true, false, length, refl, sym, ap, ◌∙◌, subst, inl, inr}
use Rattle.std.specs.Prelude.{Err, IfSome, Ok, Result}
use Rattle.std.proofs.lemmas.Bool.{le-ltb, lt-ltb}
use Rattle.std.specs.Io.KnownBytes.{Appends}
use Rattle.std.specs.Str.{is_utf8}
use Rattle.command_words.specs.declared.choice.Choice.{Choice}
use Rattle.command_words.specs.declared.choice.Task.{Task}
use Rattle.command_words.specs.declared.choice.Task.TheVariants.{Check, Plan, Run}
use Rattle.document.specs.Document.{Asked, Planned, document_of, input_limit, planned_of}
use Rattle.refusals.specs.Refusal.{refused_for}
use Rattle.refusals.specs.declared.cause.Cause.TheVariants.{InputTooLong, NotText}
use Rattle.refusals.specs.declared.refusal.Refusal.{Refusal}
use Rattle.axi_program.specs.Call.{Came, IsComplete, IsCutOff, ReadsWhole, Tells}
use Rattle.axi_program.specs.DeviceBytes.{AppendsPrefix, IsOver, IsWhole}
use Rattle.axi_program.specs.Outcome.{Outcome, Refuses, check_outcome, document_outcome, ending_of, input_outcome, outcome_by, outcome_of, plan_outcome, planned_outcome, run_outcome, status_of, task_outcome, text_of}
use Rattle.axi_program.specs.Preparation.{IsPrepared, IsReadWhole}
use Rattle.axi_program.specs.Status.{status_of_ending}
use Rattle.axi_program.specs.Work.{IsWorkOf}
use Rattle.axi_program.specs.declared.status.Ending.{Ending}
use Rattle.axi_program.specs.declared.status.Ending.TheVariants.{Broken as EndsBroken, Done as EndsDone, Refused as EndsRefused}
use Rattle.axi_program.specs.declared.work.Work.{Work}
use Rattle.trace_judge.specs.Verdicts.{verdict_of}

-- an input that is accepted comes to its run, and one that is refused to its refusal
pub outcome-of : (trace : Bool) (input : List ℕ) (read : Result Asked Refusal) → document_of input ≡ read → outcome_by trace read ≡ document_outcome trace input
unfolding document_outcome
outcome-of trace input read is = sym (ap (outcome_by trace) is)

pub planned-outcome : (input : List ℕ) (read : Result Planned Refusal) → planned_of input ≡ read → planned_outcome read ≡ plan_outcome input
unfolding plan_outcome
planned-outcome input read is = sym (ap planned_outcome is)

-- what a choice comes to, by its task
pub outcome-task : (choice : Choice) (input : List ℕ) (task : Task) → choice.task ≡ task → task_outcome task choice.trace input ≡ input_outcome choice input
unfolding input_outcome
outcome-task choice input task is = sym (ap (λ (t : Task). task_outcome t choice.trace input) is)

-- a text of a size that is taken comes to the verdict on it, and one that isn't UTF-8 is refused
pub check-judges : (input : List ℕ) → length input ≤ input_limit → is_utf8 input ≡ true → outcome_of (verdict_of input) ≡ check_outcome input
unfolding check_outcome
check-judges input within text = rw (le-ltb input_limit (length input) within, text) refl

pub check-refuses : (input : List ℕ) → length input ≤ input_limit → is_utf8 input ≡ false → Refuses (refused_for NotText) ≡ check_outcome input
unfolding check_outcome
check-refuses input within no_text = rw (le-ltb input_limit (length input) within, no_text) refl

-- an input over the size is refused for it
task-over : (task : Task) (trace : Bool) (input : List ℕ) → input_limit < length input → Refuses (refused_for InputTooLong) ≡ task_outcome task trace input
unfolding document_outcome check_outcome plan_outcome
task-over Run trace input over = rw (lt-ltb input_limit (length input) over) refl
task-over Check trace input over = rw (lt-ltb input_limit (length input) over) refl
task-over Plan trace input over = rw (lt-ltb input_limit (length input) over) refl

pub outcome-over : (choice : Choice) (input : List ℕ) → input_limit < length input → Refuses (refused_for InputTooLong) ≡ input_outcome choice input
unfolding input_outcome
outcome-over choice input over = task-over choice.task choice.trace input over

module _ {X : Type 0} where
  -- what holds of each that may be there holds also of one more
  pub map-some : (o : Option X) (P Q : X → Type 0) → ((x : X) → P x → Q x) → IfSome o P → IfSome o Q
  map-some None P Q step holds = tt
  map-some (Some x) P Q step holds = step x holds

-- a text that was read whole is what was left, and nothing is left
pub whole-told : (before now : Option (List ℕ)) (text : List ℕ) (P : List ℕ → Type 0) → IsWhole before now text → P text → IfSome before P
whole-told None now text P whole holds = tt
whole-told (Some all) now text P whole holds = subst P whole.0 holds

pub whole-read : (before now : Option (List ℕ)) (text : List ℕ) → IsWhole before now text → IfSome before (λ all. now ≡ Some [])
whole-read None now text whole = tt
whole-read (Some all) now text whole = whole.1

-- what a choice makes of an input over the size is its refusal
pub told-over : (choice : Choice) (work : Work) (left : Option (List ℕ)) → IsOver input_limit left → IsWorkOf (Refuses (refused_for InputTooLong)) work → IfSome left (λ input. IsWorkOf (input_outcome choice input) work)
told-over choice work left over is =
    map-some left (λ input. input_limit < length input) (λ input. IsWorkOf (input_outcome choice input) work)
    (λ input long. subst (λ (o : Outcome). IsWorkOf o work) (outcome-over choice input long) is) over

module _ {S : Type 0} (left : S → Option (List ℕ)) (source source' : S) (words : List (List ℕ)) (work : Work) (prepared : IsPrepared words left source source' work) where
  -- a source that was read for work that was done was read whole
  pub done-reads : (ending : Ending) → ((outcome : Outcome) → IsWorkOf outcome work → ending ≡ ending_of outcome) → ReadsWhole left source source' (status_of_ending ending)
  done-reads ending is =
      let whole : (ending : Ending) → IsReadWhole left source source' → ReadsWhole left source source' (status_of_ending ending) =
      λ ending. elim ending as (λ ending. IsReadWhole left source source' → ReadsWhole left source source' (status_of_ending ending)) [
        | EndsDone ↦ λ read. read
        | EndsRefused refusal ↦ λ read. inl read
        | EndsBroken fault ↦ λ read. read
      ]
      in elim prepared.read as (λ _. ReadsWhole left source source' (status_of_ending ending)) [
        | inl read ↦ whole ending read
        | inr long ↦ subst (λ (e : Ending). ReadsWhole left source source' (status_of_ending e)) (sym (is (Refuses (refused_for InputTooLong)) long.1)) (inr (refl, long.0))
      ]

  -- what is said of each outcome that asks for the work is said of what the input comes to
  of-outcome : (P : Outcome → Type 0) → ((outcome : Outcome) → IsWorkOf outcome work → P outcome) → IfSome (left source) (λ input. P (input_outcome prepared.choice input))
  of-outcome P each =
      map-some (left source) (λ input. IsWorkOf (input_outcome prepared.choice input) work) (λ input. P (input_outcome prepared.choice input)) (λ input of. each (input_outcome prepared.choice input) of) prepared.told

  -- the status of work that was done is that of what the input comes to
  pub done-complete : (ending : Ending) → ((outcome : Outcome) → IsWorkOf outcome work → ending ≡ ending_of outcome) → IsComplete words (left source) (status_of_ending ending)
  done-complete ending ends =
      inr (inr (prepared.choice, prepared.chosen, of-outcome (λ outcome. status_of_ending ending ≡ status_of outcome) (λ outcome of. ap status_of_ending (ends outcome of))))

  module _ {K : Type 0} (reading : S → ℕ) (written : K → Option (List ℕ)) (writing : K → ℕ) (sink sink' : K) where
    -- and its text was written whole
    pub done-tells :
        (ending : Ending) → ((outcome : Outcome) → IsWorkOf outcome work → ending ≡ ending_of outcome) →
        ((outcome : Outcome) → IsWorkOf outcome work → Appends (written sink) (written sink') (text_of outcome)) →
        Tells words left reading written writing source source' sink sink' (status_of_ending ending)
    done-tells ending ends whole =
        let tells : (ending : Ending) → Came words left reading written writing source source' sink sink' (status_of_ending ending) →
        Tells words left reading written writing source source' sink sink' (status_of_ending ending) =
        λ ending. elim ending as (λ ending. Came words left reading written writing source source' sink sink' (status_of_ending ending) → Tells words left reading written writing source source' sink sink' (status_of_ending ending)) [
          | EndsDone ↦ λ came. came
          | EndsRefused refusal ↦ λ came. came
          | EndsBroken fault ↦ λ came. came
        ]
        in tells ending (
          prepared.choice,
          prepared.chosen,
          of-outcome (λ outcome. (status_of_ending ending ≡ status_of outcome) × Appends (written sink) (written sink') (text_of outcome)) (λ outcome of. (ap status_of_ending (ends outcome of), whole outcome of)),
        )

    -- of work that was cut off only a part was written
    pub cut-off :
        ((outcome : Outcome) → IsWorkOf outcome work → AppendsPrefix (written sink) (written sink') (text_of outcome)) →
        IsCutOff words left reading written writing source source' sink sink'
    cut-off part = (prepared.choice, prepared.chosen, of-outcome (λ outcome. AppendsPrefix (written sink) (written sink') (text_of outcome)) part)
