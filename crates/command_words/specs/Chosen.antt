-- The choice that a line of words is, where `clap` takes it.
use Rattle.std.specs.Prelude.{◌≡◌, ◌≢◌, [], ℕ, Bool, List, Option, Some, None, codes, bytes_eq, option_and_then, unwrap_or, if◌then◌else◌}
use Rattle.std.specs.Str.Parse.{digits_value, without_leading_plus}
use Rattle.clap.specs.Faults.{fault_of}
use Rattle.clap.specs.Simple.{App, matches_of}
use Rattle.clap.specs.ValueTests.{is_unsigned_in}
use Rattle.clap.specs.Walk.{Row, first_of}
use Rattle.command_words.specs.AxinetCommand.{IsAxinet}
use Rattle.command_words.specs.declared.choice.Choice.{Choice}
use Rattle.command_words.specs.declared.choice.Task.{Task}
use Rattle.command_words.specs.declared.choice.Task.TheVariants.{Check, Plan, Run}

-- the number that a text is, where it is one from `low` to `high`
abbrev pub number_within : ℕ → ℕ → List ℕ → Option ℕ
number_within low high text = if is_unsigned_in low high text then Some (digits_value 10 (without_leading_plus text)) else None

-- the number of an option, and the default where it has none
abbrev pub number_or : ℕ → ℕ → ℕ → Option (List ℕ) → ℕ
number_or low high default text = unwrap_or (option_and_then (number_within low high) text) default

-- the text is this name
abbrev pub has_text : List ℕ → Option (List ℕ) → Bool
has_text name text = bytes_eq (unwrap_or text []) name

abbrev pub task_of : Option (List ℕ) → Task
task_of text = if has_text (codes "check") text then Check else if has_text (codes "plan") text then Plan else Run

-- the choice in the values that `clap` found for the arguments
abbrev pub choice_in : List Row → Choice
choice_in rows = record {
  task = task_of (first_of (codes "command") rows);
  workers = number_or 1 64 1 (first_of (codes "workers") rows);
  trace = has_text (codes "all") (first_of (codes "trace") rows);
  seed = number_or 0 18446744073709551615 0 (first_of (codes "seed") rows);
  size = number_or 1 16384 100 (first_of (codes "size") rows);
}

-- `clap` takes the words, and this is the choice that it finds in them
pub record IsChosen (words : List (List ℕ)) (choice : Choice) : Type 0 where
  pub app : App
  pub is : IsAxinet app
  pub takes : fault_of app words ≡ []
  pub choice_is : choice ≡ choice_in (matches_of app words)

-- `clap` refuses the words
pub record AreRefused (words : List (List ℕ)) : Type 0 where
  pub app : App
  pub is : IsAxinet app
  pub refuses : fault_of app words ≢ []
