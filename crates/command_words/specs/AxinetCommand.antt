-- What `clap` is told of the program: one required word that names the task, and four options.
use Rattle.std.specs.Prelude.{◌≡◌, ◌∷◌, [], ℕ, List, true, Some, map, codes}
use Rattle.std.specs.Borrow.{Bor}
use Rattle.clap.specs.Simple.{App, new_app, new_rule, with_rule}
use Rattle.clap.specs.Walk.{Rule}
use Rattle.clap.specs.declared.builder.value_parser.ValueParser.TheVariants.{Names, Unsigned}

-- the texts that a value may be, where they lie in memory
abbrev pub PossibleValues : Type 0
PossibleValues = Bor (List (Bor (List ℕ)))

-- these are the texts
abbrev pub Spell : PossibleValues → List (List ℕ) → Type 0
Spell values texts = map (λ value. value.now) values.now ≡ texts

abbrev pub task_names : List (List ℕ)
task_names = codes "run" ∷ codes "check" ∷ codes "plan" ∷ []

abbrev pub trace_names : List (List ℕ)
trace_names = codes "none" ∷ codes "all" ∷ []

-- the task: a word without an option's name, which has to be there
abbrev pub task_rule : PossibleValues → Rule
task_rule values = record (new_rule (codes "command")) { required = true; parser = Some (Names values) }

-- an option with a number from `low` to `high`, and the text that stands for it where it isn't given
abbrev pub number_rule : List ℕ → ℕ → ℕ → List ℕ → Rule
number_rule name low high default = record (new_rule name) { long = Some name; parser = Some (Unsigned low high); defaults = default ∷ [] }

abbrev pub workers_rule : Rule
workers_rule = number_rule (codes "workers") 1 64 (codes "1")

abbrev pub trace_rule : PossibleValues → Rule
trace_rule values = record (new_rule (codes "trace")) { long = Some (codes "trace"); parser = Some (Names values); defaults = codes "none" ∷ [] }

abbrev pub seed_rule : Rule
seed_rule = number_rule (codes "seed") 0 18446744073709551615 (codes "0")

abbrev pub size_rule : Rule
size_rule = number_rule (codes "size") 1 16384 (codes "100")

abbrev pub axinet_app : PossibleValues → PossibleValues → App
axinet_app tasks traces =
    with_rule (with_rule (with_rule (with_rule (with_rule (new_app (codes "axinet")) (task_rule tasks)) workers_rule) (trace_rule traces)) seed_rule) size_rule

-- the program's command, wherever its texts lie in memory
pub record IsAxinet (app : App) : Type 0 where
  pub tasks : PossibleValues
  pub traces : PossibleValues
  pub tasks_are : Spell tasks task_names
  pub traces_are : Spell traces trace_names
  pub is : app ≡ axinet_app tasks traces
