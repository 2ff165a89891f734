-- What the lines ask of the managers, one after the other.
use Rattle.std.specs.Prelude.{ℕ, ◌+◌, ◌||◌, nat_lt, Bool, List, [], ◌∷◌, length, Option, None, Some, option_map}
use Rattle.std.specs.List.{filter_map}
use Rattle.plan_traffic.specs.Line.{Access, Line, Passed, Waits, Asks, line_said}
use Rattle.topology.specs.Wiring.{manager_named}
use Rattle.topology_text.specs.Document.{DocumentNode}

-- the manager at a place waits, or issues a burst
pub data Order : Type 0 where
  Holds : ℕ → Order
  Issues : ℕ → Access → Order

-- what is asked by what a line says, where the line has a form and names a manager
abbrev pub order_by : List DocumentNode → Option Line → Option Order
order_by nodes None = None
order_by nodes (Some Passed) = None
order_by nodes (Some (Waits name)) = option_map Holds (manager_named nodes name)
order_by nodes (Some (Asks access)) = option_map (λ place. Issues place access) (manager_named nodes access.start.manager)

-- what a line asks
unfoldable pub order_said : List DocumentNode → List ℕ → Option Order
order_said nodes line = order_by nodes (line_said line)

-- what all lines ask, less those that ask nothing
abbrev pub orders_of : List DocumentNode → List (List ℕ) → List Order
orders_of nodes lines = filter_map (order_said nodes) lines

-- the bursts that are issued
abbrev pub issued : List Order → List Access
issued [] = []
issued (Holds place ∷ more) = issued more
issued (Issues place access ∷ more) = access ∷ issued more

-- the number of all their beats
abbrev pub total_beats : List Access → ℕ
total_beats [] = 0
total_beats (access ∷ more) = access.beats + total_beats more

-- how many transactions and how many beats a traffic has at most
abbrev pub most_transactions : ℕ
most_transactions = 16384

abbrev pub most_beats : ℕ
most_beats = 262144

-- there are more transactions or more beats than that
abbrev pub is_too_much : List Access → Bool
is_too_much bursts = nat_lt most_transactions (length bursts) || nat_lt most_beats (total_beats bursts)
