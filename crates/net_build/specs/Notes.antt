-- Where the answers to transactions are noted.
use Rattle.std.specs.Prelude.{ℕ, List}
use Rattle.elaborate.specs.Plan.{first_part}
use Rattle.net_build.specs.Noted.{manager_of_place, script_place}
use Rattle.net_build.specs.declared.notes.Note.{Note}
use Rattle.plan_traffic.specs.Traffic.{TrafficItem}
use Rattle.topology.specs.Document.{DocumentNode}

-- the plan node of a transaction's manager and the place in the script, by its place among all transactions, counted from 0
abbrev pub note_of : List DocumentNode → List TrafficItem → ℕ → Note
note_of nodes items place = record { node = first_part nodes (manager_of_place items place); place = script_place items place }
