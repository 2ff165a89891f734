-- One order's part in the making of the transactions.
use Rattle.std.specs.Prelude.{◌≡◌, ℕ, ◌+◌, ◌-◌, ◌<◌, ◌≤◌, List, [], ◌∷◌, ◌++◌, Option, None, Some, IfSome, length, slice_index_or, slice_set}
use Rattle.plan_traffic.specs.LineRefusals.{line_refusal, refusal_by, request_said}
use Rattle.plan_traffic.specs.Line.{Access, Line}
use Rattle.plan_traffic.specs.Orders.{Order, Holds, Issues, order_by}
use Rattle.plan_traffic.specs.Traffic.{TrafficItem, after_wait, none_yet, after_issue}
use Rattle.plan_traffic.specs.declared.build.Count.{Count}
use Rattle.topology_text.specs.Document.{DocumentNode}

-- the counts after an order
abbrev pub counts_after : List Count → Order → List Count
counts_after counts (Holds place) = slice_set counts place (after_wait (slice_index_or counts place none_yet))
counts_after counts (Issues place access) = slice_set counts place (after_issue (slice_index_or counts place none_yet))

-- a transaction with this number, for which so many others are awaited
abbrev pub item_of : ℕ → ℕ → ℕ → Access → TrafficItem
item_of number after place access = record {
  manager = place;
  txn = record { number = number; write = access.write; request = request_said access; after = after };
  bytes = access.bytes;
}

-- the transaction that an order gives, if it gives one
abbrev pub items_of : List Count → ℕ → Order → List TrafficItem
items_of counts number (Holds place) = []
items_of counts number (Issues place access) = item_of number (slice_index_or counts place none_yet).awaited place access ∷ []

-- the same for a line that asks for something or for nothing
abbrev pub counts_by : List Count → Option Order → List Count
counts_by counts None = counts
counts_by counts (Some order) = counts_after counts order

abbrev pub items_by : List Count → ℕ → Option Order → List TrafficItem
items_by counts number None = []
items_by counts number (Some order) = items_of counts number order

-- an order is for one of so many nodes, and the number of its beats fits a request
abbrev pub IsFitting : ℕ → Order → Type 0
IsFitting nodes (Holds place) = place < nodes
IsFitting nodes (Issues place access) = (place < nodes) × (access.beats - 1 ≤ 255)

-- how many beats it has, if it has any
abbrev pub beats_ordered : Option Order → ℕ
beats_ordered None = 0
beats_ordered (Some (Holds place)) = 0
beats_ordered (Some (Issues place access)) = access.beats

-- a line isn't refused, whatever its number
abbrev pub IsTaken : List DocumentNode → List ℕ → Type 0
IsTaken nodes line = (number : ℕ) → line_refusal nodes number line ≡ None

-- what a line says isn't refused; the transactions and the counts after it, and the number of its beats
pub record IsAdded (nodes : List DocumentNode) (said : Option Line) (items : List TrafficItem) (counts : List Count) (after : List TrafficItem) (later : List Count) (beats : ℕ) : Type 0 where
  pub taken : (number : ℕ) → refusal_by nodes number said ≡ None
  pub fits : IfSome (order_by nodes said) (IsFitting (length nodes))
  pub few : beats ≤ 256
  pub beats_are : beats ≡ beats_ordered (order_by nodes said)
  pub items_are : after ≡ items ++ items_by counts (length items + 1) (order_by nodes said)
  pub counts_are : later ≡ counts_by counts (order_by nodes said)
