-- The topology that a text tells, or why it is refused.
use Rattle.std.specs.Prelude.{◌≡◌, ◌+◌, ℕ, List, Option, Some, None, Result, Ok, Err, Bool, drop, find, length}
use Rattle.node_graph.specs.Graph.{numbers}
use Rattle.refusals.specs.Refusal.{refused_at}
use Rattle.refusals.specs.declared.cause.Cause.{Cause}
use Rattle.refusals.specs.declared.refusal.Refusal.{Refusal}
use Rattle.topology.specs.Document.{DocumentNode}
use Rattle.topology.specs.Refused.{checks, fault_of, first_cause}
pub use Rattle.topology_text.specs.Text.{IsTopologyFault}
use Rattle.topology_text.specs.Text.{nodes_of_text}

-- nodes that are refused are so by their number, counted from 1
abbrev pub or_refused : List DocumentNode → Option (Cause × ℕ) → Result (List DocumentNode) Refusal
or_refused nodes None = Ok nodes
or_refused nodes (Some fault) = Err (refused_at fault.0 (fault.1 + 1))

-- the nodes, where they are accepted
abbrev pub accepted_nodes : List DocumentNode → Result (List DocumentNode) Refusal
accepted_nodes nodes = or_refused nodes (fault_of nodes)

abbrev pub topology_in : Result (List DocumentNode) Refusal → Result (List DocumentNode) Refusal
topology_in (Ok nodes) = accepted_nodes nodes
topology_in (Err refusal) = Err refusal

-- the nodes that a text tells, or why it is refused
abbrev pub topology_of : List ℕ → Result (List DocumentNode) Refusal
topology_of text = topology_in (nodes_of_text text)

-- the first node that a cause holds of
abbrev pub first_with : (List DocumentNode → ℕ → Bool) → List DocumentNode → Option ℕ
first_with holds nodes = find (holds nodes) (numbers (length nodes))

-- the first so many causes hold of no node
abbrev pub IsPast : List DocumentNode → ℕ → Type 0
IsPast nodes count = fault_of nodes ≡ first_cause nodes (drop count checks)
