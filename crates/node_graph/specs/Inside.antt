-- What a graph keeps beside the nodes below each node.
use Rattle.std.specs.Prelude.{◌≡◌, ◌<◌, ◌^◌, ℕ, List, [], ◌∷◌, ◌++◌, cond, filter, length, slice_index_or}
use Rattle.node_graph.specs.Graph.{Graph, is_in, nodes_below, numbers}
use Rattle.node_graph.specs.Simple.{IsSimple, lists_in}
use Rattle.node_graph.specs.declared.graph.NodeGraph.TheInside.{Inside}

abbrev pub graph_in : Inside → Graph
graph_in kept = lists_in kept.below.items

-- lists, one for each node, of those of the first so many nodes that are above it
pub record HasAbove (graph : Graph) (uppers : ℕ) (lists : List (List ℕ)) : Type 0 where
  pub long : length lists ≡ length graph
  pub each : (node : ℕ) → node < length graph → slice_index_or lists node [] ≡ filter (λ upper. is_in (nodes_below graph upper) node) (numbers uppers)

-- the lists of these nodes have one more number at their ends, and the others are as before
pub record AddsUpper (lowers : List ℕ) (upper : ℕ) (before after : List (List ℕ)) : Type 0 where
  pub long : length after ≡ length before
  pub each : (node : ℕ) → node < length before → slice_index_or after node [] ≡ slice_index_or before node [] ++ (cond (is_in lowers node) (upper ∷ []) [])

pub record IsNodeGraph (kept : Inside) : Type 0 where
  pub simple : IsSimple (graph_in kept)
  pub above : HasAbove (graph_in kept) (length (graph_in kept)) (lists_in kept.above.items)
  pub few : length (graph_in kept) < 2 ^ 32
