-- Graphs that a program keeps, and orders in which their nodes can be visited.
use Rattle.std.specs.Prelude.{◌≡◌, ◌<◌, ℕ, List, true, false, length, map, slice_index_or, take}
use Rattle.std.specs.Prelude.{Vec, vec_items}
use Rattle.std.specs.declared.alloc.Global.{Global}
use Rattle.node_graph.specs.Graph.{Graph, is_in, nodes_above, nodes_below}
use Rattle.node_graph.specs.Laws.{IsAcyclic}
use Rattle.node_graph.specs.Order.{repeats}

-- the lists in some vectors
abbrev pub lists_in : List (Vec ℕ Global) → List (List ℕ)
lists_in vectors = map vec_items vectors

-- each node that is below one is a node of the graph, and none is below another one twice
pub record IsSimple (graph : Graph) : Type 0 where
  pub known : (upper lower : ℕ) → is_in (nodes_below graph upper) lower ≡ true → lower < length graph
  pub once : (upper : ℕ) → repeats (nodes_below graph upper) ≡ false

-- A list of all nodes, each of them once, in which each node stands after all nodes above it.
pub record LeadsDown (graph : Graph) (order : List ℕ) : Type 0 where
  pub known : (node : ℕ) → is_in order node ≡ true → node < length graph
  pub whole : (node : ℕ) → node < length graph → is_in order node ≡ true
  pub once : repeats order ≡ false
  pub down : (place upper : ℕ) → place < length order → is_in (nodes_above graph (slice_index_or order place 0)) upper ≡ true → is_in (take place order) upper ≡ true

-- some node stands on a cycle
abbrev pub HasCycle : Graph → Type 0
HasCycle graph = IsAcyclic graph → ⊥
