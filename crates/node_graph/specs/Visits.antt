-- What is known while the nodes of a graph are visited downwards, each after those above it.
use Rattle.std.specs.Prelude.{◌≡◌, ◌==◌, ◌<◌, ◌+◌, ℕ, List, [], true, false, cond, filter, length, not, slice_index_or, take}
use Rattle.node_graph.specs.Graph.{Graph, is_in, nodes_above}
use Rattle.node_graph.specs.Order.{repeats}

-- the nodes above a node that aren't among those visited
abbrev pub unvisited_above : Graph → List ℕ → ℕ → List ℕ
unvisited_above graph visited node = filter (λ upper. not (is_in visited upper)) (nodes_above graph node)

-- The queue has each node once that may be visited: the first of them are visited, and each stands after those above it.
pub record IsQueue (graph : Graph) (queue : List ℕ) : Type 0 where
  pub known : (node : ℕ) → is_in queue node ≡ true → node < length graph
  pub once : repeats queue ≡ false
  pub down : (place upper : ℕ) → place < length queue → is_in (nodes_above graph (slice_index_or queue place 0)) upper ≡ true → is_in (take place queue) upper ≡ true

-- While a node passes its visit on to the first of the nodes below it, `waiting` has for each node how many nodes above it
-- haven't done so yet, and the nodes that wait for none are in the queue.
pub record IsPassingOn (graph : Graph) (visited lowers : List ℕ) (waiting queue : List ℕ) : Type 0 where
  pub long : length waiting ≡ length graph
  pub counts : (node : ℕ) → node < length graph → slice_index_or waiting node 0 + (cond (is_in lowers node) 1 0) ≡ length (unvisited_above graph visited node)
  pub ready : (node : ℕ) → node < length graph → is_in queue node ≡ (slice_index_or waiting node 0 == 0)
  pub queued : IsQueue graph queue

-- the first so many nodes of the queue are visited
abbrev pub AreVisited : Graph → ℕ → List ℕ → List ℕ → Type 0
AreVisited graph count waiting queue = IsPassingOn graph (take count queue) [] waiting queue
