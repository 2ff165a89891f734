-- What is known while the nodes of a graph are searched downwards.
use Rattle.std.specs.Prelude.{◌≡◌, ◌<◌, ◌≤◌, ◌+◌, ◌++◌, ℕ, List, [], ◌∷◌, Bool, true, false, cond, length, slice_index_or, slice_set, take}
use Rattle.node_graph.specs.Graph.{Graph, has_way, is_in, nodes_below}
use Rattle.node_graph.specs.Order.{repeats}
use Rattle.node_graph.specs.declared.cycle.Search.{Search}

-- The queue has nodes that there is a way to, each once, and all nodes below those of `passed`; these are marked.
pub record HasFound (graph : Graph) (start : ℕ) (passed : List ℕ) (found : List Bool) (queue : List ℕ) : Type 0 where
  pub long : length found ≡ length graph
  pub marks : (node : ℕ) → node < length graph → slice_index_or found node false ≡ is_in queue node
  pub known : (node : ℕ) → is_in queue node ≡ true → node < length graph
  pub once : repeats queue ≡ false
  pub ways : (place : ℕ) → place < length queue → has_way graph (place + 1) start (slice_index_or queue place 0) ≡ true
  pub closed : (upper lower : ℕ) → is_in passed upper ≡ true → is_in (nodes_below graph upper) lower ≡ true → is_in queue lower ≡ true

-- the start and the first so many nodes of the queue are passed
abbrev pub IsSearch : Graph → ℕ → Search → Type 0
IsSearch graph count search = HasFound graph search.start (search.start ∷ take count search.queue.items) search.found.items search.queue.items

-- a node is marked, and comes to the end of the queue where it wasn't
pub record NotesFound (node : ℕ) (before after : Search) : Type 0 where
  pub start : after.start ≡ before.start
  pub found : after.found.items ≡ slice_set before.found.items node true
  pub queue : after.queue.items ≡ before.queue.items ++ (cond (slice_index_or before.found.items node false) [] (node ∷ []))

-- Of some nodes to each of which there is a way from the start, all are found. The queue grows at its end alone.
pub record PassesSome (graph : Graph) (lowers : List ℕ) (before after : Search) : Type 0 where
  pub start : after.start ≡ before.start
  pub long : length after.found.items ≡ length before.found.items
  pub grown : length before.queue.items ≤ length after.queue.items
  pub front : (count : ℕ) → count ≤ length before.queue.items → take count after.queue.items ≡ take count before.queue.items
  pub found : (passed : List ℕ) → HasFound graph before.start passed before.found.items before.queue.items
      → ((lower : ℕ) → is_in lowers lower ≡ true → (lower < length graph) × (has_way graph (length before.queue.items + 1) before.start lower ≡ true))
      → HasFound graph before.start passed after.found.items after.queue.items × ((lower : ℕ) → is_in lowers lower ≡ true → is_in after.queue.items lower ≡ true)

-- From a node to each of whose lowers there is a way, all of these are found.
pub record PassesNode (graph : Graph) (node : ℕ) (before after : Search) : Type 0 where
  pub start : after.start ≡ before.start
  pub front : (count : ℕ) → count ≤ length before.queue.items → take count after.queue.items ≡ take count before.queue.items
  pub found : (passed : List ℕ) → HasFound graph before.start passed before.found.items before.queue.items
      → ((lower : ℕ) → is_in (nodes_below graph node) lower ≡ true → has_way graph (length before.queue.items + 1) before.start lower ≡ true)
      → HasFound graph before.start (node ∷ passed) after.found.items after.queue.items
