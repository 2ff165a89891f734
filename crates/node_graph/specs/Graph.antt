-- Directed graphs. A graph has for each node, by its number from 0, the numbers of the nodes below it.
use Rattle.std.specs.Prelude.{◌==◌, ◌||◌, ℕ, zero, suc, List, [], ◌∷◌, Bool, false, not, length, filter, map, max, slice_index_or}
use Rattle.std.specs.List.{list_any, range_with_len}

abbrev pub Graph : Type 0
Graph = List (List ℕ)

-- the numbers below a count
unfoldable pub numbers : ℕ → List ℕ
numbers count = range_with_len 0 count

-- a number is in a list
abbrev pub is_in : List ℕ → ℕ → Bool
is_in list number = list_any (λ other. other == number) list

-- each number once, in the order in which they are first seen
abbrev pub each_once : List ℕ → List ℕ
each_once [] = []
each_once (x ∷ xs) = x ∷ filter (λ y. not (y == x)) (each_once xs)

-- the nodes below a node, and in order of number the nodes above it
abbrev pub nodes_below : Graph → ℕ → List ℕ
nodes_below graph node = slice_index_or graph node []

abbrev pub nodes_above : Graph → ℕ → List ℕ
nodes_above graph node = filter (λ other. is_in (nodes_below graph other) node) (numbers (length graph))

-- from one node down to another there is a way of at least one link and of at most so many
unfoldable pub has_way : Graph → ℕ → ℕ → ℕ → Bool
has_way graph zero from to = false
has_way graph (suc links) from to = list_any (λ next. next == to || has_way graph links next to) (nodes_below graph from)

-- A node stands on a cycle: there is a way from it down to itself. The shortest such way has no more links than the
-- graph has nodes.
abbrev pub is_on_cycle : Graph → ℕ → Bool
is_on_cycle graph node = has_way graph (length graph) node node

-- What is handed down from node to node: `give` makes what a node has of what the nodes above it have, in their order.
-- No way down has more nodes than the graph, so that as many steps suffice.
module _ {X : Type 0} (give : ℕ → List X → X) (nothing : X) (graph : Graph) where
  unfoldable pub handed_in : ℕ → ℕ → X
  handed_in zero node = nothing
  handed_in (suc steps) node = give node (map (handed_in steps) (nodes_above graph node))

  abbrev pub handed_down : ℕ → X
  handed_down node = handed_in (length graph) node

-- the number of links on the longest way down to a node, from what the nodes above have
abbrev pub one_more : List ℕ → ℕ
one_more [] = 0
one_more (depth ∷ depths) = max (suc depth) (one_more depths)

abbrev pub depth_of : Graph → ℕ → ℕ
depth_of graph node = handed_down (λ number depths. one_more depths) 0 graph node
