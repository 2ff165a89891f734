-- Ranks of nodes, and what they tell of cycles.
use Rattle.std.specs.Prelude.{◌≡◌, ◌<◌, ℕ, List, Bool, true, length, nat_le, nat_lt, slice_index_or}
use Rattle.std.specs.List.{list_all}
use Rattle.node_graph.specs.Graph.{Graph, nodes_below}

abbrev pub rank_in : List ℕ → ℕ → ℕ
rank_in ranks node = slice_index_or ranks node 0

-- no link of a node leads to a lower rank
abbrev pub is_never_lower : Graph → List ℕ → ℕ → Bool
is_never_lower graph ranks node = list_all (λ lower. nat_le (rank_in ranks node) (rank_in ranks lower)) (nodes_below graph node)

abbrev pub NeverFalls : Graph → List ℕ → Type 0
NeverFalls graph ranks = (node : ℕ) → node < length graph → is_never_lower graph ranks node ≡ true

-- each link of a node leads to a higher rank
abbrev pub is_risen : Graph → List ℕ → ℕ → Bool
is_risen graph ranks node = list_all (λ lower. nat_lt (rank_in ranks node) (rank_in ranks lower)) (nodes_below graph node)
