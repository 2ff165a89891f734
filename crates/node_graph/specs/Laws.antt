-- What holds of graphs without a cycle.
use Rattle.std.specs.Prelude.{◌≡◌, ◌<◌, ℕ, true, false, length}
use Rattle.node_graph.specs.Graph.{Graph, depth_of, is_in, is_on_cycle, nodes_below}
use Rattle.node_graph.specs.Order.{order_of, place_in, repeats}

-- no node stands on a cycle
abbrev pub IsAcyclic : Graph → Type 0
IsAcyclic graph = (node : ℕ) → node < length graph → is_on_cycle graph node ≡ false

-- each link leads to a node that is deeper
abbrev pub LinksLeadDeeper : Type 0
LinksLeadDeeper =
    (graph : Graph) → IsAcyclic graph → (upper lower : ℕ) → lower < length graph → is_in (nodes_below graph upper) lower ≡ true →
    depth_of graph upper < depth_of graph lower

-- no node is as deep as there are nodes
abbrev pub DepthsAreSmall : Type 0
DepthsAreSmall = (graph : Graph) → IsAcyclic graph → (node : ℕ) → node < length graph → depth_of graph node < length graph

-- the order has each node once and nothing else
pub record OrderIsWhole (graph : Graph) : Type 0 where
  pub all : (node : ℕ) → node < length graph → is_in (order_of graph) node ≡ true
  pub others : (node : ℕ) → is_in (order_of graph) node ≡ true → node < length graph
  pub once : repeats (order_of graph) ≡ false

abbrev pub OrdersAreWhole : Type 0
OrdersAreWhole = (graph : Graph) → IsAcyclic graph → OrderIsWhole graph

-- of two nodes the deeper one stands later in it, so that a node stands after those above it
abbrev pub DeeperStandsLater : Type 0
DeeperStandsLater =
    (graph : Graph) → IsAcyclic graph → (one other : ℕ) → one < length graph → depth_of graph one < depth_of graph other →
    place_in (order_of graph) one < place_in (order_of graph) other

abbrev pub OrdersLeadDown : Type 0
OrdersLeadDown =
    (graph : Graph) → IsAcyclic graph → (upper lower : ℕ) → lower < length graph → is_in (nodes_below graph upper) lower ≡ true →
    place_in (order_of graph) upper < place_in (order_of graph) lower
