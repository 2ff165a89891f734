-- What holds of the plan of every accepted document.
use Rattle.std.specs.Prelude.{◌≡◌, ◌<◌, ℕ, List, Some, Bool, false, true, length, slice_get}
use Rattle.node_graph.specs.Graph.{is_in, nodes_below}
use Rattle.node_graph.specs.Laws.{IsAcyclic}
use Rattle.node_graph.specs.Order.{repeats}
use Rattle.topology.specs.Document.{DocumentNode}
use Rattle.topology.specs.Refused.{IsAccepted}
use Rattle.elaborate.specs.Plan.{PlanNode, plan_graph, plan_nodes}
use Rattle.elaborate.specs.declared.part.Part.{Part}
use Rattle.elaborate.specs.declared.part.Part.TheVariants as part

-- no plan node stands on a cycle
abbrev pub PlanIsAcyclic : Type 0
PlanIsAcyclic = (nodes : List DocumentNode) → IsAccepted nodes → IsAcyclic (plan_graph nodes)

-- the nodes below a plan node are plan nodes
abbrev pub LowersAreNodes : Type 0
LowersAreNodes =
    (nodes : List DocumentNode) (upper lower : ℕ) → is_in (nodes_below (plan_graph nodes) upper) lower ≡ true → lower < length (plan_nodes nodes)

abbrev pub is_mux : Part → Bool
is_mux part.Mux = true
is_mux other = false

abbrev pub is_first : Part → Bool
is_first part.Manager = true
is_first other = false

-- at most one plan node stands above one that isn't a mux
abbrev pub OneIsAbove : Type 0
OneIsAbove =
    (nodes : List DocumentNode) → IsAccepted nodes → (lower : ℕ) (node : PlanNode) → slice_get (plan_nodes nodes) lower ≡ Some node → is_mux node.part ≡ false →
    (one other : ℕ) → is_in (nodes_below (plan_graph nodes) one) lower ≡ true → is_in (nodes_below (plan_graph nodes) other) lower ≡ true → one ≡ other

-- at least one does so above each that isn't a manager
abbrev pub SomeIsAbove : Type 0
SomeIsAbove =
    (nodes : List DocumentNode) → IsAccepted nodes → (lower : ℕ) (node : PlanNode) → slice_get (plan_nodes nodes) lower ≡ Some node → is_first node.part ≡ false →
    (upper : ℕ) × (is_in (nodes_below (plan_graph nodes) upper) lower ≡ true)

-- and none above a manager
abbrev pub NoneIsAbove : Type 0
NoneIsAbove =
    (nodes : List DocumentNode) → IsAccepted nodes → (lower : ℕ) (node : PlanNode) → slice_get (plan_nodes nodes) lower ≡ Some node → is_first node.part ≡ true →
    (upper : ℕ) → is_in (nodes_below (plan_graph nodes) upper) lower ≡ false

-- no plan node stands twice below another
abbrev pub NoneIsTwiceBelow : Type 0
NoneIsTwiceBelow = (nodes : List DocumentNode) (upper : ℕ) → repeats (nodes_below (plan_graph nodes) upper) ≡ false
