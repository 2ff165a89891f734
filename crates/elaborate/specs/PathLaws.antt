-- What holds of the paths over the plan of an accepted document, and of the order of its nodes.
use Rattle.std.specs.Prelude.{◌≡◌, ◌+◌, ◌/◌, ◌<◌, ℕ, List, Some, Bool, false, true, length, slice_get, slice_index_or}
use Rattle.node_graph.specs.Graph.{is_in, nodes_below}
use Rattle.node_graph.specs.Laws.{OrderIsWhole}
use Rattle.node_graph.specs.Order.{place_in}
use Rattle.topology.specs.Document.{DocumentNode, is_manager, node_at}
use Rattle.topology.specs.Refused.{IsAccepted}
use Rattle.elaborate.specs.Laws.{is_first}
use Rattle.elaborate.specs.Path.{path_of, plan_order, target_of}
use Rattle.elaborate.specs.Plan.{PlanNode, first_part, plan_graph, plan_nodes}
use Rattle.elaborate.specs.declared.part.Part.{Part}
use Rattle.elaborate.specs.declared.part.Part.TheVariants as part

-- the parts that answer transactions
abbrev pub is_endpoint : Part → Bool
is_endpoint part.Memory = true
is_endpoint part.LiteMemory = true
is_endpoint part.Error = true
is_endpoint other = false

-- a path begins at its manager
abbrev pub PathBeginsAtManager : Type 0
PathBeginsAtManager =
    (nodes : List DocumentNode) (manager address : ℕ) → manager < length nodes → is_manager (node_at nodes manager).kind ≡ true →
    slice_get (path_of nodes manager address) 0 ≡ Some (first_part nodes manager)

-- each plan node on it but the first stands below the one before it
abbrev pub PathFollowsLinks : Type 0
PathFollowsLinks =
    (nodes : List DocumentNode) (manager address place : ℕ) → place + 1 < length (path_of nodes manager address) →
    is_in (nodes_below (plan_graph nodes) (slice_index_or (path_of nodes manager address) place 0)) (slice_index_or (path_of nodes manager address) (place + 1) 0)
    ≡ true

-- it ends at an endpoint
pub record EndsAtEndpoint (nodes : List DocumentNode) (manager address : ℕ) : Type 0 where
  pub node : PlanNode
  pub at : slice_get (plan_nodes nodes) (target_of nodes manager address) ≡ Some node
  pub endpoint : is_endpoint node.part ≡ true

abbrev pub PathEndsAtEndpoint : Type 0
PathEndsAtEndpoint =
    (nodes : List DocumentNode) → IsAccepted nodes → (manager address : ℕ) → manager < length nodes → is_manager (node_at nodes manager).kind ≡ true →
    EndsAtEndpoint nodes manager address

-- all addresses of a page have one path
abbrev pub PageHasOnePath : Type 0
PageHasOnePath =
    (nodes : List DocumentNode) → IsAccepted nodes → (manager one other : ℕ) → one / 4096 ≡ other / 4096 → path_of nodes manager one ≡ path_of nodes manager other

-- the order has each plan node once and nothing else
abbrev pub PlanOrderIsWhole : Type 0
PlanOrderIsWhole = (nodes : List DocumentNode) → IsAccepted nodes → OrderIsWhole (plan_graph nodes)

-- the upper end of each link stands in it before the lower end
abbrev pub PlanOrderLeadsDown : Type 0
PlanOrderLeadsDown =
    (nodes : List DocumentNode) → IsAccepted nodes → (upper lower : ℕ) → is_in (nodes_below (plan_graph nodes) upper) lower ≡ true →
    place_in (plan_order nodes) upper < place_in (plan_order nodes) lower

-- and the managers stand before all others
abbrev pub ManagersStandFirst : Type 0
ManagersStandFirst =
    (nodes : List DocumentNode) → IsAccepted nodes → (manager other : ℕ) (one two : PlanNode) → slice_get (plan_nodes nodes) manager ≡ Some one →
    is_first one.part ≡ true → slice_get (plan_nodes nodes) other ≡ Some two → is_first two.part ≡ false →
    place_in (plan_order nodes) manager < place_in (plan_order nodes) other
