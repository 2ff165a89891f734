-- How large the plan of the first nodes is.
use Rattle.std.specs.Prelude.{◌≡◌, ◌≤◌, ℕ, List, map, sum}
use Rattle.node_graph.specs.Graph.{numbers}
use Rattle.topology.specs.Document.{DocumentNode, plan_links_at, plan_nodes_at}
use Rattle.topology.specs.declared.size.PlanSize.{PlanSize}

-- the plan of the first so many nodes has this size, and isn't too large
pub record IsSizeOf (nodes : List DocumentNode) (count : ℕ) (size : PlanSize) : Type 0 where
  pub nodes_are : size.nodes ≡ sum (map (plan_nodes_at nodes) (numbers count))
  pub links_are : size.links ≡ sum (map (plan_links_at nodes) (numbers count))
  pub few_nodes : size.nodes ≤ 1024
  pub few_links : size.links ≤ 4096
