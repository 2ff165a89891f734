-- What is kept of the links of each plan node.
use Rattle.std.specs.Prelude.{◌≡◌, ◌<◌, ◌==◌, ℕ, List, [], filter, length, slice_index_or}
use Rattle.elaborate.specs.Plan.{plan_link_at, plan_links, plan_nodes}
use Rattle.net_build.specs.declared.linked.LinkedPlan.TheInside.{Inside}
use Rattle.node_graph.specs.Graph.{numbers}
use Rattle.node_graph.specs.Simple.{lists_in}
use Rattle.topology.specs.Document.{DocumentNode}

-- lists, one for each of so many nodes, of those of the first so many links that have their end there
pub record AreListed (end : ℕ → ℕ) (nodes links : ℕ) (lists : List (List ℕ)) : Type 0 where
  pub long : length lists ≡ nodes
  pub each : (node : ℕ) → node < nodes → slice_index_or lists node [] ≡ filter (λ link. end link == node) (numbers links)

-- for each plan node, those of the first so many links that are above it, and those that are below it
abbrev pub AreAbove : List DocumentNode → ℕ → List (List ℕ) → Type 0
AreAbove nodes links lists = AreListed (λ link. (plan_link_at nodes link).lower) (length (plan_nodes nodes)) links lists

abbrev pub AreBelow : List DocumentNode → ℕ → List (List ℕ) → Type 0
AreBelow nodes links lists = AreListed (λ link. (plan_link_at nodes link).upper) (length (plan_nodes nodes)) links lists

-- a plan stands beside the links above and below each of its nodes
pub record IsLinked (kept : Inside) : Type 0 where
  pub above : AreAbove kept.plan.now (length (plan_links kept.plan.now)) (lists_in kept.above.items)
  pub below : AreBelow kept.plan.now (length (plan_links kept.plan.now)) (lists_in kept.below.items)
