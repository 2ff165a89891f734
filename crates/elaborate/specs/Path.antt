-- The path of an address over a plan, and the order of its nodes.
use Rattle.std.specs.Prelude.{◌-◌, ℕ, zero, suc, List, [], ◌∷◌, Option, length, map, slice_get, slice_index_or, unwrap_or}
use Rattle.std.specs.Option.{option_and_then, option_map_or}
use Rattle.address_map.specs.Regions.{serving_port}
use Rattle.address_map.specs.declared.region.Region.{Region}
use Rattle.node_graph.specs.Order.{order_of, place_in}
use Rattle.topology.specs.Document.{DocumentNode, NamedRegion, named, node_at, targets_of}
use Rattle.elaborate.specs.Plan.{PlanNode, first_part, plan_graph, plan_nodes}
use Rattle.elaborate.specs.declared.part.Part.{Part}
use Rattle.elaborate.specs.declared.part.Part.TheVariants as part

module _ (nodes : List DocumentNode) where
  -- the regions of a document node, each with the port that leads to its target
  abbrev pub ported_regions : DocumentNode → List Region
  ported_regions node =
      map
      (λ (region : NamedRegion). record { base = region.base; size = region.size; port = place_in (targets_of nodes node) (unwrap_or (named nodes region.to) 0) })
      node.region

  -- the port of an address at a demux of this document node: that of the region that has it, else the last one
  abbrev pub port_at_demux : DocumentNode → ℕ → ℕ
  port_at_demux node address = unwrap_or (serving_port (ported_regions node) address) (length (targets_of nodes node))

  -- the port of an address at a part of a document node: only a demux has several
  abbrev pub port_by_part : ℕ → ℕ → Part → ℕ
  port_by_part address document part.Demux = port_at_demux (node_at nodes document) address
  port_by_part address document other = 0

  -- the plan node to which a request for an address goes on
  abbrev pub next_by_part : ℕ → PlanNode → Part → Option ℕ
  next_by_part address node part = slice_get node.lower (port_by_part address node.document part)

  abbrev pub next_part : ℕ → PlanNode → Option ℕ
  next_part address node = next_by_part address node node.part

  -- the plan nodes that it passes from one on, both ends counted, of which there are at most so many
  unfoldable pub path_from : List PlanNode → ℕ → ℕ → ℕ → List ℕ
  path_from plan address zero number = []
  path_from plan address (suc most) number =
      number ∷ option_map_or (path_from plan address most) (option_and_then (next_part address) (slice_get plan number)) []

  -- the path of an address from a manager, by its document node. No path has more nodes than the plan.
  abbrev pub path_of : ℕ → ℕ → List ℕ
  path_of manager address = path_from (plan_nodes nodes) address (length (plan_nodes nodes)) (first_part nodes manager)

  -- the plan node where it ends
  abbrev pub target_of : ℕ → ℕ → ℕ
  target_of manager address = slice_index_or (path_of manager address) (length (path_of manager address) - 1) 0

-- ---- order

-- the plan nodes from the managers downwards
abbrev pub plan_order : List DocumentNode → List ℕ
plan_order nodes = order_of (plan_graph nodes)
