-- A wiring: the nodes of an accepted document, with what is found of them once.
use Rattle.std.specs.Prelude.{◌≡◌, ◌&&◌, ℕ, List, Option, Vec, bytes_eq, length, map, position, vec_items}
use Rattle.std.specs.declared.alloc.Global.{Global}
use Rattle.address_map.specs.declared.region.Region.{Region}
use Rattle.node_graph.specs.Graph.{Graph, numbers}
use Rattle.topology.specs.Document.{DocumentNode, LinkKind, graph_of, is_manager, link_kind_of, named}
use Rattle.topology.specs.Joined.{placed_region}
use Rattle.topology.specs.Refused.{IsAccepted}
use Rattle.topology_text.specs.Formed.{AreFormed}

-- the regions of a node, each with its target
abbrev pub regions_of : List DocumentNode → DocumentNode → List Region
regions_of nodes node = map (placed_region (named nodes)) node.region

-- the manager of a name
abbrev pub manager_named : List DocumentNode → List ℕ → Option ℕ
manager_named nodes name = position (λ (node : DocumentNode). is_manager node.kind && bytes_eq node.name name) nodes

-- the lists of regions in some vectors
abbrev pub region_lists : List (Vec Region Global) → List (List Region)
region_lists vectors = map vec_items vectors

-- what is kept beside the nodes is what the definitions make of them, the document is accepted, and each of its nodes
-- is formed
pub record IsWired (nodes : List DocumentNode) (graph : Graph) (links : List LinkKind) (regions : List (List Region)) : Type 0 where
  pub accepted : IsAccepted nodes
  pub formed : AreFormed nodes
  pub joined_so : graph ≡ graph_of nodes
  pub links_are : links ≡ map (link_kind_of nodes) (numbers (length nodes))
  pub regions_are : regions ≡ map (regions_of nodes) nodes
