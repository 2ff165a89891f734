-- What a plan keeps beside the document's nodes.
use Rattle.std.specs.Prelude.{◌≡◌, ℕ, List, length, map, string_bytes}
use Rattle.node_graph.specs.Graph.{numbers}
use Rattle.topology.specs.Document.{DocumentNode}
use Rattle.topology.specs.Refused.{IsAccepted}
use Rattle.elaborate.specs.Path.{plan_order}
use Rattle.elaborate.specs.Plan.{PlanLink, PlanNode, first_part, plan_links, plan_nodes}
use Rattle.elaborate.specs.declared.node.NodeParts.TheInside as node

abbrev pub part_kept : node.Inside → PlanNode
part_kept kept = record { part = kept.part; document = kept.document; name = string_bytes kept.name; lower = kept.lower.items; link = kept.link }

-- the numbers of the first plan nodes of the document's nodes
abbrev pub first_parts : List DocumentNode → List ℕ
first_parts nodes = map (first_part nodes) (numbers (length nodes))

-- the document is accepted, and these are the numbers of the first plan nodes of its nodes
pub record HasFirsts (nodes : List DocumentNode) (firsts : List ℕ) : Type 0 where
  pub accepted : IsAccepted nodes
  pub firsts_are : firsts ≡ first_parts nodes

-- the document is accepted; the plan's nodes and links, in order of number, the first plan nodes, and the order that leads
-- downwards
pub record IsPlan (nodes : List DocumentNode) (parts : List PlanNode) (links : List PlanLink) (firsts order : List ℕ) : Type 0 where
  pub accepted : IsAccepted nodes
  pub parts_are : parts ≡ plan_nodes nodes
  pub links_are : links ≡ plan_links nodes
  pub firsts_are : firsts ≡ first_parts nodes
  pub ordered_so : order ≡ plan_order nodes
