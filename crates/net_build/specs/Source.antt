-- What a network is built of.
use Rattle.std.specs.Prelude.{◌≡◌, ℕ, List, filter, flat_map, map}
use Rattle.memory_node.specs.MemoryState.{MemoryState}
use Rattle.net_kinds.specs.NodeKind.{node_kind}
use Rattle.net_opening.specs.Opening.{opening}
use Rattle.net_opening.specs.PlanLinks.{form_of_link}
use Rattle.net_opening.specs.States.{area_on, document_node_of, memory_at}
use Rattle.net_opening.specs.Touched.{is_write_to, lines_of_burst}
use Rattle.net_ways.specs.Sound.{IsSound}
use Rattle.plan_traffic.specs.Accepted.{IsTraffic}
use Rattle.plan_traffic.specs.Due.{target_number}
use Rattle.plan_traffic.specs.Traffic.{TrafficItem}
use Rattle.topology.specs.Document.{DocumentNode}
use Rattle.topology.specs.Refused.{IsAccepted}
use Rattle.topology_text.specs.Formed.{AreFormed}

-- The document is accepted, and the keys of its nodes are within their limits. The traffic suits the document, and the
-- network that they become can be run. Of each transaction the plan node is known where it ends.
pub record IsSource (nodes : List DocumentNode) (items : List TrafficItem) (targets : List ℕ) : Type 0 where
  pub accepted : IsAccepted nodes
  pub formed : AreFormed nodes
  pub traffic : IsTraffic nodes items
  pub sound : IsSound node_kind (opening nodes items) (form_of_link nodes)
  pub ends : targets ≡ map (target_number nodes) items

-- the lines that writes to a plan node touch, in order of transaction and beat
abbrev pub lines_written : List DocumentNode → ℕ → List TrafficItem → List ℕ
lines_written nodes number items = flat_map (λ (item : TrafficItem). lines_of_burst item.txn.request) (filter (is_write_to nodes items number) items)

-- the memory of a plan node, on a bus that its document node need not name
abbrev pub memory_on : List DocumentNode → List TrafficItem → ℕ → ℕ → MemoryState
memory_on nodes items number bus = record (memory_at nodes number items) { area = area_on bus (document_node_of nodes number) }
