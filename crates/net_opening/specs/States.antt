-- The nodes of a plan as their kinds begin, by their numbers, with the keys of the document.
use Rattle.std.specs.Prelude.{ℕ, List, map}
use Rattle.demux_node.specs.DemuxState.{DemuxState, new_demux}
use Rattle.elaborate.specs.Path.{ported_regions}
use Rattle.elaborate.specs.Plan.{plan_link_at, plan_node_at}
use Rattle.error_node.specs.ErrorState.{ErrorState, new_error}
use Rattle.lite_node.specs.LiteState.{LiteState, new_lite}
use Rattle.manager_node.specs.ManagerState.{ManagerState, new_manager}
use Rattle.memory_node.specs.MemoryArea.{MemoryArea}
use Rattle.memory_node.specs.MemoryState.{MemoryState, new_memory}
use Rattle.memory_node.specs.declared.config.Range.{Range}
use Rattle.mux_node.specs.MuxState.{MuxState, new_mux}
use Rattle.net_opening.specs.PlanLinks.{link_into, link_out_of, links_into, links_out_of}
use Rattle.net_opening.specs.Touched.{lines_touched}
use Rattle.node_core.specs.Paces.{new_paces}
use Rattle.plan_traffic.specs.Scripts.{script_of}
use Rattle.plan_traffic.specs.Traffic.{TrafficItem}
use Rattle.remap_node.specs.RemapState.{RemapState, new_remap}
use Rattle.slice_node.specs.SliceState.{SliceState, new_slice}
use Rattle.split_node.specs.SplitState.{SplitState, new_split}
use Rattle.topology.specs.Document.{DocumentNode, node_at, widest}
use Rattle.topology_text.specs.declared.kind.Span.{Span}
use Rattle.up_node.specs.UpState.{UpState, new_up}

abbrev pub memory_range : Span → Range
memory_range span = record { base = span.base; size = span.size }

-- the bytes that a memory on a bus has, by the keys of its document node
abbrev pub area_on : ℕ → DocumentNode → MemoryArea
area_on bus node = record {
  base = node.base;
  size = node.size;
  bus = bus;
  fill = node.fill;
  read_only = map memory_range node.read_only;
  hole = map memory_range node.hole;
}

-- a memory of AXI4 names its bus
abbrev pub area_of_node : DocumentNode → MemoryArea
area_of_node node = area_on node.bus node

module _ (nodes : List DocumentNode) (number : ℕ) where
  -- the document node from which a plan node comes
  abbrev pub document_node_of : DocumentNode
  document_node_of = node_at nodes (plan_node_at nodes number).document

  abbrev pub slice_at : SliceState
  slice_at = new_slice (link_into nodes number) (link_out_of nodes number)

  -- a memory keeps the lines that the traffic touches
  abbrev pub memory_at : List TrafficItem → MemoryState
  memory_at items =
      new_memory (area_of_node document_node_of) document_node_of.accept document_node_of.give (link_into nodes number) (lines_touched nodes items number)

  -- so does a Lite memory, which has the bus of the link above it
  abbrev pub lite_memory_at : List TrafficItem → MemoryState
  lite_memory_at items =
      new_memory (area_on (plan_link_at nodes (link_into nodes number)).link.bus document_node_of) document_node_of.accept document_node_of.give
      (link_into nodes number) (lines_touched nodes items number)

  -- a manager has the transactions of its document node; it takes as `accept` says, and puts as `give` says
  abbrev pub manager_at : List TrafficItem → ManagerState
  manager_at items =
      new_manager (script_of items (plan_node_at nodes number).document) (link_out_of nodes number) document_node_of.bus
      (new_paces document_node_of.give document_node_of.accept)

  -- a mux has room for the widest IDs of its inputs
  abbrev pub mux_at : MuxState
  mux_at = new_mux (record {
    uppers = links_into nodes number;
    lower = link_out_of nodes number;
    width = widest (map (λ link. (plan_link_at nodes link).link) (links_into nodes number));
  })

  abbrev pub error_at : ErrorState
  error_at = new_error (link_into nodes number)

  -- a demux has the regions of its document node
  abbrev pub demux_at : DemuxState
  demux_at = new_demux (record { upper = link_into nodes number; lowers = links_out_of nodes number; regions = ported_regions nodes document_node_of })

  -- a remapper has IDs below of the width that its document node names
  abbrev pub remap_at : RemapState
  remap_at = new_remap (record { upper = link_into nodes number; lower = link_out_of nodes number; width = document_node_of.id_width })

  -- an up converter widens the bus above it to that of its document node
  abbrev pub up_at : UpState
  up_at = new_up (record {
    upper = link_into nodes number;
    lower = link_out_of nodes number;
    narrow = (plan_link_at nodes (link_into nodes number)).link.bus;
    wide = document_node_of.bus;
  })

  abbrev pub split_at : SplitState
  split_at = new_split (link_into nodes number) (link_out_of nodes number)

  -- a Lite bridge has the bus of the links around it
  abbrev pub lite_at : LiteState
  lite_at = new_lite (record {
    upper = link_into nodes number;
    lower = link_out_of nodes number;
    bus = (plan_link_at nodes (link_into nodes number)).link.bus;
  })
