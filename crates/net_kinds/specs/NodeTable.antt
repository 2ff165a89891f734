-- What a node does, by its kind.
use Rattle.std.specs.Prelude.{◌≡◌, ℕ, List, Bool, true}
use Rattle.axi_link.specs.LinkView.{LinkView}
use Rattle.axi_link.specs.declared.out.Out.{Out}
use Rattle.net_kinds.specs.NodeKind.{node_kind, node_view}
use Rattle.net_kinds.specs.declared.node.Node.{Node}
use Rattle.net_kinds.specs.declared.node.Node.TheVariants.{Demux, Error, Lite, LiteMemory, Manager, Memory, Mux, Remap, Slice, Split, Up}
use Rattle.slice_node.specs.SliceTable.{CanSlice, slice_table}
use Rattle.memory_node.specs.MemoryState.{IsMemory}
use Rattle.memory_node.specs.MemoryTable.{CanMemory, memory_table}
use Rattle.manager_node.specs.ManagerState.{CanManager, IsManager, is_done}
use Rattle.manager_node.specs.ManagerTable.{manager_table}
use Rattle.mux_node.specs.MuxState.{IsMux}
use Rattle.mux_node.specs.MuxTable.{CanMux, mux_table}
use Rattle.error_node.specs.ErrorState.{IsError}
use Rattle.error_node.specs.ErrorTable.{CanError, error_table}
use Rattle.demux_node.specs.DemuxState.{IsDemux}
use Rattle.demux_node.specs.DemuxTable.{CanDemux, demux_table}
use Rattle.remap_node.specs.RemapState.{IsRemap}
use Rattle.remap_node.specs.RemapTable.{CanRemap, remap_table}
use Rattle.up_node.specs.UpState.{IsUp}
use Rattle.up_node.specs.UpTable.{CanUp, up_table}
use Rattle.split_node.specs.SplitState.{IsSplit}
use Rattle.split_node.specs.SplitTable.{CanSplit, split_table}
use Rattle.lite_node.specs.LiteState.{IsLite}
use Rattle.lite_node.specs.LiteTable.{CanLite, lite_table}
use Rattle.lite_memory_node.specs.LiteMemoryTable.{lite_memory_table}

-- it may decide in this round on these links
abbrev pub CanNode : ℕ → List LinkView → Node → Type 0
CanNode round links (Slice n) = CanSlice links n.state
CanNode round links (Memory n) = CanMemory links n.value.state
CanNode round links (Manager n) = CanManager round links n.value.state
CanNode round links (Mux n) = CanMux links n.state.shape
CanNode round links (Error n) = CanError links n.value.state
CanNode round links (Demux n) = CanDemux links n.value.state.shape
CanNode round links (Remap n) = CanRemap links n.value.state.shape
CanNode round links (Up n) = CanUp links n.value.state
CanNode round links (Split n) = CanSplit links n.value.state
CanNode round links (Lite n) = CanLite links n.value.state.shape
CanNode round links (LiteMemory n) = CanMemory links n.value.state

-- the node after it decided
abbrev pub node_table : ℕ → List LinkView → Node → Node
node_table round links (Slice n) = Slice (slice_table links n.state)
node_table round links (Memory n) = Memory (record n { value = memory_table links n.value.state })
node_table round links (Manager n) = Manager (record n { value = manager_table round links n.value.state })
node_table round links (Mux n) = Mux (mux_table links n.state)
node_table round links (Error n) = Error (record n { value = error_table links n.value.state })
node_table round links (Demux n) = Demux (record n { value = demux_table links n.value.state })
node_table round links (Remap n) = Remap (record n { value = remap_table links n.value.state })
node_table round links (Up n) = Up (record n { value = up_table links n.value.state })
node_table round links (Split n) = Split (record n { value = split_table links n.value.state })
node_table round links (Lite n) = Lite (record n { value = lite_table links n.value.state })
node_table round links (LiteMemory n) = LiteMemory (record n { value = lite_memory_table links n.value.state })

-- the moves that it chose
abbrev pub node_out : Node → Out
node_out (Slice n) = n.out
node_out (Memory n) = n.value.out
node_out (Manager n) = n.value.out
node_out (Mux n) = n.out
node_out (Error n) = n.value.out
node_out (Demux n) = n.value.out
node_out (Remap n) = n.value.out
node_out (Up n) = n.value.out
node_out (Split n) = n.value.out
node_out (Lite n) = n.value.out
node_out (LiteMemory n) = n.value.out

-- it waits for no answer
abbrev pub node_done : Node → Bool
node_done (Manager n) = is_done n.value.state
node_done _ = true

-- what holds of it between rounds
abbrev pub node_fact : Node → Type 0
node_fact (Slice n) = Unit {0}
node_fact (Memory n) = IsMemory n.value.state
node_fact (Manager n) = IsManager n.value.state
node_fact (Mux n) = IsMux n.state
node_fact (Error n) = IsError n.value.state
node_fact (Demux n) = IsDemux n.value.state
node_fact (Remap n) = IsRemap n.value.state
node_fact (Up n) = IsUp n.value.state
node_fact (Split n) = IsSplit n.value.state
node_fact (Lite n) = IsLite n.value.state
node_fact (LiteMemory n) = IsMemory n.value.state

-- a node does what its kind does
pub record DoesAsItsKind (round : ℕ) (links : List LinkView) (node : Node) : Type 0 where
  pub can : node_kind.can round links (node_view node).state → CanNode round links node
  pub table : node_view (node_table round links node) ≡ node_kind.table round links (node_view node).state
  pub out : (node_view node).out ≡ node_out node
  pub done : node_kind.is_done (node_view node).state ≡ node_done node
  pub fact : node_fact node → node_kind.fact (node_view node).state

abbrev pub NodesDoAsTheirKind : Type 0
NodesDoAsTheirKind = (round : ℕ) (links : List LinkView) (node : Node) → DoesAsItsKind round links node
