-- All kinds of node, as one.
use Rattle.memory_node.specs.Events.{Access}
use Rattle.node_core.specs.Acted.{Acted}
use Rattle.node_shape.specs.Family.{OneOf, family}
use Rattle.node_shape.specs.Kind.{Kind}
use Rattle.net_kinds.specs.declared.node.Node.{Node}
use Rattle.net_kinds.specs.declared.node.Node.TheVariants.{Demux, Error, Lite, LiteMemory, Manager, Memory, Mux, Remap, Slice, Split, Up}
use Rattle.slice_node.specs.SliceState.{SliceState}
use Rattle.slice_node.specs.SliceTrail.{slice_kind}
use Rattle.memory_node.specs.MemoryState.{MemoryState}
use Rattle.memory_node.specs.MemoryTrail.{memory_kind}
use Rattle.manager_node.specs.ManagerState.{ManagerState}
use Rattle.manager_node.specs.ManagerTrail.{manager_kind}
use Rattle.mux_node.specs.MuxState.{MuxState}
use Rattle.mux_node.specs.MuxTrail.{mux_kind}
use Rattle.error_node.specs.ErrorState.{ErrorState}
use Rattle.error_node.specs.ErrorTrail.{error_kind}
use Rattle.demux_node.specs.DemuxState.{DemuxState}
use Rattle.demux_node.specs.DemuxTrail.{demux_kind}
use Rattle.remap_node.specs.RemapState.{RemapState}
use Rattle.remap_node.specs.RemapTrail.{remap_kind}
use Rattle.up_node.specs.UpState.{UpState}
use Rattle.up_node.specs.UpTrail.{up_kind}
use Rattle.split_node.specs.SplitState.{SplitState}
use Rattle.split_node.specs.SplitTrail.{split_kind}
use Rattle.lite_node.specs.LiteState.{LiteState}
use Rattle.lite_node.specs.LiteTrail.{lite_kind}
use Rattle.lite_memory_node.specs.LiteMemoryTrail.{lite_memory_kind}

pub data KindName : Type 0 where
  ASlice : KindName
  AMemory : KindName
  AManager : KindName
  AMux : KindName
  AnError : KindName
  ADemux : KindName
  ARemap : KindName
  AnUp : KindName
  ASplit : KindName
  ALite : KindName
  ALiteMemory : KindName

-- the states of a kind's nodes
abbrev pub StateOf : KindName → Type 0
StateOf ASlice = SliceState
StateOf AMemory = MemoryState
StateOf AManager = ManagerState
StateOf AMux = MuxState
StateOf AnError = ErrorState
StateOf ADemux = DemuxState
StateOf ARemap = RemapState
StateOf AnUp = UpState
StateOf ASplit = SplitState
StateOf ALite = LiteState
StateOf ALiteMemory = MemoryState

-- the state of a node: its kind, and its state
abbrev pub NodeState : Type 0
NodeState = OneOf StateOf

abbrev pub kind_by_name : (name : KindName) → Kind (StateOf name) Access
kind_by_name ASlice = slice_kind
kind_by_name AMemory = memory_kind
kind_by_name AManager = manager_kind
kind_by_name AMux = mux_kind
kind_by_name AnError = error_kind
kind_by_name ADemux = demux_kind
kind_by_name ARemap = remap_kind
kind_by_name AnUp = up_kind
kind_by_name ASplit = split_kind
kind_by_name ALite = lite_kind
kind_by_name ALiteMemory = lite_memory_kind

-- a node is of one of these kinds
abbrev pub node_kind : Kind NodeState Access
node_kind = family kind_by_name

-- a node that acted, as its state and its moves
abbrev pub node_view : Node → Acted NodeState
node_view (Slice n) = record { state = record { kind = ASlice; state = n.state }; out = n.out }
node_view (Memory n) = record { state = record { kind = AMemory; state = n.value.state }; out = n.value.out }
node_view (Manager n) = record { state = record { kind = AManager; state = n.value.state }; out = n.value.out }
node_view (Mux n) = record { state = record { kind = AMux; state = n.state }; out = n.out }
node_view (Error n) = record { state = record { kind = AnError; state = n.value.state }; out = n.value.out }
node_view (Demux n) = record { state = record { kind = ADemux; state = n.value.state }; out = n.value.out }
node_view (Remap n) = record { state = record { kind = ARemap; state = n.value.state }; out = n.value.out }
node_view (Up n) = record { state = record { kind = AnUp; state = n.value.state }; out = n.value.out }
node_view (Split n) = record { state = record { kind = ASplit; state = n.value.state }; out = n.value.out }
node_view (Lite n) = record { state = record { kind = ALite; state = n.value.state }; out = n.value.out }
node_view (LiteMemory n) = record { state = record { kind = ALiteMemory; state = n.value.state }; out = n.value.out }
