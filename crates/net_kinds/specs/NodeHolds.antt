-- Each kind shows what every kind has to show.
use Rattle.memory_node.specs.Events.{Access}
use Rattle.net_kinds.specs.NodeKind.{ADemux, ALite, ALiteMemory, AManager, AMemory, AMux, ARemap, ASlice, ASplit, AnError, AnUp, KindName, kind_by_name, node_kind}
use Rattle.node_shape.proofs.FamilyLemmas.{family-holds}
use Rattle.node_shape.specs.KindHolds.{KindHolds}
use Rattle.slice_node.proofs.SliceHolds.{slice-holds}
use Rattle.memory_node.proofs.MemoryHolds.{memory-holds}
use Rattle.manager_node.proofs.ManagerHolds.{manager-holds}
use Rattle.mux_node.proofs.MuxHolds.{mux-holds}
use Rattle.error_node.proofs.ErrorHolds.{error-holds}
use Rattle.demux_node.proofs.DemuxHolds.{demux-holds}
use Rattle.remap_node.proofs.RemapHolds.{remap-holds}
use Rattle.up_node.proofs.UpHolds.{up-holds}
use Rattle.split_node.proofs.SplitHolds.{split-holds}
use Rattle.lite_node.proofs.LiteHolds.{lite-holds}
use Rattle.lite_memory_node.proofs.LiteMemoryHolds.{lite_memory-holds}

pub each_holds : (name : KindName) → KindHolds (kind_by_name name)
each_holds ASlice = slice-holds Access
each_holds AMemory = memory-holds
each_holds AManager = manager-holds Access
each_holds AMux = mux-holds Access
each_holds AnError = error-holds Access
each_holds ADemux = demux-holds Access
each_holds ARemap = remap-holds Access
each_holds AnUp = up-holds Access
each_holds ASplit = split-holds Access
each_holds ALite = lite-holds Access
each_holds ALiteMemory = lite_memory-holds

pub node_holds : KindHolds node_kind
node_holds = family-holds kind_by_name each_holds
