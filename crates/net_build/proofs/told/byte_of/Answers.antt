use Rattle.std.proofs.Common.{ap, sym, ◌∙◌}
use Rattle.memory_node.specs.MemoryState.{MemoryState, memory_byte}
use Rattle.net_build.proofs.told.byte_of.Goals as goal
use Rattle.net_build.specs.Noted.{byte_by}
use Rattle.net_kinds.specs.NodeKind.{node_view}
use Rattle.net_kinds.specs.declared.node.Node.{Node}
use Rattle.node_core.specs.Acted.{Acted}

pub returns-in-Memory : goal.returns-in-Memory
returns-in-Memory c =
    c.byte.ensures ∙ ap (λ (m : Acted MemoryState). memory_byte m.state c.args.address) c.deref.ensures
    ∙ ap (λ (n : Node). byte_by (node_view n).state.kind (node_view n).state.state c.args.address) (sym c.in-Memory.is)

pub returns-in-LiteMemory : goal.returns-in-LiteMemory
returns-in-LiteMemory c =
    c.byte-in-LiteMemory.ensures ∙ ap (λ (m : Acted MemoryState). memory_byte m.state c.args.address) c.deref-in-LiteMemory.ensures
    ∙ ap (λ (n : Node). byte_by (node_view n).state.kind (node_view n).state.state c.args.address) (sym c.in-LiteMemory.is)
