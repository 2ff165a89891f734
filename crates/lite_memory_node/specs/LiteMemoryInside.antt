-- How a Lite memory is kept: contracts see it as the memory in it.
use Rattle.lite_memory_node.specs.declared.lite_memory.LiteMemoryNode.TheInside.{Inside}
use Rattle.memory_node.specs.MemoryState.{MemoryState}
use Rattle.node_core.specs.Acted.{Acted}

abbrev pub lite_memory_view : Inside → Acted MemoryState
lite_memory_view m = m.memory
