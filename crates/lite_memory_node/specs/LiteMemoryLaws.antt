-- What the laws of all kinds read of a Lite memory.
use Rattle.std.specs.Prelude.{List}
use Rattle.lite_memory_node.specs.LiteMemoryTrail.{lite_memory_kind}
use Rattle.memory_node.specs.Events.{Access}
use Rattle.memory_node.specs.MemoryState.{MemoryState}
use Rattle.node_shape.specs.Kind.{Kind}
use Rattle.node_shape.specs.Paced.{PacedRow}
use Rattle.subordinate.specs.PacedRows.{paced_rows}

-- the kind by itself
abbrev pub lite_memory_alone : Kind MemoryState Access
lite_memory_alone = lite_memory_kind

-- the rows of its table, with their paces
abbrev pub lite_memory_paced : List (PacedRow MemoryState)
lite_memory_paced = paced_rows (λ s. s.inner)
