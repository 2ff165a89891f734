-- What the laws of all kinds read of a memory.
use Rattle.std.specs.Prelude.{List}
use Rattle.memory_node.specs.Events.{Access}
use Rattle.memory_node.specs.MemoryState.{MemoryState}
use Rattle.memory_node.specs.MemoryTrail.{memory_kind}
use Rattle.node_shape.specs.Kind.{Kind}
use Rattle.node_shape.specs.Paced.{PacedRow}
use Rattle.subordinate.specs.PacedRows.{paced_rows}

-- the kind by itself
abbrev pub memory_alone : Kind MemoryState Access
memory_alone = memory_kind

-- the rows of its table, with their paces
abbrev pub memory_paced : List (PacedRow MemoryState)
memory_paced = paced_rows (λ s. s.inner)
