-- What the laws of all kinds read of an error subordinate.
use Rattle.std.specs.Prelude.{List}
use Rattle.error_node.specs.ErrorState.{ErrorState}
use Rattle.error_node.specs.ErrorTrail.{error_kind}
use Rattle.node_shape.specs.Kind.{Kind}
use Rattle.node_shape.specs.Paced.{PacedRow}
use Rattle.subordinate.specs.PacedRows.{paced_rows}

-- the kind by itself, which notes nothing
abbrev pub error_alone : Kind ErrorState (Unit {0})
error_alone = error_kind

-- the rows of its table, with their paces
abbrev pub error_paced : List (PacedRow ErrorState)
error_paced = paced_rows (λ s. s)
