-- What the laws of all kinds read of a manager, and what it says of its answers.
use Rattle.std.specs.Prelude.{◌≡◌, ◌<◌, ◌∷◌, [], ℕ, List, Bool, true, IsSome, is_some, length}
use Rattle.axi_link.specs.LinkView.{LinkView}
use Rattle.axi_link.specs.declared.out.Out.{Out}
use Rattle.manager_node.specs.ManagerState.{IsManager, ManagerState, answer_of, is_done}
use Rattle.manager_node.specs.ManagerTable.{below, manager_wishes}
use Rattle.manager_node.specs.ManagerTrail.{manager_kind}
use Rattle.node_core.specs.Pace.{PaceState}
use Rattle.node_core.specs.declared.paces.EachRow.{EachRow}
use Rattle.node_core.specs.declared.paces.Paces.{Paces}
use Rattle.node_shape.specs.Kind.{Kind}
use Rattle.node_shape.specs.Paced.{PacedRow}

-- the kind by itself, which notes nothing
abbrev pub manager_alone : Kind ManagerState (Unit {0})
manager_alone = manager_kind

-- the rows of its table with their paces
abbrev pub rows_wished : List LinkView → ManagerState → EachRow
rows_wished links s = manager_wishes (below links s) s

abbrev pub manager_row : (EachRow → Bool) → (Paces → PaceState) → (Out → Bool) → PacedRow ManagerState
manager_row wanted pace is_done = record { wanted = λ links s. wanted (rows_wished links s); pace = λ s. pace s.paces; is_done = is_done }

abbrev pub manager_paced : List (PacedRow ManagerState)
manager_paced =
    manager_row (λ rows. rows.aw) (λ paces. paces.aw) (λ out. is_some out.aw_put)
    ∷ manager_row (λ rows. rows.w) (λ paces. paces.w) (λ out. is_some out.w_put)
    ∷ manager_row (λ rows. rows.b) (λ paces. paces.b) (λ out. is_some out.b_take)
    ∷ manager_row (λ rows. rows.ar) (λ paces. paces.ar) (λ out. is_some out.ar_put)
    ∷ manager_row (λ rows. rows.r) (λ paces. paces.r) (λ out. is_some out.r_take)
    ∷ []

-- a manager that is done has an answer to each transaction
abbrev pub DoneIsAnswered : Type 0
DoneIsAnswered = (s : ManagerState) → IsManager s → is_done s ≡ true → (n : ℕ) → n < length s.script → IsSome (answer_of s n)
