-- The rows of a subordinate's table with their paces, for a kind whose state has a subordinate in it.
use Rattle.std.specs.Prelude.{[], ◌∷◌, List, is_some}
use Rattle.axi_link.specs.LinkView.{LinkView}
use Rattle.axi_link.specs.LinkWords.{link_of}
use Rattle.node_core.specs.declared.paces.EachRow.{EachRow}
use Rattle.node_shape.specs.Paced.{PacedRow}
use Rattle.subordinate.specs.SubordinateState.{Subordinate}
use Rattle.subordinate.specs.SubordinateTable.{wanted_rows}

module _ {S D : Type 0} (inner : S → Subordinate D) where
  abbrev pub rows_wanted : List LinkView → S → EachRow
  rows_wanted links s = wanted_rows (link_of links (inner s).upper) (inner s).writes (inner s).reads

  abbrev pub paced_rows : List (PacedRow S)
  paced_rows =
      record { wanted = λ links s. (rows_wanted links s).aw; pace = λ s. (inner s).paces.aw; is_done = λ out. is_some out.aw_take }
      ∷ record { wanted = λ links s. (rows_wanted links s).w; pace = λ s. (inner s).paces.w; is_done = λ out. is_some out.w_take }
      ∷ record { wanted = λ links s. (rows_wanted links s).b; pace = λ s. (inner s).paces.b; is_done = λ out. is_some out.b_put }
      ∷ record { wanted = λ links s. (rows_wanted links s).ar; pace = λ s. (inner s).paces.ar; is_done = λ out. is_some out.ar_take }
      ∷ record { wanted = λ links s. (rows_wanted links s).r; pace = λ s. (inner s).paces.r; is_done = λ out. is_some out.r_put }
      ∷ []
