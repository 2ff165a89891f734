-- The rows of an endpoint's table: each is done as soon as its pace lets it.
use Rattle.std.specs.Prelude.{◌≡◌, ℕ, List, Bool, All}
use Rattle.axi_link.specs.LinkView.{LinkView}
use Rattle.axi_link.specs.declared.out.Out.{Out}
use Rattle.node_core.specs.Pace.{PaceState, is_let, pace_after}
use Rattle.node_shape.specs.Kind.{Kind, next_of, out_of}

-- a row: its condition, its pace, and whether it is done among a round's moves
pub record PacedRow (S : Type 0) : Type 0 where
  pub wanted : List LinkView → S → Bool
  pub pace : S → PaceState
  pub is_done : Out → Bool

module _ {S E : Type 0} (kind : Kind S E) where
  -- it is done where its condition holds and its pace lets it; else, where the condition holds, the pace waits a round more
  pub record IsPaced (round : ℕ) (links : List LinkView) (s : S) (row : PacedRow S) : Type 0 where
    pub done : row.is_done (out_of kind round links s) ≡ is_let (row.wanted links s) (row.pace s)
    pub paced : row.pace (next_of kind round links s) ≡ pace_after (row.wanted links s) (row.pace s)

  -- all rows of a table, of every state and all links
  abbrev pub ArePaced : List (PacedRow S) → Type 0
  ArePaced rows = (round : ℕ) (links : List LinkView) (s : S) → All (IsPaced round links s) rows
