-- The beginning of a list, and lists of which one is the beginning of the other.
use Rattle.std.specs.Prelude.{◌≡◌, ◌<◌, ◌++◌, ℕ, List, length, slice_index_or}

module _ {X : Type 0} where
  -- the first list is a beginning of the second one
  pub record IsPrefix (xs ys : List X) : Type 0 where
    pub rest : List X
    pub whole : ys ≡ xs ++ rest

  -- the lists are equal at each place that both have: one of them is a beginning of the other
  pub record Agree (xs ys : List X) : Type 0 where
    pub same : (place : ℕ) (past : X) → place < length xs → place < length ys → slice_index_or xs place past ≡ slice_index_or ys place past
