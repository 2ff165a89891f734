-- A slice as contracts see it.
use Rattle.std.specs.Prelude.{ℕ}

-- the numbers of the link above it and of the link below it: it remembers nothing of its rounds
pub record SliceState : Type 0 where
  pub upper : ℕ
  pub lower : ℕ

abbrev pub new_slice : ℕ → ℕ → SliceState
new_slice upper lower = record { upper = upper; lower = lower }
