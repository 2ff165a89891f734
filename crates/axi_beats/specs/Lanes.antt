-- Data lanes (Arm IHI 0022, data read and write structure).
use Rattle.std.specs.Prelude.{ℕ}

-- the data lanes of a beat from the lowest to the highest one, both included
pub record Span : Type 0 where
  pub low : ℕ
  pub high : ℕ
