-- A stream of the runtime with a count of its faults, as contracts see it.
use Rattle.std.specs.Prelude.{ℕ}

-- the stream, and how many of its calls failed
pub record Counted (X : Type 0) : Type 0 where
  pub stream : X
  pub faults : ℕ
