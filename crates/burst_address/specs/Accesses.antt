-- What accesses to bytes leave behind, and what a read is answered with (Arm IHI 0022, transaction ordering, data read and
-- write structure).
use Rattle.std.specs.Prelude.{ℕ, ◌∷◌, [], List, Bool, true, false, if◌then◌else◌}

-- where some accesses write a place, each with a value
module _ {X : Type 0} (writes : X → Bool) (value : X → ℕ) where
  -- what the place holds after these accesses: what the last write there wrote, else what it held before
  abbrev pub value_after : ℕ → List X → ℕ
  value_after before [] = before
  value_after before (x ∷ more) = value_after (if writes x then value x else before) more

-- The bytes of an answer so far, by which of a read's bytes may be read: the values that were read, in order, and 0 for a
-- byte that can't be read. They end at the first byte that isn't read yet.
abbrev pub answered_bytes : List Bool → List ℕ → List ℕ
answered_bytes [] values = []
answered_bytes (false ∷ more) values = 0 ∷ answered_bytes more values
answered_bytes (true ∷ more) [] = []
answered_bytes (true ∷ more) (value ∷ values) = value ∷ answered_bytes more values
