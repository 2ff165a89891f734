-- Lists that grow from round to round.
use Rattle.std.specs.Prelude.{◌++◌, [], ℕ, zero, suc, List}

-- all that rounds 0 to n - 1 add, one round after the other
abbrev pub over : {X : Type 0} → (ℕ → List X) → ℕ → List X
over added zero = []
over added (suc n) = over added n ++ added n
