-- What accesses leave behind, one part of them after the other.
use Rattle.std.proofs.Common.{◌≡◌, ℕ, Bool, cond, List, [], ◌∷◌, ◌++◌, refl}
use Rattle.burst_address.specs.Accesses.{value_after}

module _ {X : Type 0} (writes : X → Bool) (value : X → ℕ) where
  pub value_after-append : (before : ℕ) (all more : List X) → value_after writes value before (all ++ more) ≡ value_after writes value (value_after writes value before all) more
  value_after-append before [] more = refl
  value_after-append before (x ∷ all) more = value_after-append (cond (writes x) (value x) before) all more
