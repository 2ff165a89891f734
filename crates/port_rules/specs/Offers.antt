-- Offers that are new.
use Rattle.std.specs.Prelude.{ℕ, Option, Some, None}

module _ {X : Type 0} where
  -- the beat that is offered where none waits since the round before
  abbrev pub new_offer : Option X → Option X → Option X
  new_offer None offer = offer
  new_offer (Some beat) offer = None

  -- what a beat that is offered breaks
  abbrev pub fault_of_offer : Option X → (X → Option ℕ) → Option ℕ
  fault_of_offer None fault = None
  fault_of_offer (Some beat) fault = fault beat
