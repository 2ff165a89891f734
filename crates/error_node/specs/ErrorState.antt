-- An error subordinate as contracts see it between rounds.
use Rattle.std.specs.Prelude.{ℕ, [], ◌∷◌, All}
use Rattle.node_core.specs.Paces.{new_paces}
use Rattle.subordinate.specs.SubordinateState.{HasABeat, HasItsData, Subordinate, new_subordinate}

-- a subordinate that keeps no bytes
abbrev pub ErrorState : Type 0
ErrorState = Subordinate (Unit {0})

-- one below a link that nothing has asked yet; it waits for nothing
abbrev pub new_error : ℕ → ErrorState
new_error upper = new_subordinate upper (new_paces (0 ∷ []) (0 ∷ [])) tt

-- what holds of it between rounds
pub record IsError (s : ErrorState) : Type 0 where
  pub writes : All HasItsData s.writes
  pub reads : All HasABeat s.reads
