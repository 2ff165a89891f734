-- Whose turn it is among the ports of a node.
use Rattle.std.specs.Prelude.{ℕ, ◌≡◌, ◌+◌, ◌-◌, ◌<◌, ◌≤◌, ◌++◌, List, Bool, Option, Some, IsTrue, IsSome}
use Rattle.std.specs.List.{find, range_with_len}

-- how many ports there are, and the one that was picked last
pub record TurnState : Type 0 where
  pub ports : ℕ
  pub last : ℕ

-- at the start the greatest port is held to be picked last
abbrev pub new_turn : ℕ → TurnState
new_turn ports = record { ports = ports; last = ports - 1 }

-- the ports in the order in which they are tried: those behind the last one, and then from port 0 up to that one
abbrev pub tried : TurnState → List ℕ
tried t = range_with_len (t.last + 1) (t.ports - (t.last + 1)) ++ range_with_len 0 (t.last + 1)

-- the first port that is ready, in this order
abbrev pub first_in_turn : (ℕ → Bool) → TurnState → Option ℕ
first_in_turn is_ready t = find is_ready (tried t)

-- this port's beat was moved
abbrev pub turned_to : ℕ → TurnState → TurnState
turned_to port t = record { ports = t.ports; last = port }

-- there is some port, and the last one is a port
pub record IsTurn (t : TurnState) : Type 0 where
  pub most : t.ports ≤ 17
  pub last : t.last < t.ports

-- What is picked is a port, and ready.
abbrev pub PickedIsReady : Type 0
PickedIsReady = (is_ready : ℕ → Bool) (t : TurnState) (port : ℕ) → IsTurn t → first_in_turn is_ready t ≡ Some port → (port < t.ports) × IsTrue (is_ready port)

-- Where a port is ready, one is picked.
abbrev pub ReadyIsPicked : Type 0
ReadyIsPicked = (is_ready : ℕ → Bool) (t : TurnState) (port : ℕ) → IsTurn t → port < t.ports → IsTrue (is_ready port) → IsSome (first_in_turn is_ready t)

-- After a pick the port behind it is tried first, if there is one.
abbrev pub TurnsGoOn : Type 0
TurnsGoOn =
    (is_ready : ℕ → Bool) (t : TurnState) (port : ℕ) → port + 1 < t.ports → IsTrue (is_ready (port + 1)) → first_in_turn is_ready (turned_to port t) ≡ Some (port + 1)
