-- Requests that wait: for their write data, or for their answers.
use Rattle.std.specs.Prelude.{ℕ, suc, ◌+◌, ◌-◌, ◌==◌, nat_lt, ◌∷◌, [], List, map, if◌then◌else◌}

-- a request that isn't finished, and how many of its beats have passed
pub record Waiting (X : Type 0) : Type 0 where
  pub request : X
  pub done : ℕ

-- a request of which no beat has passed
abbrev pub fresh : {X : Type 0} → X → Waiting X
fresh x = record { request = x; done = 0 }

abbrev pub waiting_request : {X : Type 0} → Waiting X → X
waiting_request w = w.request

-- the same where only what `shown` tells of the request counts
abbrev pub waiting_shown : {X Y : Type 0} → (X → Y) → Waiting X → Waiting Y
waiting_shown shown w = record { request = shown w.request; done = w.done }

-- Requests in order of issue; `len_of` tells how many beats of a request come after its first one.
module _ {X : Type 0} (len_of : X → ℕ) where
  -- how many beats these requests have
  abbrev pub beats_by : List X → ℕ
  beats_by [] = 0
  beats_by (x ∷ xs) = suc (len_of x) + beats_by xs

  -- the requests whose beats aren't all among the first `count`, where beats come in order of the requests
  abbrev pub pending : ℕ → List X → List (Waiting X)
  pending count [] = []
  pending count (x ∷ xs) =
      if nat_lt (len_of x) count
      then pending (count - suc (len_of x)) xs
      else record { request = x; done = count } ∷ pending 0 xs

  -- the requests whose beats are all among the first `count`
  abbrev pub complete : ℕ → List X → List X
  complete count [] = []
  complete count (x ∷ xs) = if nat_lt (len_of x) count then x ∷ complete (count - suc (len_of x)) xs else []

  -- one more beat of the first request, which leaves with its last beat
  abbrev pub advanced : List (Waiting X) → List (Waiting X)
  advanced [] = []
  advanced (w ∷ waiting) = if w.done == len_of w.request then waiting else record { request = w.request; done = suc w.done } ∷ waiting

  module _ (id_of : X → ℕ) where
    -- one more answer beat of an ID: it belongs to the oldest request of this ID
    abbrev pub answered_once : ℕ → List (Waiting X) → List (Waiting X)
    answered_once id [] = []
    answered_once id (w ∷ waiting) = if id_of w.request == id then advanced (w ∷ waiting) else w ∷ answered_once id waiting

    -- what waits after answer beats with these IDs
    abbrev pub answered_by : List (Waiting X) → List ℕ → List (Waiting X)
    answered_by waiting [] = waiting
    answered_by waiting (id ∷ ids) = answered_by (answered_once id waiting) ids

    -- the requests that are held: those that aren't wholly answered by answer beats with these IDs
    abbrev pub held : List X → List ℕ → List (Waiting X)
    held asked ids = answered_by (map fresh asked) ids
