-- What is known of every document that is accepted.
use Rattle.std.specs.Prelude.{◌≡◌, ℕ, List, None, Ok}
use Rattle.document.specs.Document.{Asked, document_of}
use Rattle.elaborate.specs.Unbuilt.{unbuilt_at}
use Rattle.plan_traffic.specs.Accepted.{IsTraffic}
use Rattle.topology.specs.Refused.{IsAccepted}
use Rattle.topology_text.specs.Formed.{AreFormed}

-- What is asked for can be run: each node has the keys of its kind, none is refused, none is of a kind that isn't built yet, and the transactions suit
-- them.
pub record IsRunnable (asked : Asked) : Type 0 where
  pub formed : AreFormed asked.nodes
  pub accepted : IsAccepted asked.nodes
  pub built : unbuilt_at asked.nodes ≡ None
  pub traffic : IsTraffic asked.nodes asked.items

-- so it is with every document that isn't refused
abbrev pub AcceptedAreRunnable : Type 0
AcceptedAreRunnable = (input : List ℕ) (asked : Asked) → document_of input ≡ Ok asked → IsRunnable asked
