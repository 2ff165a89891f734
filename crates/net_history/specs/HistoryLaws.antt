-- What holds of the history of every network that can be run.
use Rattle.std.specs.Prelude.{ℕ}
use Rattle.net_history.specs.Right.{IsRight}
use Rattle.net_kinds.specs.NodeKind.{NodeState, node_kind}
use Rattle.net_model.specs.Network.{Network}
use Rattle.net_ways.specs.Sound.{IsSound}
use Rattle.node_shape.specs.LinkForm.{LinkForm}

-- every run is right, after any number of rounds
abbrev pub RunsAreRight : Type 0
RunsAreRight = (net : Network NodeState) (forms : ℕ → LinkForm) → IsSound node_kind net forms → (rounds : ℕ) → IsRight net forms rounds
