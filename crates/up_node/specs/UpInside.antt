-- How an up converter is kept: what contracts see of its fields, and what holds of them.
use Rattle.std.specs.Prelude.{◌==◌, ◌+◌, [], ◌∷◌, ℕ, List, map, if◌then◌else◌}
use Rattle.std.proofs.Common.{zero, suc}
use Rattle.axi_beats.specs.declared.beat.Addr.{Addr}
use Rattle.axi_trail.specs.Waiting.{Waiting}
use Rattle.node_core.specs.Acted.{Acted}
use Rattle.up_node.specs.UpState.{IsUp, UpState}
use Rattle.up_node.specs.declared.passing.Passing.{Passing}
use Rattle.up_node.specs.declared.up.UpNode.TheInside.{Inside}

-- an entry as a request that waits
abbrev pub waiting_of : Passing → Waiting Addr
waiting_of entry = record { request = entry.request; done = entry.passed }

-- the entries after one more beat of that at a place
abbrev pub beat_noted : ℕ → List Passing → List Passing
beat_noted place [] = []
beat_noted zero (entry ∷ entries) = if entry.passed == entry.request.len then entries else record { request = entry.request; passed = entry.passed + 1 } ∷ entries
beat_noted (suc place) (entry ∷ entries) = entry ∷ beat_noted place entries

-- the state that contracts see
abbrev pub up_state : Inside → UpState
up_state n = record { shape = n.shape; writes = map waiting_of n.writes; reads = map waiting_of n.reads }

-- and with it the moves of the round
abbrev pub up_view : Inside → Acted UpState
up_view n = record { state = up_state n; out = n.out }

abbrev pub IsUpInside : Inside → Type 0
IsUpInside n = IsUp (up_state n)
