-- The run of what a document asks for: its rounds up to the first state in which every transaction is answered.
use Rattle.std.specs.Prelude.{◌≡◌, ◌<◌, ◌≤◌, ◌+◌, ℕ, zero, suc, true, false, if◌then◌else◌}
use Rattle.document.specs.Document.{Asked}
use Rattle.net_build.specs.NetRun.{NetRun}
use Rattle.net_kinds.specs.NodeKind.{NodeState, node_kind}
use Rattle.net_model.specs.Network.{Network, after_rounds, is_finished}
use Rattle.net_opening.specs.Opening.{opening}
use Rattle.plan_traffic.specs.Bound.{round_bound}

module _ (asked : Asked) where
  -- the network before its first round
  abbrev pub opened_network : Network NodeState
  opened_network = opening asked.nodes asked.items

  -- and after so many rounds
  abbrev pub run_after : ℕ → NetRun
  run_after rounds = record { nodes = asked.nodes; items = asked.items; rounds = rounds; decided = false }

  -- the most rounds that are made
  abbrev pub bound : ℕ
  bound = round_bound asked.nodes asked.items

-- the least number of rounds from this one on after which all is answered, or where the rounds end
abbrev pub least_finished : Network NodeState → ℕ → ℕ → ℕ
least_finished net from zero = from
least_finished net from (suc left) = if is_finished node_kind (after_rounds node_kind from net) then from else least_finished net (from + 1) left

-- the rounds of a run: the least number after which all is answered, at most as many as the bound
unfoldable pub run_length : Network NodeState → ℕ → ℕ
run_length net bound = least_finished net 0 bound

-- that it is the least one after which all is answered
pub record IsRunLength (net : Network NodeState) (bound rounds : ℕ) : Type 0 where
  pub within : rounds ≤ bound
  pub before : (n : ℕ) → n < rounds → is_finished node_kind (after_rounds node_kind n net) ≡ false
  pub finished : is_finished node_kind (after_rounds node_kind rounds net) ≡ true

unfoldable pub run_rounds : Asked → ℕ
run_rounds asked = run_length (opened_network asked) (bound asked)

-- the network after the run
abbrev pub run_end : Asked → NetRun
run_end asked = run_after asked (run_rounds asked)
