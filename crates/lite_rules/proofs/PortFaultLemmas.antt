-- What a port breaks first, in histories with one more round.
use Rattle.std.proofs.Common.{◌≡◌, ℕ, ◌∷◌, [], ◌++◌, List, Option, Some, None, ap, ◌∙◌}
use Rattle.axi_history.specs.declared.port.PortKind.{PortKind}
use Rattle.axi_history.specs.declared.port.PortRound.{PortRound}
use Rattle.axi_history.specs.PortRules.{or_else}
use Rattle.axi_history.proofs.HistoryLemmas.{first_more}
use Rattle.lite_rules.specs.PortFaults.{round_fault, history_fault}

pub port_more : (port : PortKind) (h : List PortRound) (r : PortRound) → history_fault port (h ++ r ∷ []) ≡ or_else (history_fault port h) (round_fault port h r)
port_more port h r = first_more (round_fault port) [] h r

-- what is broken stays so, and what is broken anew is what the last round breaks
pub port_fault_stays : (port : PortKind) (h : List PortRound) (r : PortRound) (f : ℕ × ℕ) → history_fault port h ≡ Some f → history_fault port (h ++ r ∷ []) ≡ Some f
port_fault_stays port h r f broken = port_more port h r ∙ ap (λ (o : Option (ℕ × ℕ)). or_else o (round_fault port h r)) broken

pub port_fault_anew : (port : PortKind) (h : List PortRound) (r : PortRound) → history_fault port h ≡ None → history_fault port (h ++ r ∷ []) ≡ round_fault port h r
port_fault_anew port h r legal = port_more port h r ∙ ap (λ (o : Option (ℕ × ℕ)). or_else o (round_fault port h r)) legal
