-- What a port breaks, by its kind: the twelve rules of an AXI4 port, or the six of an AXI4-Lite port.
use Rattle.std.specs.Prelude.{ℕ, [], List, Option, if◌then◌else◌}
use Rattle.axi_history.specs.declared.port.PortKind.{PortKind}
use Rattle.axi_history.specs.declared.port.PortRound.{PortRound}
use Rattle.axi_history.specs.PortRules.{axi4_fault, first_fault}
use Rattle.lite_rules.specs.LiteRules.{lite_fault}

-- the least channel on which a round breaks a rule, after earlier rounds, and the least such rule
abbrev pub round_fault : PortKind → List PortRound → PortRound → Option (ℕ × ℕ)
round_fault port = if port.lite then lite_fault port.bus else axi4_fault port.bus

-- the channel and the rule that the history of a port breaks first; none where it keeps all rules
abbrev pub history_fault : PortKind → List PortRound → Option (ℕ × ℕ)
history_fault port history = first_fault (round_fault port) [] history
