-- What a judge of one link keeps of the link's rounds.
use Rattle.std.specs.Prelude.{◌≡◌, ◌≤◌, ℕ, List, Option, Some, None, IfSome, nat_lt, if◌then◌else◌}
use Rattle.axi_history.specs.declared.port.PortRound.{PortRound}
use Rattle.lite_rules.specs.PortFaults.{history_fault}
use Rattle.port_rules.specs.declared.state.PortChecker.{PortChecker}
use Rattle.port_rules.specs.StandsFor.{StandsFor, checked_port}
use Rattle.trace_judge.specs.Alike.{Alike}
use Rattle.trace_judge.specs.Histories.{history}
use Rattle.trace_judge.specs.declared.link_judge.LinkFault.{LinkFault}

-- what is broken up to a round, where this is broken first
abbrev pub fault_by : Option LinkFault → ℕ → Option (ℕ × ℕ)
fault_by None round = None
fault_by (Some f) round = if nat_lt round f.round then None else Some (f.channel, f.rule)

-- the checker was given rounds that break nothing, and leave waiting and have transferred what these do
pub record IsChecked (checker : PortChecker) (rounds : List PortRound) : Type 0 where
  pub given : List PortRound
  pub stands : StandsFor checker given
  pub alike : Alike rounds given
  pub legal : history_fault (checked_port checker) given ≡ None

-- Of a link that shows `shown` in each round, by the line with this number (0 for none): what is broken first in the
-- rounds from 1 to `rounds` is kept, and as long as nothing is broken the checker serves for these rounds.
pub record IsJudged (checker : PortChecker) (fault : Option LinkFault) (rounds : ℕ) (shown : ℕ → PortRound) (number : ℕ → ℕ) : Type 0 where
  pub told : (n : ℕ) → n ≤ rounds → history_fault (checked_port checker) (history shown n) ≡ fault_by fault n
  pub within : IfSome fault (λ f. (f.round ≤ rounds) × (f.line ≡ number f.round))
  pub checked : fault ≡ None → IsChecked checker (history shown rounds)
