-- What holds of histories, whatever judges them.
use Rattle.std.specs.Prelude.{◌≡◌, ℕ, ◌≤◌, List, None, length, take}
use Rattle.axi_history.specs.declared.port.PortKind.{PortKind}
use Rattle.axi_history.specs.declared.port.PortRound.{PortRound}
use Rattle.lite_rules.specs.PortFaults.{history_fault}
use Rattle.port_rules.specs.Unanswered.{legal_beginning, write_requests, write_answers, read_requests, read_answers}

-- a beginning of a history that breaks no rule, such that no longer beginning breaks none
pub record IsLongestLegal (port : PortKind) (beginning history : List PortRound) : Type 0 where
  pub begins : take (length beginning) history ≡ beginning
  pub legal : history_fault port beginning ≡ None
  pub longest :
      (n : ℕ) → n ≤ length history → history_fault port (take n history) ≡ None → n ≤ length beginning

abbrev pub LegalBeginningIsLongest : Type 0
LegalBeginningIsLongest =
    (port : PortKind) (history : List PortRound) → IsLongestLegal port (legal_beginning port history) history

-- a history that breaks no rule is its own legal beginning
abbrev pub LegalHistoryIsWhole : Type 0
LegalHistoryIsWhole =
    (port : PortKind) (history : List PortRound) → history_fault port history ≡ None →
    legal_beginning port history ≡ history

-- where no rule is broken, there are no more answers than requests
abbrev pub AnswersFollowRequests : Type 0
AnswersFollowRequests =
    (port : PortKind) (history : List PortRound) → history_fault port history ≡ None →
    (write_answers history ≤ write_requests history) × (read_answers history ≤ read_requests history)
