-- That the run of every document that is accepted is right.
use Rattle.std.specs.Prelude.{◌≡◌, ◌<◌, ◌^◌, ℕ, List, None, Ok, length}
use Rattle.document.specs.Document.{Asked, document_of}
use Rattle.lite_rules.specs.PortFaults.{history_fault}
use Rattle.net_due.specs.DueLaws.{IsRightByPlan}
use Rattle.net_kinds.specs.NodeKind.{node_kind}
use Rattle.net_model.specs.Network.{net_link}
use Rattle.net_ranges.specs.TraceLines.{ShowsTraceLines}
use Rattle.net_runs.specs.Ports.{history_of, port_kind}
use Rattle.axi_program.specs.Run.{IsRunLength, bound, opened_network, run_rounds}

-- no port has broken a rule of its kind, AXI4 or AXI4-Lite, in the first rounds of a run
abbrev pub PortsLegal : Asked → ℕ → Type 0
PortsLegal asked rounds =
    (link : ℕ) → link < length (opened_network asked).links →
    history_fault (port_kind (net_link (opened_network asked).links link)) (history_of node_kind rounds (opened_network asked) link) ≡ None

-- The run of what is asked is right.
pub record RunIsRight (asked : Asked) : Type 0 where
  -- After any number of rounds, what was done of what is due by document and traffic was done once and in order, and answered
  -- with the right bytes and responses, and all of it once the network is finished; and every port kept the rules.
  pub right : (rounds : ℕ) → IsRightByPlan asked.nodes asked.items rounds
  pub legal : (rounds : ℕ) → PortsLegal asked rounds
  -- It ends after the least number of rounds after which all is answered, which is within the bound.
  pub ends : IsRunLength (opened_network asked) (bound asked) (run_rounds asked)
  -- What each port shows is within the ranges of a trace line, so that its line is one, in as many rounds as have numbers.
  pub traced : (rounds : ℕ) → rounds < 2 ^ 63 → ShowsTraceLines (opened_network asked) rounds

-- So is the run of every document that is accepted. One with a node of the kind `down` isn't accepted yet.
abbrev pub DocumentsRunRight : Type 0
DocumentsRunRight = (input : List ℕ) (asked : Asked) → document_of input ≡ Ok asked → RunIsRight asked
