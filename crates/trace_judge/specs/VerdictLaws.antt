-- What a verdict says of each link.
use Rattle.std.specs.Prelude.{◌≡◌, ◌<◌, ◌≤◌, ℕ, List, Some, None, Ok, length}
use Rattle.axi_history.specs.declared.port.PortKind.{PortKind}
use Rattle.axi_history.specs.declared.port.PortRound.{PortRound}
use Rattle.lite_rules.specs.PortFaults.{history_fault}
use Rattle.trace_judge.specs.Histories.{greatest_round, history, line_number_at, port_of_link, shown_in}
use Rattle.trace_judge.specs.Lines.{judged_lines, shown_by}
use Rattle.trace_judge.specs.Verdicts.{verdict_of}
use Rattle.trace_judge.specs.declared.verdict.TraceFault.{TraceFault}
use Rattle.trace_judge.specs.declared.verdict.Verdict.TheVariants.{Broken, Legal}

-- the rounds of a link break no rule up to this one
abbrev pub KeepsRules : List PortRound → ℕ → ℕ → Type 0
KeepsRules lines link round =
    (port : PortKind) → port_of_link lines link ≡ Some port → history_fault port (history (shown_in lines port link) round) ≡ None

-- a fault is that of its link up to its round; no link breaks a rule in an earlier round, and no lesser link in that one
pub record IsFirstFault (lines : List PortRound) (fault : TraceFault) : Type 0 where
  pub port : PortKind
  pub is_port : port_of_link lines fault.link ≡ Some port
  pub broken : history_fault port (history (shown_in lines port fault.link) fault.round) ≡ Some (fault.channel, fault.rule)
  pub round : fault.round ≤ greatest_round lines
  pub line : fault.line ≡ line_number_at lines fault.link fault.round
  pub earlier : (link round : ℕ) → round < fault.round → KeepsRules lines link round
  pub lesser : (link : ℕ) → link < fault.link → KeepsRules lines link fault.round

-- the lines are all trace lines in their places, and this is what they show
abbrev pub Shows : List ℕ → List PortRound → Type 0
Shows text lines = shown_by (judged_lines text) ≡ Ok lines

-- legal: every link keeps the rules in all rounds of the trace
abbrev pub LegalTracesKeepTheRules : Type 0
LegalTracesKeepTheRules =
    (text : List ℕ) (count : ℕ) → verdict_of text ≡ Legal count →
    (lines : List PortRound) × Shows text lines × (length lines ≡ count) × ((link round : ℕ) → round ≤ greatest_round lines → KeepsRules lines link round)

-- broken: the fault is the first one
abbrev pub BrokenTracesTellTheFirst : Type 0
BrokenTracesTellTheFirst = (text : List ℕ) (fault : TraceFault) → verdict_of text ≡ Broken fault → (lines : List PortRound) × Shows text lines × IsFirstFault lines fault
