-- What the links of a trace break first, link by link.
use Rattle.std.specs.Prelude.{◌≡◌, ◌≤◌, ℕ, List, Option, Some, None, IfSome, nat_le, nat_lt, if◌then◌else◌}
use Rattle.axi_history.specs.declared.port.PortRound.{PortRound}
use Rattle.trace_judge.specs.Follows.{CanGoOn}
use Rattle.trace_judge.specs.Histories.{broken_at, greatest_round, line_number_at}
use Rattle.trace_judge.specs.declared.link_judge.LinkFault.{LinkFault}
use Rattle.trace_judge.specs.declared.link_state.LinkState.{LinkState}
use Rattle.trace_judge.specs.declared.verdict.TraceFault.{TraceFault}

-- what a link breaks, with the link
abbrev pub fault_on : ℕ → LinkFault → TraceFault
fault_on link f = record { line = f.line; round = f.round; link = link; channel = f.channel; rule = f.rule }

-- the earlier of two faults; in one round that of the lesser link, which comes first here
abbrev pub earlier_of : Option TraceFault → ℕ → LinkFault → Option TraceFault
earlier_of None link f = Some (fault_on link f)
earlier_of (Some first) link f = if nat_le first.round f.round then Some first else Some (fault_on link f)

-- the first fault, with one more link
abbrev pub with_link : Option TraceFault → ℕ → Option LinkFault → Option TraceFault
with_link first link None = first
with_link first link (Some f) = earlier_of first link f

-- what is kept of a link can be judged to the end
abbrev pub EntryServes : Option LinkState → Type 0
EntryServes None = Unit {0}
EntryServes (Some state) = CanGoOn state.judge state.port

-- what is broken up to a round on a link that breaks this first
abbrev pub broken_by : List PortRound → ℕ → Option LinkFault → ℕ → Option TraceFault
broken_by lines link None n = None
broken_by lines link (Some f) n =
    if nat_lt n f.round then None else Some (record { line = line_number_at lines link n; round = n; link = link; channel = f.channel; rule = f.rule })

-- what a link breaks first in the rounds of the trace
pub record IsFaultOf (fault : Option LinkFault) (lines : List PortRound) (link : ℕ) : Type 0 where
  pub told : (n : ℕ) → n ≤ greatest_round lines → broken_at lines n link ≡ broken_by lines link fault n
  pub within : IfSome fault (λ f. (f.round ≤ greatest_round lines) × (f.line ≡ line_number_at lines link f.round))
