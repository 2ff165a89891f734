-- How the judge of one link fits the lines of a trace that were read.
use Rattle.std.specs.Prelude.{◌≡◌, ◌<◌, ◌≤◌, ◌+◌, ◌*◌, ◌^◌, ℕ, List, Option, None, IfSome, length}
use Rattle.std.specs.List.{find}
use Rattle.axi_history.specs.declared.port.PortKind.{PortKind}
use Rattle.axi_history.specs.declared.port.PortRound.{PortRound}
use Rattle.lite_rules.specs.PortFaults.{history_fault}
use Rattle.port_rules.specs.StandsFor.{checked_port, rounds_of}
use Rattle.trace_judge.specs.Histories.{greatest_round, history, is_line_of, line_number_at, shown_in}
use Rattle.trace_judge.specs.Judged.{fault_by, IsJudged}
use Rattle.trace_judge.specs.declared.link_judge.LinkFault.{LinkFault}
use Rattle.trace_judge.specs.declared.link_judge.LinkJudge.{LinkJudge}

-- a judge of a port of this kind has judged the link up to its last line
pub record Follows (judge : LinkJudge) (kind : PortKind) (lines : List PortRound) (link : ℕ) : Type 0 where
  pub port : checked_port judge.checker ≡ kind
  pub judged : IsJudged judge.checker judge.fault judge.rounds (shown_in lines kind link) (line_number_at lines link)
  pub last : (round : ℕ) → judge.rounds < round → find (is_line_of round link) lines ≡ None
  pub within : judge.rounds ≤ greatest_round lines
  pub few : rounds_of judge.checker ≤ 2 * length lines

-- What a judge needs for two more rounds: those of a line and of the row before it.
abbrev pub CanGoOn : LinkJudge → PortKind → Type 0
CanGoOn judge kind = (checked_port judge.checker ≡ kind) × (rounds_of judge.checker + 1 < 2 ^ 31)

-- the last round that was judged
abbrev pub HasJudgedTo : LinkJudge → ℕ → Type 0
HasJudgedTo judge round = judge.rounds ≡ round

-- no round from this one on was judged
abbrev pub HasNotJudged : LinkJudge → ℕ → Type 0
HasNotJudged judge round = judge.rounds < round

-- what a link breaks first in the rounds from 1 to the greatest of a line
pub record TellsOf (fault : Option LinkFault) (kind : PortKind) (lines : List PortRound) (link : ℕ) : Type 0 where
  pub told : (n : ℕ) → n ≤ greatest_round lines → history_fault kind (history (shown_in lines kind link) n) ≡ fault_by fault n
  pub within : IfSome fault (λ f. (f.round ≤ greatest_round lines) × (f.line ≡ line_number_at lines link f.round))
