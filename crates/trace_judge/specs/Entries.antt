-- How what is kept at the place of a link fits the lines of a trace that were read.
use Rattle.std.specs.Prelude.{◌≡◌, ◌<◌, ◌≤◌, ◌+◌, ◌++◌, ◌∷◌, [], ℕ, List, Option, Some, None, true, length}
use Rattle.std.specs.List.{find, last_or, list_all}
use Rattle.axi_history.specs.declared.port.PortKind.{PortKind}
use Rattle.axi_history.specs.declared.port.PortRound.{PortRound}
use Rattle.trace_judge.specs.Follows.{CanGoOn, Follows, HasJudgedTo, HasNotJudged}
use Rattle.trace_judge.specs.Histories.{is_of_link, port_of_link, quiet_round}
use Rattle.trace_judge.specs.Lines.{agrees_with, comes_after}
use Rattle.trace_judge.specs.declared.link_judge.LinkJudge.{LinkJudge}
use Rattle.trace_judge.specs.declared.link_state.LinkState.{LinkState}

-- the rounds that were judged come before what a line shows, by round and then by link
abbrev pub IsPassedBy : LinkJudge → ℕ → PortRound → Type 0
IsPassedBy judge link r = (judge.rounds ≤ r.round) × (judge.rounds ≡ r.round → link < r.link)

-- what is kept of a link that has lines
pub record LinkStands (state : LinkState) (lines : List PortRound) (link : ℕ) : Type 0 where
  pub port : port_of_link lines link ≡ Some state.port
  pub agree : list_all (agrees_with (quiet_round state.port link 0)) lines ≡ true
  pub follows : Follows state.judge state.port lines link
  pub passed : (r : PortRound) → comes_after (last_or None lines) r ≡ true → IsPassedBy state.judge link r

-- nothing is kept of a link without a line
abbrev pub EntryStands : Option LinkState → List PortRound → ℕ → Type 0
EntryStands None lines link = find (is_of_link link) lines ≡ None
EntryStands (Some state) lines link = LinkStands state lines link

-- a line of this port may come
abbrev pub EntryTakes : Option LinkState → PortKind → Type 0
EntryTakes None kind = Unit {0}
EntryTakes (Some state) kind = (state.port ≡ kind) × CanGoOn state.judge state.port

-- what is kept of a link fits the lines before the one that comes next, and has judged no round from that line's on
abbrev pub EntryFollows : Option LinkState → List PortRound → PortRound → Type 0
EntryFollows None lines r = find (is_of_link r.link) lines ≡ None
EntryFollows (Some state) lines r = HasNotJudged state.judge r.round × Follows state.judge state.port lines r.link

-- What is kept of a link after the line that comes next, of this number, and what it fits if what was kept before did.
pub record HasTaken (before after : Option LinkState) (line : ℕ) (r : PortRound) : Type 0 where
  pub state : LinkState
  pub kept : after ≡ Some state
  pub port : state.port ≡ r.kind
  pub rounds : HasJudgedTo state.judge r.round
  pub follows : (lines : List PortRound) → line ≡ length lines + 1 → EntryFollows before lines r → Follows state.judge r.kind (lines ++ r ∷ []) r.link
