-- What is kept of a link is changed where it stands.
use Rattle.std.proofs.Common.{◌≡◌, ◌<◌, ◌≤◌, ℕ, List, Option, Some, None, arith, subst, sym}
use Rattle.std.specs.List.{find}
use Rattle.axi_history.specs.declared.port.PortKind.{PortKind}
use Rattle.axi_history.specs.declared.port.PortRound.{PortRound}
use Rattle.trace_judge.specs.Entries.{HasTaken}
use Rattle.trace_judge.specs.Follows.{Follows, HasJudgedTo, HasNotJudged}
use Rattle.trace_judge.specs.Histories.{is_of_link}
use Rattle.trace_judge.specs.declared.link_judge.LinkJudge.{LinkJudge}
use Rattle.trace_judge.specs.declared.link_state.LinkState.{LinkState}

not_judged : (judge : LinkJudge) (round : ℕ) → 1 ≤ round → HasJudgedTo judge 0 → HasNotJudged judge round
not_judged judge round one judged = let before : judge.rounds < round = omega (arith, judged) in before

-- a new link fits a link without a line, so what it is after its first line is what is kept after none
pub taken_first : (new : LinkState) (after : Option LinkState) (line : ℕ) (r : PortRound) → 1 ≤ r.round → new.port ≡ r.kind → HasJudgedTo new.judge 0 →
    ((lines : List PortRound) (link : ℕ) → find (is_of_link link) lines ≡ None → Follows new.judge r.kind lines link) →
    HasTaken (Some new) after line r → HasTaken None after line r
taken_first new after line r one port judged fits t = record {
  state = t.state;
  kept = t.kept;
  port = t.port;
  rounds = t.rounds;
  follows = λ lines is_next none.
      t.follows lines is_next (
        not_judged new.judge r.round one judged,
        subst (λ (kind : PortKind). Follows new.judge kind lines r.link) (sym port) (fits lines r.link none),
      );
}
