-- What a checker stands for: the rounds of its port that it was given.
use Rattle.std.specs.Prelude.{◌≡◌, ℕ, ◌+◌, ◌<◌, ◌^◌, List, None, length}
use Rattle.std.specs.Option.{ForSome}
use Rattle.axi_history.specs.declared.port.PortKind.{PortKind}
use Rattle.axi_history.specs.declared.port.PortRound.{PortRound}
use Rattle.axi_history.specs.PortHistory.{offer_of}
use Rattle.lite_rules.specs.PortFaults.{history_fault}
use Rattle.port_rules.specs.declared.state.PortChecker.{PortChecker}
use Rattle.port_rules.specs.Kept.{kept_of}
use Rattle.port_rules.specs.LiteHeld.{HeldOn}
use Rattle.port_rules.specs.Unanswered.{unanswered_writes, unanswered_reads}

-- the port of a checker, and the number of rounds that it was given
abbrev pub checked_port : PortChecker → PortKind
checked_port c = c.port

abbrev pub rounds_of : PortChecker → ℕ
rounds_of c = c.rounds

-- the addresses that a round offers are below 2 ^ 63
pub record HasSmallAddresses (r : PortRound) : Type 0 where
  pub aw : ForSome (offer_of r.aw) (λ a. a.addr < 2 ^ 63)
  pub ar : ForSome (offer_of r.ar) (λ a. a.addr < 2 ^ 63)

-- a checker stands for the rounds that it was given, from the first one on
pub record StandsFor (c : PortChecker) (history : List PortRound) : Type 0 where
  pub rounds : c.rounds ≡ length history
  -- the checker keeps what the rounds break first
  pub fault : c.fault ≡ history_fault c.port history
  -- and, as long as they break no rule, what is outstanding
  pub held : c.fault ≡ None → HeldOn c.port (kept_of c) history
  -- the requests that wait for the end of their answer, in the rounds before the first broken one
  pub writes : length c.writes.issued.items + length c.writes.whole.items ≡ unanswered_writes c.port history
  pub reads : length c.reads.reads.items ≡ unanswered_reads c.port history
