-- How the rules of AXI4-Lite stand to those of AXI4.
use Rattle.std.specs.Prelude.{◌≡◌, ℕ, List, true, None}
use Rattle.std.specs.List.{AllByRecursion}
use Rattle.std.specs.Option.{ForSome}
use Rattle.axi_history.specs.declared.port.PortRound.{PortRound}
use Rattle.axi_history.specs.PortHistory.{offer_of}
use Rattle.axi_history.specs.PortRules.{axi4_history_fault}
use Rattle.lite_rules.specs.LiteRules.{is_lite_access}
use Rattle.lite_rules.specs.PortFaults.{history_fault}

-- each address that a round offers is an access of AXI4-Lite, and each beat of write data a last one
pub record ShowsWords (bus : ℕ) (r : PortRound) : Type 0 where
  pub aw : ForSome (offer_of r.aw) (λ a. is_lite_access bus a ≡ true)
  pub w : ForSome (offer_of r.w) (λ w. w.last ≡ true)
  pub ar : ForSome (offer_of r.ar) (λ a. is_lite_access bus a ≡ true)

-- A port that is asked for nothing else and keeps the rules of AXI4 keeps those of AXI4-Lite: what the answers have to
-- be follows from what they answer.
abbrev pub WordsAreLite : Type 0
WordsAreLite =
    (bus : ℕ) (history : List PortRound) → axi4_history_fault bus history ≡ None → AllByRecursion (ShowsWords bus) history →
    history_fault (record { lite = true; bus = bus }) history ≡ None
