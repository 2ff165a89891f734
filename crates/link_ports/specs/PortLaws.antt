-- Why the port of a link breaks no rule, where the two nodes at the link keep its contracts. The rules are numbered as
-- in `axi_history.specs.PortRules`, and those of AXI4-Lite as in `lite_rules.specs.LiteRules`.
use Rattle.std.specs.Prelude.{◌≡◌, ℕ, suc, List, Option, Some, None, map, true}
use Rattle.axi_history.specs.declared.port.PortKind.{PortKind}
use Rattle.axi_history.specs.declared.port.PortRound.{PortRound}
use Rattle.axi_history.specs.PortHistory.{offer_of, transferred, waiting, offered, on_aw, on_w, on_b, on_ar, on_r}
use Rattle.axi_history.specs.PortRules.{least_broken, write_address_rules, write_data_rules, write_response_rules, read_address_rules, read_data_rules, axi4_fault, axi4_history_fault}
use Rattle.axi_link.specs.LinkView.{LinkView}
use Rattle.axi_link.specs.LinkWords.{link_of}
use Rattle.axi_link.specs.declared.out.Out.{Out}
use Rattle.axi_trail.specs.LinkContracts.{Asks, Answers}
use Rattle.axi_trail.specs.Schedule.{Schedule, Progress}
use Rattle.axi_trail.specs.Trail.{Beats, IsLinkRun, trail_above, trail_below, seen_above, seen_below}
use Rattle.lite_rules.specs.LiteLaws.{ShowsWords}
use Rattle.lite_rules.specs.PortFaults.{history_fault}
use Rattle.node_shape.specs.LegalSchedule.{IsLegalSchedule}
use Rattle.link_ports.specs.PortView.{seen_address, seen_itself, seen_response, seen_read_beat, port_round, port_history}
use Rattle.link_ports.specs.WordSchedule.{IsWordSchedule}

-- Ports and trails.

-- these beats have been transferred: addresses and write data, and answers
pub record HasTransferred (history : List PortRound) (asked answered : Beats) : Type 0 where
  pub aw : transferred on_aw history ≡ map seen_address asked.aw
  pub w : transferred on_w history ≡ map seen_itself asked.w
  pub b : transferred on_b history ≡ map seen_response answered.b
  pub ar : transferred on_ar history ≡ map seen_address asked.ar
  pub r : transferred on_r history ≡ map seen_read_beat answered.r

-- these beats have been offered, whether they were taken or not
pub record HasOffered (history : List PortRound) (asked answered : Beats) : Type 0 where
  pub aw : offered on_aw history ≡ map seen_address asked.aw
  pub w : offered on_w history ≡ map seen_itself asked.w
  pub b : offered on_b history ≡ map seen_response answered.b
  pub ar : offered on_ar history ≡ map seen_address asked.ar
  pub r : offered on_r history ≡ map seen_read_beat answered.r

-- the beat that waits, if there is one, is offered
abbrev pub IsOffered : {X : Type 0} → Option X → Option X → Type 0
IsOffered None offer = Unit {0}
IsOffered (Some beat) offer = offer ≡ Some beat

-- what waits on each channel after these rounds is offered in the next one
pub record IsOfferedAgain (history : List PortRound) (next : PortRound) : Type 0 where
  pub aw : IsOffered (waiting on_aw history) (offer_of next.aw)
  pub w : IsOffered (waiting on_w history) (offer_of next.w)
  pub b : IsOffered (waiting on_b history) (offer_of next.b)
  pub ar : IsOffered (waiting on_ar history) (offer_of next.ar)
  pub r : IsOffered (waiting on_r history) (offer_of next.r)

-- what a port has transferred is what the receiving ends of its link have passed
abbrev pub TransferredAreTrails : Type 0
TransferredAreTrails =
    (number : ℕ) (kind : PortKind) (links : ℕ → List LinkView) (uppers lowers : ℕ → Out) (n : ℕ) →
    HasTransferred (port_history number kind links uppers lowers n) (trail_below lowers links n number) (trail_above uppers links n number)

-- and what it has offered is that, and the heads that these ends look at in the last round
abbrev pub OfferedAreTrails : Type 0
OfferedAreTrails =
    (number : ℕ) (kind : PortKind) (links : ℕ → List LinkView) (uppers lowers : ℕ → Out) (n : ℕ) →
    HasOffered (port_history number kind links uppers lowers (suc n)) (seen_below (trail_below lowers links n number) (link_of (links n) number)) (seen_above (trail_above uppers links n number) (link_of (links n) number))

-- a link is a queue: what isn't taken stays its head
abbrev pub WaitingAreOfferedAgain : Type 0
WaitingAreOfferedAgain =
    (number : ℕ) (kind : PortKind) (links : ℕ → List LinkView) (uppers lowers : ℕ → Out) → IsLinkRun number links uppers lowers → (n : ℕ) →
    IsOfferedAgain (port_history number kind links uppers lowers n) (port_round number kind links uppers lowers n)

-- The channels, in the round after n rounds.

-- AW keeps rules 1 to 8
abbrev pub WriteAddressesAreLegal : Type 0
WriteAddressesAreLegal =
    (schedule : Schedule) (now : Progress) (number : ℕ) (kind : PortKind) (links : ℕ → List LinkView) (uppers lowers : ℕ → Out) → IsLinkRun number links uppers lowers → IsLegalSchedule kind.bus schedule → (n : ℕ) →
    Asks schedule now (trail_above uppers links n number) →
    least_broken (write_address_rules kind.bus (port_history number kind links uppers lowers n) (port_round number kind links uppers lowers n)) ≡ None

-- W keeps rules 1, 2, 9 and 10
abbrev pub WriteDataIsLegal : Type 0
WriteDataIsLegal =
    (schedule : Schedule) (now : Progress) (number : ℕ) (kind : PortKind) (links : ℕ → List LinkView) (uppers lowers : ℕ → Out) → IsLinkRun number links uppers lowers → IsLegalSchedule kind.bus schedule → (n : ℕ) →
    Asks schedule now (trail_above uppers links n number) →
    least_broken (write_data_rules kind.bus (port_history number kind links uppers lowers n) (port_round number kind links uppers lowers n)) ≡ None

-- B keeps rules 1, 2, 8 and 11
abbrev pub WriteResponsesAreLegal : Type 0
WriteResponsesAreLegal =
    (schedule : Schedule) (now : Progress) (number : ℕ) (kind : PortKind) (links : ℕ → List LinkView) (uppers lowers : ℕ → Out) → IsLinkRun number links uppers lowers → (n : ℕ) →
    Answers schedule now (trail_below lowers links n number) →
    least_broken (write_response_rules (port_history number kind links uppers lowers n) (port_round number kind links uppers lowers n)) ≡ None

-- AR keeps rules 1 to 8
abbrev pub ReadAddressesAreLegal : Type 0
ReadAddressesAreLegal =
    (schedule : Schedule) (now : Progress) (number : ℕ) (kind : PortKind) (links : ℕ → List LinkView) (uppers lowers : ℕ → Out) → IsLinkRun number links uppers lowers → IsLegalSchedule kind.bus schedule → (n : ℕ) →
    Asks schedule now (trail_above uppers links n number) →
    least_broken (read_address_rules kind.bus (port_history number kind links uppers lowers n) (port_round number kind links uppers lowers n)) ≡ None

-- R keeps rules 1, 2, 8, 11 and 12
abbrev pub ReadDataIsLegal : Type 0
ReadDataIsLegal =
    (schedule : Schedule) (now : Progress) (number : ℕ) (kind : PortKind) (links : ℕ → List LinkView) (uppers lowers : ℕ → Out) → IsLinkRun number links uppers lowers → (n : ℕ) →
    Answers schedule now (trail_below lowers links n number) →
    least_broken (read_data_rules (port_history number kind links uppers lowers n) (port_round number kind links uppers lowers n)) ≡ None

-- All channels together.

-- a round breaks no rule, where both nodes have kept their contracts up to it
abbrev pub RoundsAreLegal : Type 0
RoundsAreLegal =
    (schedule : Schedule) (now : Progress) (number : ℕ) (kind : PortKind) (links : ℕ → List LinkView) (uppers lowers : ℕ → Out) → IsLinkRun number links uppers lowers → IsLegalSchedule kind.bus schedule → (n : ℕ) →
    Asks schedule now (trail_above uppers links n number) →
    Answers schedule now (trail_below lowers links n number) →
    axi4_fault kind.bus (port_history number kind links uppers lowers n) (port_round number kind links uppers lowers n) ≡ None

-- A link on which the node above asks and the node below answers as the contracts say, after any number of rounds, has
-- a port that breaks none of the rules of an AXI4 port.
abbrev pub LinksAreLegal : Type 0
LinksAreLegal =
    (schedule : Schedule) (now : ℕ → Progress) (number : ℕ) (kind : PortKind) (links : ℕ → List LinkView) (uppers lowers : ℕ → Out) → IsLinkRun number links uppers lowers → IsLegalSchedule kind.bus schedule →
    ((n : ℕ) → Asks schedule (now n) (trail_above uppers links n number)) →
    ((n : ℕ) → Answers schedule (now n) (trail_below lowers links n number)) →
    (n : ℕ) → axi4_history_fault kind.bus (port_history number kind links uppers lowers n) ≡ None

-- AXI4-Lite.

-- where a link has words alone to carry, a round shows nothing else
abbrev pub WordsAreShown : Type 0
WordsAreShown =
    (schedule : Schedule) (now : Progress) (number : ℕ) (kind : PortKind) (links : ℕ → List LinkView) (uppers lowers : ℕ → Out) → IsLinkRun number links uppers lowers → IsLegalSchedule kind.bus schedule → IsWordSchedule kind.bus schedule → (n : ℕ) →
    Asks schedule now (trail_above uppers links n number) →
    ShowsWords kind.bus (port_round number kind links uppers lowers n)

-- Such a link of either kind has a port that breaks none of the rules of its kind, the twelve of AXI4 or the six of
-- AXI4-Lite, where an AXI4-Lite link has words alone to carry.
abbrev pub LinksKeepTheirRules : Type 0
LinksKeepTheirRules =
    (schedule : Schedule) (now : ℕ → Progress) (number : ℕ) (kind : PortKind) (links : ℕ → List LinkView) (uppers lowers : ℕ → Out) → IsLinkRun number links uppers lowers → IsLegalSchedule kind.bus schedule →
    (kind.lite ≡ true → IsWordSchedule kind.bus schedule) →
    ((n : ℕ) → Asks schedule (now n) (trail_above uppers links n number)) →
    ((n : ℕ) → Answers schedule (now n) (trail_below lowers links n number)) →
    (n : ℕ) → history_fault kind (port_history number kind links uppers lowers n) ≡ None
