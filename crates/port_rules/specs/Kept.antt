-- What a checker keeps, and what it keeps after a round that breaks no rule.
use Rattle.std.specs.Prelude.{Bool, List, Option, if◌then◌else◌}
use Rattle.axi_beats.specs.declared.beat.WBeat.{WBeat}
use Rattle.axi_history.specs.declared.port.PortRound.{PortRound}
use Rattle.axi_history.specs.declared.port.RawAddr.{RawAddr}
use Rattle.axi_history.specs.PortHistory.{offer_of, transfer_of, wait_of}
use Rattle.port_rules.specs.declared.state.Bursts.{Bursts}
use Rattle.port_rules.specs.declared.outstanding.Waits.{Waits}
use Rattle.port_rules.specs.declared.reads.Read.{Read}
use Rattle.port_rules.specs.declared.state.PortChecker.{PortChecker}
use Rattle.port_rules.specs.Offers.{new_offer}
use Rattle.port_rules.specs.OpenReads.{add_ar, add_r}
use Rattle.port_rules.specs.OpenWrites.{OpenWrites, open_writes, add_aw, add_last, add_b}
use Rattle.port_rules.specs.Unpaired.{Unpaired, with_offers}

-- the beats that wait, the addresses and W beats without each other, and the writes and reads without an answer
pub record Kept : Type 0 where
  pub waits : Waits
  pub unpaired : Unpaired
  pub writes : OpenWrites
  pub reads : List Read

abbrev pub unpaired_in : Bursts → Unpaired
unpaired_in b = record { addresses = b.addresses.items; passed = b.passed; beats = b.beats.items }

abbrev pub kept_of : PortChecker → Kept
kept_of c = record {
  waits = c.waits;
  unpaired = unpaired_in c.bursts;
  writes = open_writes c.writes;
  reads = c.reads.reads.items;
}

-- the address and the W beat that a round offers and that didn't wait
abbrev pub new_aw : Kept → PortRound → Option RawAddr
new_aw k r = new_offer k.waits.aw (offer_of r.aw)

abbrev pub new_w : Kept → PortRound → Option WBeat
new_w k r = new_offer k.waits.w (offer_of r.w)

-- what is kept after a round that breaks no rule
abbrev pub waits_after : PortRound → Waits
waits_after r = record { aw = wait_of r.aw; w = wait_of r.w; b = wait_of r.b; ar = wait_of r.ar; r = wait_of r.r }

-- on an AXI4-Lite port no address and no W beat is kept for the other: each is whole by itself
abbrev pub kept_after_round : Bool → Kept → PortRound → Kept
kept_after_round lite k r = record {
  waits = waits_after r;
  unpaired = if lite then k.unpaired else with_offers (new_aw k r) (new_w k r) k.unpaired;
  writes = add_aw (transfer_of r.aw) (add_last (transfer_of r.w) (add_b (transfer_of r.b) k.writes));
  reads = add_ar (transfer_of r.ar) (add_r (transfer_of r.r) k.reads);
}
