-- What the things that are kept stand for, after rounds that break no rule.
use Rattle.std.specs.Prelude.{◌≡◌, ℕ, List, true, count_by}
use Rattle.std.specs.List.{list_all}
use Rattle.axi_beats.specs.declared.beat.WBeat.{WBeat}
use Rattle.axi_history.specs.declared.port.PortRound.{PortRound}
use Rattle.axi_history.specs.PortHistory.{offered, transferred, waiting, on_aw, on_w, on_b, on_ar, on_r}
use Rattle.axi_history.specs.PortRules.{keeps_address_rules, last_is_on_the_last_beat, strobes_are_on_valid_lanes}
use Rattle.port_rules.specs.Kept.{Kept}
use Rattle.port_rules.specs.ReadsHeld.{ReadsHeld}
use Rattle.port_rules.specs.Unpaired.{unpaired_of}
use Rattle.port_rules.specs.WritesHeld.{WritesHeld}

pub record Held (bus : ℕ) (k : Kept) (history : List PortRound) : Type 0 where
  -- what was offered in the last round and was not taken
  pub aw : k.waits.aw ≡ waiting on_aw history
  pub w : k.waits.w ≡ waiting on_w history
  pub b : k.waits.b ≡ waiting on_b history
  pub ar : k.waits.ar ≡ waiting on_ar history
  pub r : k.waits.r ≡ waiting on_r history
  -- what stays unpaired of all addresses and W beats that were offered
  pub unpaired : unpaired_of (offered on_aw history) 0 (offered on_w history) ≡ k.unpaired
  -- rules 3 to 8, 9 and 10 are kept
  pub usable : list_all (keeps_address_rules bus) (offered on_aw history) ≡ true
  pub nine : last_is_on_the_last_beat bus history ≡ true
  pub ten : strobes_are_on_valid_lanes bus history ≡ true
  -- the writes and the reads that are not answered
  pub writes :
      WritesHeld k.writes (transferred on_aw history)
      (count_by (λ (beat : WBeat). beat.last) (transferred on_w history)) (transferred on_b history)
  pub reads : ReadsHeld k.reads (transferred on_ar history) (transferred on_r history)
