-- What the things that are kept stand for, after rounds of an AXI4-Lite port that break no rule.
use Rattle.std.specs.Prelude.{◌≡◌, ℕ, List, Bool, true, false, count_by}
use Rattle.std.specs.List.{list_all}
use Rattle.axi_beats.specs.declared.beat.WBeat.{WBeat}
use Rattle.axi_history.specs.declared.port.PortKind.{PortKind}
use Rattle.axi_history.specs.declared.port.PortRound.{PortRound}
use Rattle.axi_history.specs.declared.port.RawB.{RawB}
use Rattle.axi_history.specs.PortHistory.{transferred, waiting, on_aw, on_w, on_b, on_ar, on_r}
use Rattle.lite_rules.specs.LiteRules.{has_no_id, is_lite_access, is_lite_read_beat}
use Rattle.port_rules.specs.Held.{Held}
use Rattle.port_rules.specs.Kept.{Kept}
use Rattle.port_rules.specs.ReadsHeld.{ReadsHeld}
use Rattle.port_rules.specs.WritesHeld.{WritesHeld}

pub record LiteHeld (bus : ℕ) (k : Kept) (history : List PortRound) : Type 0 where
  -- what was offered in the last round and was not taken
  pub aw : k.waits.aw ≡ waiting on_aw history
  pub w : k.waits.w ≡ waiting on_w history
  pub b : k.waits.b ≡ waiting on_b history
  pub ar : k.waits.ar ≡ waiting on_ar history
  pub r : k.waits.r ≡ waiting on_r history
  -- what was transferred keeps rules 3 and 4
  pub write_accesses : list_all (is_lite_access bus) (transferred on_aw history) ≡ true
  pub lasts : list_all (λ (beat : WBeat). beat.last) (transferred on_w history) ≡ true
  pub responses : list_all (λ (response : RawB). has_no_id response.id) (transferred on_b history) ≡ true
  pub read_accesses : list_all (is_lite_access bus) (transferred on_ar history) ≡ true
  pub read_beats : list_all is_lite_read_beat (transferred on_r history) ≡ true
  -- the writes and the reads that are not answered
  pub writes :
      WritesHeld k.writes (transferred on_aw history)
      (count_by (λ (beat : WBeat). beat.last) (transferred on_w history)) (transferred on_b history)
  pub reads : ReadsHeld k.reads (transferred on_ar history) (transferred on_r history)

-- by the kind of the port
abbrev pub HeldBy : Bool → ℕ → Kept → List PortRound → Type 0
HeldBy true bus k history = LiteHeld bus k history
HeldBy false bus k history = Held bus k history

abbrev pub HeldOn : PortKind → Kept → List PortRound → Type 0
HeldOn port = HeldBy port.lite port.bus
