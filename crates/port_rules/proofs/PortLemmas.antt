-- What is kept of a port of either kind, before its first round and after one more.
use Rattle.std.proofs.Common.{◌≡◌, ◌∷◌, [], ◌++◌, Bool, true, false, List, None, refl}
use Rattle.std.specs.Prelude.{count_by, if◌then◌else◌}
use Rattle.axi_beats.specs.declared.beat.WBeat.{WBeat}
use Rattle.axi_history.specs.declared.port.PortKind.{PortKind}
use Rattle.axi_history.specs.declared.port.PortRound.{PortRound}
use Rattle.axi_history.specs.PortHistory.{transferred, on_aw, on_w, on_b, on_ar, on_r}
use Rattle.axi_history.specs.PortRules.{axi4_fault}
use Rattle.lite_rules.specs.LiteRules.{lite_fault}
use Rattle.lite_rules.specs.PortFaults.{round_fault}
use Rattle.port_rules.specs.Kept.{Kept, kept_after_round}
use Rattle.port_rules.specs.KeptFaults.{axi4_kept_fault, lite_kept_fault, kept_fault}
use Rattle.port_rules.specs.LiteHeld.{HeldBy, HeldOn}
use Rattle.port_rules.specs.ReadsHeld.{ReadsHeld}
use Rattle.port_rules.specs.WritesHeld.{WritesHeld}
use Rattle.port_rules.proofs.KeptLemmas.{kept}
use Rattle.port_rules.proofs.LiteLemmas.{lite_told, lite_kept}
use Rattle.port_rules.proofs.ReadLemmas.{reads_start}
use Rattle.port_rules.proofs.RoundLemmas.{told}
use Rattle.port_rules.proofs.WriteLemmas.{writes_start}

pub told_on : (port : PortKind) (k : Kept) (h : List PortRound) (r : PortRound) → HeldOn port k h → kept_fault port k r ≡ round_fault port h r
told_on port k h r held = go port.lite held
  where
    go : (lite : Bool) → HeldBy lite port.bus k h → (if lite then lite_kept_fault port.bus k r else axi4_kept_fault port.bus k r) ≡ (if lite then lite_fault port.bus else axi4_fault port.bus) h r
    go true held = lite_told port.bus k h r held
    go false held = told port.bus k h r held

pub kept_on : (port : PortKind) (k : Kept) (h : List PortRound) (r : PortRound) → HeldOn port k h → round_fault port h r ≡ None → HeldOn port (kept_after_round port.lite k r) (h ++ r ∷ [])
kept_on port k h r held none = go port.lite held none
  where
    go : (lite : Bool) → HeldBy lite port.bus k h → (if lite then lite_fault port.bus else axi4_fault port.bus) h r ≡ None → HeldBy lite port.bus (kept_after_round lite k r) (h ++ r ∷ [])
    go true held none = lite_kept port.bus k h r held none
    go false held none = kept port.bus k h r held none

pub writes_on : (port : PortKind) (k : Kept) (h : List PortRound) → HeldOn port k h → WritesHeld k.writes (transferred on_aw h) (count_by (λ (beat : WBeat). beat.last) (transferred on_w h)) (transferred on_b h)
writes_on port k h held = go port.lite held
  where
    go : (lite : Bool) → HeldBy lite port.bus k h → WritesHeld k.writes (transferred on_aw h) (count_by (λ (beat : WBeat). beat.last) (transferred on_w h)) (transferred on_b h)
    go true held = held.writes
    go false held = held.writes

pub reads_on : (port : PortKind) (k : Kept) (h : List PortRound) → HeldOn port k h → ReadsHeld k.reads (transferred on_ar h) (transferred on_r h)
reads_on port k h held = go port.lite held
  where
    go : (lite : Bool) → HeldBy lite port.bus k h → ReadsHeld k.reads (transferred on_ar h) (transferred on_r h)
    go true held = held.reads
    go false held = held.reads

-- ---- before the first round

abbrev pub nothing : Kept
nothing = record {
  waits = record { aw = None; w = None; b = None; ar = None; r = None };
  unpaired = record { addresses = []; passed = 0; beats = [] };
  writes = record { issued = []; surplus = 0; whole = [] };
  reads = [];
}

pub start_on : (port : PortKind) → HeldOn port nothing []
start_on port = go port.lite
  where
    go : (lite : Bool) → HeldBy lite port.bus nothing []
    go true = record { aw = refl; w = refl; b = refl; ar = refl; r = refl; write_accesses = refl; lasts = refl; responses = refl; read_accesses = refl; read_beats = refl; writes = writes_start; reads = reads_start }
    go false = record { aw = refl; w = refl; b = refl; ar = refl; r = refl; unpaired = refl; usable = refl; nine = refl; ten = refl; writes = writes_start; reads = reads_start }
