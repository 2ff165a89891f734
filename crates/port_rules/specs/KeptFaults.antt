-- How a round is judged by what a checker keeps.
use Rattle.std.specs.Prelude.{ℕ, ◌++◌, ◌∷◌, [], List, Option, length, nat_lt, if◌then◌else◌}
use Rattle.std.specs.Option.{option_map}
use Rattle.axi_history.specs.declared.port.PortKind.{PortKind}
use Rattle.axi_history.specs.declared.port.PortRound.{PortRound}
use Rattle.axi_history.specs.declared.port.RawB.{RawB}
use Rattle.axi_history.specs.declared.port.RawR.{RawR}
use Rattle.axi_history.specs.PortHistory.{offer_of}
use Rattle.axi_history.specs.PortRules.{same_address, same_data, same_response, same_read, handshake_rules, rules_of_offer, address_rules, is_not_exokay, least_broken, or_else}
use Rattle.lite_rules.specs.LiteRules.{has_no_id, is_lite_read_beat, lite_address_rules, lite_data_rules}
use Rattle.port_rules.specs.declared.reads.Read.{Read}
use Rattle.port_rules.specs.Kept.{Kept, new_aw, new_w}
use Rattle.port_rules.specs.Offers.{fault_of_offer}
use Rattle.port_rules.specs.OpenReads.{read_fault}
use Rattle.port_rules.specs.OpenWrites.{response_fault}
use Rattle.port_rules.specs.Unpaired.{data_fault}

-- a rule that is broken, with its channel
abbrev pub on_fault : ℕ → Option ℕ → Option (ℕ × ℕ)
on_fault channel rule = option_map (λ r. (channel, r)) rule

-- ---- An AXI4 port: the least rule that a round breaks on each channel

abbrev pub aw_fault : ℕ → Kept → PortRound → Option ℕ
aw_fault bus k r =
    least_broken (
    handshake_rules same_address k.waits.aw (offer_of r.aw) ++ rules_of_offer (offer_of r.aw) (address_rules bus))

abbrev pub w_fault : ℕ → Kept → PortRound → Option ℕ
w_fault bus k r =
    or_else
    (least_broken (handshake_rules same_data k.waits.w (offer_of r.w)))
    (data_fault bus (new_aw k r) (new_w k r) k.unpaired)

abbrev pub b_fault : Kept → PortRound → Option ℕ
b_fault k r =
    or_else
    (least_broken (handshake_rules same_response k.waits.b (offer_of r.b)))
    (fault_of_offer (offer_of r.b) (response_fault k.writes.whole))

abbrev pub ar_fault : ℕ → Kept → PortRound → Option ℕ
ar_fault bus k r =
    least_broken (
    handshake_rules same_address k.waits.ar (offer_of r.ar) ++ rules_of_offer (offer_of r.ar) (address_rules bus))

abbrev pub r_fault : Kept → PortRound → Option ℕ
r_fault k r =
    or_else
    (least_broken (handshake_rules same_read k.waits.r (offer_of r.r)))
    (fault_of_offer (offer_of r.r) (read_fault k.reads))

-- the least channel on which a round breaks a rule, and the least such rule
abbrev pub axi4_kept_fault : ℕ → Kept → PortRound → Option (ℕ × ℕ)
axi4_kept_fault bus k r =
    or_else (on_fault 1 (aw_fault bus k r))
    (or_else (on_fault 2 (w_fault bus k r))
    (or_else (on_fault 3 (b_fault k r))
    (or_else (on_fault 4 (ar_fault bus k r))
    (on_fault 5 (r_fault k r)))))

-- ---- An AXI4-Lite port

-- the least of rules 4, 5 and 6 that an answer breaks: some write is whole, some read is open
abbrev pub lite_response_fault : List ℕ → RawB → Option ℕ
lite_response_fault whole b =
    least_broken ((4, has_no_id b.id) ∷ (5, is_not_exokay b.resp) ∷ (6, nat_lt 0 (length whole)) ∷ [])

abbrev pub lite_read_fault : List Read → RawR → Option ℕ
lite_read_fault reads r =
    least_broken ((4, is_lite_read_beat r) ∷ (5, is_not_exokay r.resp) ∷ (6, nat_lt 0 (length reads)) ∷ [])

abbrev pub lite_aw_fault : ℕ → Kept → PortRound → Option ℕ
lite_aw_fault bus k r =
    least_broken (
    handshake_rules same_address k.waits.aw (offer_of r.aw) ++ rules_of_offer (offer_of r.aw) (lite_address_rules bus))

abbrev pub lite_w_fault : Kept → PortRound → Option ℕ
lite_w_fault k r =
    least_broken (handshake_rules same_data k.waits.w (offer_of r.w) ++ rules_of_offer (offer_of r.w) lite_data_rules)

abbrev pub lite_b_fault : Kept → PortRound → Option ℕ
lite_b_fault k r =
    or_else
    (least_broken (handshake_rules same_response k.waits.b (offer_of r.b)))
    (fault_of_offer (offer_of r.b) (lite_response_fault k.writes.whole))

abbrev pub lite_ar_fault : ℕ → Kept → PortRound → Option ℕ
lite_ar_fault bus k r =
    least_broken (
    handshake_rules same_address k.waits.ar (offer_of r.ar) ++ rules_of_offer (offer_of r.ar) (lite_address_rules bus))

abbrev pub lite_r_fault : Kept → PortRound → Option ℕ
lite_r_fault k r =
    or_else
    (least_broken (handshake_rules same_read k.waits.r (offer_of r.r)))
    (fault_of_offer (offer_of r.r) (lite_read_fault k.reads))

abbrev pub lite_kept_fault : ℕ → Kept → PortRound → Option (ℕ × ℕ)
lite_kept_fault bus k r =
    or_else (on_fault 1 (lite_aw_fault bus k r))
    (or_else (on_fault 2 (lite_w_fault k r))
    (or_else (on_fault 3 (lite_b_fault k r))
    (or_else (on_fault 4 (lite_ar_fault bus k r))
    (on_fault 5 (lite_r_fault k r)))))

-- ---- A port of either kind

abbrev pub kept_fault : PortKind → Kept → PortRound → Option (ℕ × ℕ)
kept_fault port k r = if port.lite then lite_kept_fault port.bus k r else axi4_kept_fault port.bus k r
