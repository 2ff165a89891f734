-- The six rules of an AXI4-Lite port (Arm IHI 0022, AXI4-Lite), each asked of a round and all the rounds before it. The
-- signals that such a port doesn't have are read as what they would be on AXI4: ID 0, one beat as wide as the bus,
-- INCR, no lock, and WLAST and RLAST high. Rules 1 and 2 are those of an AXI4 port, and the channels have its numbers.
use Rattle.std.specs.Prelude.{ℕ, ◌==◌, ◌&&◌, ◌++◌, ◌∷◌, [], List, Bool, Option, length, nat_lt}
use Rattle.axi_beats.specs.declared.beat.WBeat.{WBeat}
use Rattle.axi_history.specs.declared.port.PortRound.{PortRound}
use Rattle.axi_history.specs.declared.port.RawAddr.{RawAddr}
use Rattle.axi_history.specs.declared.port.RawB.{RawB}
use Rattle.axi_history.specs.declared.port.RawR.{RawR}
use Rattle.axi_history.specs.declared.port.Seen.{Seen}
use Rattle.axi_history.specs.PortHistory.{offer_of, transferred, waiting, on_aw, on_w, on_b, on_ar, on_r}
use Rattle.axi_history.specs.PortRules.{same_address, same_data, same_response, same_read, handshake_rules, request_of, is_not_exclusive, is_not_exokay, rules_of_offer, or_else, on_channel}
use Rattle.burst_address.specs.Formulas.{size_of}

-- a port of AXI4-Lite has no IDs
abbrev pub has_no_id : ℕ → Bool
has_no_id id = id == 0

-- 3: an access is one INCR beat of the size of the bus, without ID and not exclusive
abbrev pub is_lite_access : ℕ → RawAddr → Bool
is_lite_access bus a = has_no_id a.id && a.len == 0 && size_of (request_of a) == bus && a.burst == 1 && is_not_exclusive a

abbrev pub lite_address_rules : ℕ → RawAddr → List (ℕ × Bool)
lite_address_rules bus a = (3, is_lite_access bus a) ∷ []

-- 4: each beat of data is the last one of its access, and no answer has an ID
abbrev pub lite_data_rules : WBeat → List (ℕ × Bool)
lite_data_rules w = (4, w.last) ∷ []

abbrev pub is_lite_read_beat : RawR → Bool
is_lite_read_beat r = has_no_id r.id && r.last

-- 5: no response is EXOKAY. It is `is_not_exokay`.

-- 6: a write response is offered only where earlier rounds have transferred fewer responses than addresses, and fewer
-- than beats of write data
abbrev pub lite_response_follows_write : List PortRound → Bool
lite_response_follows_write earlier =
    let responses = length (transferred on_b earlier) in
    nat_lt responses (length (transferred on_aw earlier)) && nat_lt responses (length (transferred on_w earlier))

-- 6: a beat of read data is offered only where earlier rounds have transferred fewer of them than addresses
abbrev pub lite_read_beat_follows_address : List PortRound → Bool
lite_read_beat_follows_address earlier = nat_lt (length (transferred on_r earlier)) (length (transferred on_ar earlier))

abbrev pub lite_response_rules : List PortRound → RawB → List (ℕ × Bool)
lite_response_rules earlier b =
    (4, has_no_id b.id) ∷ (5, is_not_exokay b.resp) ∷ (6, lite_response_follows_write earlier) ∷ []

abbrev pub lite_read_beat_rules : List PortRound → RawR → List (ℕ × Bool)
lite_read_beat_rules earlier r =
    (4, is_lite_read_beat r) ∷ (5, is_not_exokay r.resp) ∷ (6, lite_read_beat_follows_address earlier) ∷ []

-- the rules of a channel: 1 and 2, and those of the beat that it offers
abbrev pub rules_of_channel :
    {X : Type 0} → (X → X → Bool) → (PortRound → Option (Seen X)) → (X → List (ℕ × Bool)) → List PortRound → PortRound → List (ℕ × Bool)
rules_of_channel same channel rules earlier now =
    handshake_rules same (waiting channel earlier) (offer_of (channel now)) ++ rules_of_offer (offer_of (channel now)) rules

-- the least channel on which a round breaks a rule of AXI4-Lite, and the least such rule
abbrev pub lite_fault : ℕ → List PortRound → PortRound → Option (ℕ × ℕ)
lite_fault bus earlier now =
    or_else (on_channel 1 (rules_of_channel same_address on_aw (lite_address_rules bus) earlier now))
    (or_else (on_channel 2 (rules_of_channel same_data on_w lite_data_rules earlier now))
    (or_else (on_channel 3 (rules_of_channel same_response on_b (lite_response_rules earlier) earlier now))
    (or_else (on_channel 4 (rules_of_channel same_address on_ar (lite_address_rules bus) earlier now))
    (on_channel 5 (rules_of_channel same_read on_r (lite_read_beat_rules earlier) earlier now)))))
