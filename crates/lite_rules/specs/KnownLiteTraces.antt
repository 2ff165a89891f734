-- Short traces of an AXI4-Lite port with a bus of 4 bytes, and what they break first: worked by hand from the rules.
use Rattle.std.specs.Prelude.{◌≡◌, ℕ, List, [], ◌∷◌, ◌++◌, true, false, Some, None}
use Rattle.axi_history.specs.declared.port.PortKind.{PortKind}
use Rattle.axi_history.specs.declared.port.PortRound.{PortRound}
use Rattle.axi_history.specs.KnownTraces.{quiet, taken, waits, address, locked, offered_data, response, read_beat, aw, w, b, ar, r}
use Rattle.lite_rules.specs.PortFaults.{history_fault}

abbrev pub lite_port : PortKind
lite_port = record { lite = true; bus = 4 }

abbrev pub LiteBreaks : ℕ → ℕ → List PortRound → Type 0
LiteBreaks channel rule history = history_fault lite_port history ≡ Some (channel, rule)

abbrev pub IsLegalLiteTrace : List PortRound → Type 0
IsLegalLiteTrace history = history_fault lite_port history ≡ None

-- the start changes while the address waits; the address is withdrawn; it is offered again unchanged; data that changes
abbrev pub LiteHandshakes : Type 0
LiteHandshakes =
    LiteBreaks 1 2 (aw (waits (address 0 16 0 2 1)) ∷ aw (taken (address 0 20 0 2 1)) ∷ [])
    × LiteBreaks 4 1 (ar (waits (address 0 16 0 2 1)) ∷ quiet ∷ [])
    × IsLegalLiteTrace (aw (waits (address 0 16 0 2 1)) ∷ aw (taken (address 0 16 0 2 1)) ∷ [])
    × LiteBreaks 2 2 (w (waits (offered_data 15 true)) ∷ w (taken (offered_data 3 true)) ∷ [])

-- addresses that are no access of AXI4-Lite: with an ID; of two beats; of 2 bytes and of 8; FIXED; exclusive. And two that
-- are: one of them isn't aligned, as the standard has the subordinate find the word.
abbrev pub LiteAddresses : Type 0
LiteAddresses =
    LiteBreaks 1 3 (aw (taken (address 1 16 0 2 1)) ∷ [])
    × LiteBreaks 4 3 (ar (taken (address 0 16 1 2 1)) ∷ [])
    × LiteBreaks 1 3 (aw (waits (address 0 16 0 1 1)) ∷ [])
    × LiteBreaks 4 3 (ar (taken (address 0 16 0 3 1)) ∷ [])
    × LiteBreaks 1 3 (aw (taken (address 0 16 0 2 0)) ∷ [])
    × LiteBreaks 4 3 (ar (taken (locked (address 0 16 0 2 1))) ∷ [])
    × IsLegalLiteTrace (ar (taken (address 0 16 0 2 1)) ∷ [])
    × IsLegalLiteTrace (aw (taken (address 0 18 0 2 1)) ∷ [])

-- data without `last`, of which no address is needed; data before its address, with any strobes
abbrev pub LiteWriteData : Type 0
LiteWriteData =
    LiteBreaks 2 4 (w (taken (offered_data 15 false)) ∷ [])
    × IsLegalLiteTrace (w (taken (offered_data 8 true)) ∷ w (taken (offered_data 0 true)) ∷ aw (taken (address 0 19 0 2 1)) ∷ [])

-- a response after both address and data, and one where the data came first; in the round of the data, without data and
-- without an address; a second one to one beat of data, though there are two addresses; with an ID; EXOKAY; the least of
-- three rules
abbrev pub LiteResponses : Type 0
LiteResponses =
    let address_first = aw (taken (address 0 0 0 2 1)) ∷ w (taken (offered_data 15 true)) ∷ [] in
    let data_first = w (taken (offered_data 15 true)) ∷ aw (taken (address 0 0 0 2 1)) ∷ [] in
    IsLegalLiteTrace (address_first ++ b (taken (response 0 0)) ∷ [])
    × IsLegalLiteTrace (data_first ++ b (taken (response 0 3)) ∷ [])
    × LiteBreaks 3 6 (aw (taken (address 0 0 0 2 1)) ∷ record (w (taken (offered_data 15 true))) { b = taken (response 0 0) } ∷ [])
    × LiteBreaks 3 6 (aw (taken (address 0 0 0 2 1)) ∷ b (waits (response 0 0)) ∷ [])
    × LiteBreaks 3 6 (w (taken (offered_data 15 true)) ∷ b (waits (response 0 0)) ∷ [])
    × LiteBreaks 3 6 (aw (taken (address 0 4 0 2 1)) ∷ address_first ++ b (taken (response 0 0)) ∷ b (waits (response 0 0)) ∷ [])
    × LiteBreaks 3 4 (address_first ++ b (taken (response 2 0)) ∷ [])
    × LiteBreaks 3 5 (address_first ++ b (taken (response 0 1)) ∷ [])
    × LiteBreaks 3 4 (b (waits (response 2 1)) ∷ [])

-- a beat for each of two addresses; in the round of its address; a beat too many; without `last`; with an ID; EXOKAY; a
-- beat that changes while it waits
abbrev pub LiteReadData : Type 0
LiteReadData =
    let reads = ar (taken (address 0 0 0 2 1)) ∷ ar (taken (address 0 4 0 2 1)) ∷ [] in
    IsLegalLiteTrace (reads ++ r (taken (read_beat 0 true)) ∷ r (taken (read_beat 0 true)) ∷ [])
    × LiteBreaks 5 6 (record (ar (taken (address 0 0 0 2 1))) { r = waits (read_beat 0 true) } ∷ [])
    × LiteBreaks 5 6 (reads ++ r (taken (read_beat 0 true)) ∷ r (taken (read_beat 0 true)) ∷ r (waits (read_beat 0 true)) ∷ [])
    × LiteBreaks 5 4 (reads ++ r (taken (read_beat 0 false)) ∷ [])
    × LiteBreaks 5 4 (reads ++ r (taken (read_beat 1 true)) ∷ [])
    × LiteBreaks 5 5 (reads ++ r (taken (record (read_beat 0 true) { resp = 1 })) ∷ [])
    × LiteBreaks 5 2 (reads ++ r (waits (read_beat 0 true)) ∷ r (taken (record (read_beat 0 true) { resp = 2 })) ∷ [])
