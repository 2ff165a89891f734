-- Short traces of a port with a bus of 4 bytes, and what they break first: worked by hand from the rules.
use Rattle.std.specs.Prelude.{◌≡◌, ℕ, List, [], ◌∷◌, ◌++◌, Bool, true, false, Option, Some, None, replicate}
use Rattle.axi_beats.specs.declared.beat.Tag.{Tag}
use Rattle.axi_beats.specs.declared.beat.WBeat.{WBeat}
use Rattle.axi_history.specs.declared.port.PortRound.{PortRound}
use Rattle.axi_history.specs.declared.port.RawAddr.{RawAddr}
use Rattle.axi_history.specs.declared.port.RawB.{RawB}
use Rattle.axi_history.specs.declared.port.RawR.{RawR}
use Rattle.axi_history.specs.declared.port.Seen.{Seen}
use Rattle.axi_history.specs.PortRules.{axi4_history_fault}

-- the rules ask of a tag only that it stays, so all beats have this one
abbrev pub no_tag : Tag
no_tag = record { txn = 0; low = 0; high = 0 }

-- a round in which nothing is offered
abbrev pub quiet : PortRound
quiet = record { round = 1; link = 0; kind = record { lite = false; bus = 4 }; aw = None; w = None; b = None; ar = None; r = None }

-- an offer that is taken, and one that waits
module _ {X : Type 0} where
  abbrev pub taken : X → Option (Seen X)
  taken beat = Some (record { beat = beat; taken = true })

  abbrev pub waits : X → Option (Seen X)
  waits beat = Some (record { beat = beat; taken = false })

-- an address with this ID, start, AxLEN, AxSIZE and AxBURST
abbrev pub address : ℕ → ℕ → ℕ → ℕ → ℕ → RawAddr
address id start len size burst =
    record { id = id; addr = start; len = len; size = size; burst = burst; lock = false; tag = no_tag }

abbrev pub locked : RawAddr → RawAddr
locked a = record a { lock = true }

abbrev pub offered_data : ℕ → Bool → WBeat
offered_data strobe last = record { lanes = replicate 128 0; strobe = strobe; last = last; tag = no_tag }

abbrev pub response : ℕ → ℕ → RawB
response id resp = record { id = id; resp = resp; tag = no_tag }

abbrev pub read_beat : ℕ → Bool → RawR
read_beat id last = record { id = id; lanes = replicate 128 0; resp = 0; last = last; tag = no_tag }

-- rounds in which one channel offers, and no other
abbrev pub aw : Option (Seen RawAddr) → PortRound
aw offer = record quiet { aw = offer }

abbrev pub w : Option (Seen WBeat) → PortRound
w offer = record quiet { w = offer }

abbrev pub b : Option (Seen RawB) → PortRound
b offer = record quiet { b = offer }

abbrev pub ar : Option (Seen RawAddr) → PortRound
ar offer = record quiet { ar = offer }

abbrev pub r : Option (Seen RawR) → PortRound
r offer = record quiet { r = offer }

-- a trace breaks this rule on this channel first
abbrev pub Breaks : ℕ → ℕ → List PortRound → Type 0
Breaks channel rule history = axi4_history_fault 4 history ≡ Some (channel, rule)

abbrev pub IsLegalTrace : List PortRound → Type 0
IsLegalTrace history = axi4_history_fault 4 history ≡ None

-- the start changes while the address waits; the address is withdrawn; it is offered again unchanged
abbrev pub Handshakes : Type 0
Handshakes =
    Breaks 1 2 (aw (waits (address 0 16 0 2 1)) ∷ aw (taken (address 0 20 0 2 1)) ∷ [])
    × Breaks 1 1 (aw (waits (address 0 16 0 2 1)) ∷ quiet ∷ aw (taken (address 0 16 0 2 1)) ∷ [])
    × IsLegalTrace (aw (waits (address 0 16 0 2 1)) ∷ aw (taken (address 0 16 0 2 1)) ∷ [])

-- addresses that break a rule by themselves, and near misses: the reserved burst code; a beat of 8 bytes; FIXED of
-- 17 and of 16 beats; WRAP of 3 and of 2 beats; a WRAP start that is not aligned; a burst over the end of a page,
-- and one up to it; an exclusive access; on AR too
abbrev pub Addresses : Type 0
Addresses =
    Breaks 1 3 (aw (taken (address 0 16 0 2 3)) ∷ [])
    × Breaks 4 4 (ar (taken (address 0 16 0 3 1)) ∷ [])
    × Breaks 1 5 (aw (taken (address 0 16 16 2 0)) ∷ [])
    × IsLegalTrace (aw (taken (address 0 16 15 2 0)) ∷ [])
    × Breaks 4 5 (ar (taken (address 0 16 2 2 2)) ∷ [])
    × IsLegalTrace (ar (taken (address 0 16 1 2 2)) ∷ [])
    × Breaks 1 6 (aw (taken (address 0 18 1 2 2)) ∷ [])
    × Breaks 4 7 (ar (taken (address 0 4092 1 2 1)) ∷ [])
    × IsLegalTrace (ar (taken (address 0 4088 1 2 1)) ∷ [])
    × Breaks 1 8 (aw (waits (locked (address 0 16 0 2 1))) ∷ [])

-- data before its address, with `last` where it is due and without it; `last` on the first of two beats, after the
-- address; strobes on lanes that are not valid, told once the address is there; the least rule where both are broken;
-- data that is withdrawn
abbrev pub WriteData : Type 0
WriteData =
    IsLegalTrace (w (taken (offered_data 8 false)) ∷ w (waits (offered_data 3 true)) ∷ record (w (taken (offered_data 3 true))) { aw = waits (address 0 3 1 2 1) } ∷ [])
    × Breaks 2 9 (w (taken (offered_data 8 false)) ∷ w (taken (offered_data 3 false)) ∷ aw (waits (address 0 3 1 2 1)) ∷ [])
    × Breaks 2 9 (aw (taken (address 0 3 1 2 1)) ∷ w (waits (offered_data 8 true)) ∷ [])
    × Breaks 2 10 (w (taken (offered_data 4 false)) ∷ w (taken (offered_data 3 true)) ∷ aw (waits (address 0 3 1 2 1)) ∷ [])
    × Breaks 2 9 (w (taken (offered_data 4 false)) ∷ w (taken (offered_data 3 false)) ∷ aw (waits (address 0 3 1 2 1)) ∷ [])
    × Breaks 2 1 (w (waits (offered_data 8 false)) ∷ aw (taken (address 0 3 1 2 1)) ∷ [])

-- a response one round after the last data, in the same round, and before the data; EXOKAY; a response of another ID;
-- a second response to one write; a response that changes while it waits
abbrev pub Responses : Type 0
Responses =
    let write = aw (taken (address 2 0 0 2 1)) ∷ w (taken (offered_data 15 true)) ∷ [] in
    IsLegalTrace (write ++ b (taken (response 2 0)) ∷ [])
    × Breaks 3 11 (aw (taken (address 2 0 0 2 1)) ∷ record (w (taken (offered_data 15 true))) { b = taken (response 2 0) } ∷ [])
    × Breaks 3 11 (aw (taken (address 2 0 0 2 1)) ∷ b (waits (response 2 0)) ∷ [])
    × Breaks 3 8 (write ++ b (taken (response 2 1)) ∷ [])
    × Breaks 3 11 (write ++ b (taken (response 3 0)) ∷ [])
    × Breaks 3 11 (write ++ b (taken (response 2 0)) ∷ b (taken (response 2 0)) ∷ [])
    × Breaks 3 2 (write ++ b (waits (response 2 0)) ∷ b (taken (response 2 2)) ∷ [])

-- read beats of two IDs, one between those of the other; a beat in the round of its address; `last` too late and too
-- early; a beat too many; a beat of another ID in place of one that waits
abbrev pub ReadData : Type 0
ReadData =
    let reads = ar (taken (address 1 0 1 2 1)) ∷ ar (taken (address 2 0 0 2 1)) ∷ [] in
    IsLegalTrace (reads ++ r (taken (read_beat 1 false)) ∷ r (taken (read_beat 2 true)) ∷ r (taken (read_beat 1 true)) ∷ [])
    × Breaks 5 11 (record (ar (taken (address 1 0 0 2 1))) { r = waits (read_beat 1 true) } ∷ [])
    × Breaks 5 12 (reads ++ r (taken (read_beat 1 false)) ∷ r (taken (read_beat 1 false)) ∷ [])
    × Breaks 5 12 (reads ++ r (waits (read_beat 1 true)) ∷ [])
    × Breaks 5 11 (reads ++ r (taken (read_beat 2 true)) ∷ r (taken (read_beat 2 true)) ∷ [])
    × Breaks 5 2 (reads ++ r (waits (read_beat 2 true)) ∷ r (taken (read_beat 1 true)) ∷ [])
