-- The text of a trace line: what one port shows in one round. (Arm IHI 0022, handshake process and channel signals.)
use Rattle.std.specs.Prelude.{ℕ, Bool, List, [], ◌∷◌, Option, Some, None, if◌then◌else◌, take, codes}
use Rattle.std.specs.Fmt.{decimal}
use Rattle.std.specs.List.{join_with_byte}
use Rattle.plain_text.specs.Printing.{hexadecimal, pairs}
use Rattle.axi_beats.specs.declared.beat.Tag.{Tag}
use Rattle.axi_beats.specs.declared.beat.WBeat.{WBeat}
use Rattle.axi_history.specs.declared.port.RawAddr.{RawAddr}
use Rattle.axi_history.specs.declared.port.RawB.{RawB}
use Rattle.axi_history.specs.declared.port.RawR.{RawR}
use Rattle.axi_history.specs.declared.port.Seen.{Seen}
use Rattle.axi_history.specs.declared.port.PortRound.{PortRound}

-- the texts, parted by single spaces (32), by commas (44) and by colons (58)
abbrev pub by_spaces : List (List ℕ) → List ℕ
by_spaces texts = join_with_byte 32 texts

abbrev pub by_commas : List (List ℕ) → List ℕ
by_commas texts = join_with_byte 44 texts

abbrev pub by_colons : List (List ℕ) → List ℕ
by_colons texts = join_with_byte 58 texts

-- a bit as its digit
abbrev pub bit_text : Bool → List ℕ
bit_text bit = if bit then codes "1" else codes "0"

-- two digits for each lane of the bus, from lane 0 on
abbrev pub lanes_text : ℕ → List ℕ → List ℕ
lanes_text bus lanes = pairs (take bus lanes)

-- the number of the transaction, and the lowest and the highest lane that is wanted
unfoldable pub tag_text : Tag → List ℕ
tag_text tag = by_colons (decimal tag.txn ∷ decimal tag.low ∷ decimal tag.high ∷ [])

-- a beat of AW or AR
unfoldable pub address_text : RawAddr → List ℕ
address_text beat =
    by_commas (decimal beat.id ∷ hexadecimal beat.addr ∷ decimal beat.len ∷ decimal beat.size ∷ decimal beat.burst ∷ bit_text beat.lock ∷ tag_text beat.tag ∷ [])

-- a beat of W
unfoldable pub write_data_text : ℕ → WBeat → List ℕ
write_data_text bus beat = by_commas (lanes_text bus beat.lanes ∷ hexadecimal beat.strobe ∷ bit_text beat.last ∷ tag_text beat.tag ∷ [])

-- a beat of B
unfoldable pub response_text : RawB → List ℕ
response_text beat = by_commas (decimal beat.id ∷ decimal beat.resp ∷ tag_text beat.tag ∷ [])

-- a beat of R
unfoldable pub read_data_text : ℕ → RawR → List ℕ
read_data_text bus beat =
    by_commas (decimal beat.id ∷ lanes_text bus beat.lanes ∷ decimal beat.resp ∷ bit_text beat.last ∷ tag_text beat.tag ∷ [])

-- the mark of a beat that is offered: `+` (43) where it is taken in this round, `=` (61) where it isn't
abbrev pub mark : Bool → ℕ
mark taken = if taken then 43 else 61

-- what a channel offers: nothing, which is `-`, or a beat, after its mark
abbrev pub channel_text : {B : Type 0} → (B → List ℕ) → Option (Seen B) → List ℕ
channel_text beat_text None = codes "-"
channel_text beat_text (Some seen) = mark seen.taken ∷ beat_text seen.beat

-- the protocol of the port, AXI4-Lite or AXI4
abbrev pub kind_text : Bool → List ℕ
kind_text lite = if lite then codes "lite" else codes "axi"

-- what the channels AW, W, B, AR and R offer
abbrev pub channels_text : PortRound → List ℕ
channels_text r =
    by_spaces
    (channel_text address_text r.aw
    ∷ channel_text (write_data_text r.kind.bus) r.w
    ∷ channel_text response_text r.b
    ∷ channel_text address_text r.ar
    ∷ channel_text (read_data_text r.kind.bus) r.r
    ∷ [])

-- the round, the link, the kind and the bus of its port, and the five channels
unfoldable pub line_text : PortRound → List ℕ
line_text r = by_spaces (decimal r.round ∷ decimal r.link ∷ kind_text r.kind.lite ∷ decimal r.kind.bus ∷ channels_text r ∷ [])
