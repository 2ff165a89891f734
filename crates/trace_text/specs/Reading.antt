-- How a trace line is read: field by field, each up to the byte that ends it, which is a space (32), a comma (44)
-- or a colon (58).
use Rattle.std.specs.Prelude.{ℕ, ◌^◌, ◌-◌, ◌==◌, ◌++◌, Bool, true, false, List, [], ◌∷◌, Option, Some, None, if◌then◌else◌, length, replicate, codes}
use Rattle.std.specs.Str.{bytes_eq}
use Rattle.plain_text.specs.Exact.{◌>>=◌, read_before}
use Rattle.plain_text.specs.Numbers.{read_plain_decimal}
use Rattle.plain_text.specs.Spelling.{read_pairs, read_plain_hexadecimal}
use Rattle.axi_beats.specs.declared.beat.Tag.{Tag}
use Rattle.axi_beats.specs.declared.beat.WBeat.{WBeat}
use Rattle.axi_history.specs.declared.port.RawAddr.{RawAddr}
use Rattle.axi_history.specs.declared.port.RawB.{RawB}
use Rattle.axi_history.specs.declared.port.RawR.{RawR}
use Rattle.axi_history.specs.declared.port.PortKind.{PortKind}
use Rattle.axi_history.specs.declared.port.Seen.{Seen}
use Rattle.axi_history.specs.declared.port.PortRound.{PortRound}
use Rattle.trace_text.specs.Ranges.{is_port_kind}

-- a decimal below the limit
abbrev pub decimal_below : ℕ → List ℕ → Option ℕ
decimal_below limit word = read_plain_decimal word limit

-- a hexadecimal below the limit
abbrev pub hexadecimal_below : ℕ → List ℕ → Option ℕ
hexadecimal_below limit word = read_plain_hexadecimal word limit

-- a decimal or a hexadecimal below the limit, and the text behind the byte that ends it
unfoldable pub decimal_before : ℕ → ℕ → List ℕ → Option (ℕ × List ℕ)
decimal_before end limit text = read_before end (decimal_below limit) text

unfoldable pub hexadecimal_before : ℕ → ℕ → List ℕ → Option (ℕ × List ℕ)
hexadecimal_before end limit text = read_before end (hexadecimal_below limit) text

-- 0 or 1
unfoldable pub bit_in : List ℕ → Option Bool
bit_in word = if bytes_eq word (codes "0") then Some false else (if bytes_eq word (codes "1") then Some true else None)

unfoldable pub bit_before : ℕ → List ℕ → Option (Bool × List ℕ)
bit_before end text = read_before end bit_in text

-- two digits for each lane of the bus; the lanes above it are 0
unfoldable pub lanes_in : ℕ → List ℕ → Option (List ℕ)
lanes_in bus word = do
  bytes ← read_pairs word
  if length bytes == bus then Some (bytes ++ replicate (128 - bus) 0) else None

unfoldable pub lanes_before : ℕ → ℕ → List ℕ → Option (List ℕ × List ℕ)
lanes_before end bus text = read_before end (lanes_in bus) text

-- the number of the transaction, and the lowest and the highest lane that is wanted
unfoldable pub tag_in : List ℕ → Option Tag
tag_in text = do
  txn ← decimal_before 58 (2 ^ 32) text
  low ← decimal_before 58 128 txn.1
  high ← decimal_below 128 low.1
  Some (record { txn = txn.0; low = low.0; high = high })

-- a beat of AW or AR
unfoldable pub address_in : List ℕ → Option RawAddr
address_in text = do
  id ← decimal_before 44 (2 ^ 32) text
  addr ← hexadecimal_before 44 (2 ^ 63) id.1
  len ← decimal_before 44 256 addr.1
  size ← decimal_before 44 8 len.1
  burst ← decimal_before 44 4 size.1
  lock ← bit_before 44 burst.1
  tag ← tag_in lock.1
  Some (record { id = id.0; addr = addr.0; len = len.0; size = size.0; burst = burst.0; lock = lock.0; tag = tag })

-- a beat of W, on a bus of so many bytes
unfoldable pub write_data_in : ℕ → List ℕ → Option WBeat
write_data_in bus text = do
  lanes ← lanes_before 44 bus text
  strobe ← hexadecimal_before 44 (2 ^ bus) lanes.1
  last ← bit_before 44 strobe.1
  tag ← tag_in last.1
  Some (record { lanes = lanes.0; strobe = strobe.0; last = last.0; tag = tag })

-- a beat of B
unfoldable pub response_in : List ℕ → Option RawB
response_in text = do
  id ← decimal_before 44 (2 ^ 32) text
  resp ← decimal_before 44 4 id.1
  tag ← tag_in resp.1
  Some (record { id = id.0; resp = resp.0; tag = tag })

-- a beat of R, on a bus of so many bytes
unfoldable pub read_data_in : ℕ → List ℕ → Option RawR
read_data_in bus text = do
  id ← decimal_before 44 (2 ^ 32) text
  lanes ← lanes_before 44 bus id.1
  resp ← decimal_before 44 4 lanes.1
  last ← bit_before 44 resp.1
  tag ← tag_in last.1
  Some (record { id = id.0; lanes = lanes.0; resp = resp.0; last = last.0; tag = tag })

-- the mark at the front, and the text behind it: `+` (43) says that the beat is taken, `=` (61) that it isn't
abbrev pub mark_before : List ℕ → Option (Bool × List ℕ)
mark_before [] = None
mark_before (byte ∷ rest) = if byte == 43 then Some (true, rest) else (if byte == 61 then Some (false, rest) else None)

-- what a channel offers: nothing, or a beat behind its mark
abbrev pub channel_in : {B : Type 0} → (List ℕ → Option B) → List ℕ → Option (Option (Seen B))
channel_in read_beat word =
    if bytes_eq word (codes "-")
    then Some None
    else mark_before word >>= λ mark. read_beat mark.1 >>= λ beat. Some (Some (record { beat = beat; taken = mark.0 }))

unfoldable pub channel_before : {B : Type 0} → (List ℕ → Option B) → List ℕ → Option (Option (Seen B) × List ℕ)
channel_before read_beat text = read_before 32 (channel_in read_beat) text

-- whether the port is one of AXI4-Lite
unfoldable pub lite_in : List ℕ → Option Bool
lite_in word = if bytes_eq word (codes "axi") then Some false else (if bytes_eq word (codes "lite") then Some true else None)

-- the kind and the bus of a port
unfoldable pub kind_before : List ℕ → Option (PortKind × List ℕ)
kind_before text = do
  lite ← read_before 32 lite_in text
  bus ← decimal_before 32 129 lite.1
  let kind : PortKind = record { lite = lite.0; bus = bus.0 }
  if is_port_kind kind then Some (kind, bus.1) else None

-- a round from 1 on
unfoldable pub round_before : List ℕ → Option (ℕ × List ℕ)
round_before text = do
  round ← decimal_before 32 (2 ^ 63) text
  if round.0 == 0 then None else Some round

-- the round whose trace line the text is, if there is one
unfoldable pub trace_round_of : List ℕ → Option PortRound
trace_round_of text = do
  round ← round_before text
  link ← decimal_before 32 4096 round.1
  kind ← kind_before link.1
  aw ← channel_before address_in kind.1
  w ← channel_before (write_data_in kind.0.bus) aw.1
  b ← channel_before response_in w.1
  ar ← channel_before address_in b.1
  r ← channel_in (read_data_in kind.0.bus) ar.1
  Some (record { round = round.0; link = link.0; kind = kind.0; aw = aw.0; w = w.0; b = b.0; ar = ar.0; r = r })
