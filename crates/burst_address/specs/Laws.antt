-- What holds of bursts (Arm IHI 0022, burst address structure). Where a law needs it, it asks that the burst is legal.
use Rattle.std.specs.Prelude.{◌≡◌, ℕ, ◌+◌, ◌-◌, ◌*◌, ◌/◌, ◌%◌, ◌^◌, ◌<◌, ◌≤◌, ◌++◌, [], ◌∷◌, List, All, length}
use Rattle.std.specs.Int.{bit_at}
use Rattle.std.specs.List.{range_with_len}
use Rattle.axi_beats.specs.Bus.{IsBusWidth}
use Rattle.axi_beats.specs.declared.beat.Addr.{Addr}
use Rattle.axi_beats.specs.declared.beat.Tag.{Tag}
use Rattle.axi_beats.specs.declared.beat.WBeat.{WBeat}
use Rattle.axi_beats.specs.declared.beat.Burst.TheVariants.{Fixed, Incr, Wrap}
use Rattle.burst_address.specs.Formulas.{aligned, wrap_boundary, size_of, beats_of, beat_at, lower_lane, upper_lane}
use Rattle.burst_address.specs.Legal.{IsLegal, page}
use Rattle.burst_address.specs.Bytes.{beat_bytes, burst_bytes, beat_written, written_bytes}

-- a burst that is legal on a bus is legal on each wider one
abbrev pub LegalOnWider : Type 0
LegalOnWider = (a : Addr) (bus wider : ℕ) → bus ≤ wider → IsLegal a bus → IsLegal a wider

-- all bytes of a burst lie in the page of its start
abbrev pub OnePage : Type 0
OnePage =
    (a : Addr) (bus : ℕ) → IsBusWidth bus → IsLegal a bus →
    All (λ byte. page byte ≡ page a.addr) (burst_bytes a)

-- and below 2 ^ 63 where the start does
abbrev pub BelowLimit : Type 0
BelowLimit =
    (a : Addr) (bus : ℕ) → IsBusWidth bus → IsLegal a bus → a.addr < 2 ^ 63 →
    All (λ byte. byte < 2 ^ 63) (burst_bytes a)

-- all bytes of a beat lie in the block of 128 bytes, and in the word of the bus, that its address
-- lies in
abbrev pub OneLine : Type 0
OneLine =
    (a : Addr) (bus n : ℕ) → IsBusWidth bus → IsLegal a bus →
    All (λ byte. (byte / 128 ≡ beat_at a n / 128) × (byte / bus ≡ beat_at a n / bus)) (beat_bytes a n)

-- a beat has as many valid bytes as valid lanes: at least one, and no more than its size
abbrev pub ValidCount : Type 0
ValidCount =
    (a : Addr) (bus n : ℕ) → IsBusWidth bus → IsLegal a bus →
    (length (beat_bytes a n) + lower_lane bus (beat_at a n) ≡ upper_lane (size_of a) bus (beat_at a n) + 1)
    × (0 < length (beat_bytes a n)) × (length (beat_bytes a n) ≤ size_of a)
    × (upper_lane (size_of a) bus (beat_at a n) < bus)

-- the valid bytes of a beat stand on neighbouring lanes
abbrev pub LanesFollow : Type 0
LanesFollow =
    (a : Addr) (bus n k : ℕ) → IsBusWidth bus → IsLegal a bus → k < length (beat_bytes a n) →
    (beat_at a n + k) % bus ≡ lower_lane bus (beat_at a n) + k

-- the bytes of an INCR burst are those from its start on, each once and ascending
abbrev pub IncrAscends : Type 0
IncrAscends =
    (a : Addr) → a.burst ≡ Incr →
    burst_bytes a ≡ range_with_len a.addr (aligned (size_of a) a.addr + beats_of a * size_of a - a.addr)

-- the bytes of a WRAP burst are those of its block, each once: from its start to the block's end,
-- and then from the block's first one to the start
abbrev pub WrapVisitsOnce : Type 0
WrapVisitsOnce =
    (a : Addr) (bus : ℕ) → IsLegal a bus → a.burst ≡ Wrap →
    let low = wrap_boundary (size_of a) (beats_of a) a.addr in
    burst_bytes a
    ≡ range_with_len a.addr (low + size_of a * beats_of a - a.addr)
    ++ range_with_len low (a.addr - low)

-- each beat of a FIXED burst has the bytes of the first one
abbrev pub FixedRepeats : Type 0
FixedRepeats = (a : Addr) (n : ℕ) → a.burst ≡ Fixed → beat_bytes a n ≡ beat_bytes a 0

-- one more W beat writes its own bytes after those of the beats before it, where the burst has a beat left for it
abbrev pub WritesBeatByBeat : Type 0
WritesBeatByBeat =
    (bus : ℕ) (a : Addr) (ws : List WBeat) (w : WBeat) → length ws < beats_of a →
    written_bytes bus a (ws ++ w ∷ []) ≡ written_bytes bus a ws ++ beat_written bus a (length ws) w

-- strobes on valid lanes alone are below 2 ^ bus
abbrev pub StrobesBelow : Type 0
StrobesBelow =
    (a : Addr) (bus n strobe : ℕ) → IsBusWidth bus →
    ((lane : ℕ) → bit_at strobe lane ≡ 1 → lane ≤ upper_lane (size_of a) bus (beat_at a n)) →
    strobe < 2 ^ bus

-- the bytes of a burst, and what W beats write of them, don't depend on its ID and its tag
abbrev pub IdIsNoMatter : Type 0
IdIsNoMatter =
    (bus : ℕ) (a : Addr) (id : ℕ) (tag : Tag) (ws : List WBeat) →
    (burst_bytes (record a { id = id; tag = tag }) ≡ burst_bytes a)
    × (written_bytes bus (record a { id = id; tag = tag }) ws ≡ written_bytes bus a ws)
