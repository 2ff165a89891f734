-- The lanes of a beat on a bus, and the bytes on them (Arm IHI 0022, data read and write structure, write strobes). A beat
-- is told by its request and its number from 0, and the width of the bus in bytes comes last.
use Rattle.std.specs.Prelude.{ℕ, ◌+◌, ◌-◌, ◌%◌, ◌==◌, ◌&&◌, Bool, List, filter, map, nat_le, nat_lt, slice_index}
use Rattle.std.specs.List.{range_with_len}
use Rattle.std.specs.Int.{bit_at}
use Rattle.axi_beats.specs.Lanes.{Span}
use Rattle.axi_beats.specs.declared.beat.Addr.{Addr}
use Rattle.axi_beats.specs.declared.beat.WBeat.{WBeat}
use Rattle.burst_address.specs.Bytes.{Byte}
use Rattle.burst_address.specs.Formulas.{aligned, beat_at, lower_lane, size_of, upper_lane}

-- the first and the last valid lane of a beat
abbrev pub first_lane : Addr → ℕ → ℕ → ℕ
first_lane request beat bus = lower_lane bus (beat_at request beat)

abbrev pub last_lane : Addr → ℕ → ℕ → ℕ
last_lane request beat bus = upper_lane (size_of request) bus (beat_at request beat)

-- both as a span
abbrev pub valid_span : Addr → ℕ → ℕ → Span
valid_span request beat bus = record { low = first_lane request beat bus; high = last_lane request beat bus }

-- how many valid lanes it has
abbrev pub lane_count : Addr → ℕ → ℕ → ℕ
lane_count request beat bus = last_lane request beat bus - first_lane request beat bus + 1

-- the numbers of its valid lanes, upwards
abbrev pub valid_lanes : Addr → ℕ → ℕ → List ℕ
valid_lanes request beat bus = range_with_len (first_lane request beat bus) (lane_count request beat bus)

-- the lane is a valid one of the beat
abbrev pub is_valid : Addr → ℕ → ℕ → ℕ → Bool
is_valid request beat bus lane =
    nat_le (first_lane request beat bus) lane && nat_lt lane (first_lane request beat bus + lane_count request beat bus)

-- the address of the byte on a beat's lane 0: the multiple of the bus's width at or below the beat's address
abbrev pub word_address : Addr → ℕ → ℕ → ℕ
word_address request beat bus = aligned bus (beat_at request beat)

-- the address of the byte on a lane of a beat
abbrev pub lane_address : Addr → ℕ → ℕ → ℕ → ℕ
lane_address request beat bus lane = word_address request beat bus + lane

-- the lane of the wider bus on which lane 0 of the narrower bus stands, for the byte at an address
abbrev pub lane_shift : ℕ → ℕ → ℕ → ℕ
lane_shift narrow wide address = aligned narrow (address % wide)

-- a W beat strobes this lane
abbrev pub is_strobed : WBeat → ℕ → Bool
is_strobed w lane = bit_at w.strobe lane == 1

-- the lanes of the bus that a W beat strobes, upwards
abbrev pub strobed_lanes : ℕ → WBeat → List ℕ
strobed_lanes bus w = filter (is_strobed w) (range_with_len 0 bus)

-- the bytes of a W beat on these lanes, where the byte on lane 0 has this address
abbrev pub lane_bytes : ℕ → WBeat → List ℕ → List Byte
lane_bytes word w lanes = map (λ lane. record { address = word + lane; value = slice_index w.lanes lane }) lanes
