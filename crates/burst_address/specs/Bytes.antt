-- The bytes of a burst, as one list over its beats and their valid bytes, and those of them that a write writes
-- (Arm IHI 0022, write strobes, narrow transfers and unaligned transfers).
use Rattle.std.specs.Prelude.{ℕ, ◌+◌, ◌-◌, ◌%◌, ◌==◌, if◌then◌else◌, List, [], ◌∷◌, ◌++◌, Option, Some, None, map, slice_index}
use Rattle.std.proofs.Common.{zero, suc}
use Rattle.std.specs.List.{range_with_len}
use Rattle.std.specs.Int.{bit_at}
use Rattle.axi_beats.specs.declared.beat.Addr.{Addr}
use Rattle.axi_beats.specs.declared.beat.WBeat.{WBeat}
use Rattle.burst_address.specs.Formulas.{aligned, size_of, beats_of, beat_at}

-- the addresses of the valid bytes of a beat at an address, ascending: from the address to the end
-- of the aligned block that it lies in
abbrev pub valid_bytes : ℕ → ℕ → List ℕ
valid_bytes size address = range_with_len address (aligned size address + size - address)

-- the addresses of the valid bytes of beat n
abbrev pub beat_bytes : Addr → ℕ → List ℕ
beat_bytes a n = valid_bytes (size_of a) (beat_at a n)

-- the addresses of the valid bytes of the first n beats, beat by beat
abbrev pub bytes_before : Addr → ℕ → List ℕ
bytes_before a zero = []
bytes_before a (suc n) = bytes_before a n ++ beat_bytes a n

-- the addresses of all valid bytes of a burst
abbrev pub burst_bytes : Addr → List ℕ
burst_bytes a = bytes_before a (beats_of a)

-- what a W beat says of the byte at an address: its value, where the strobe of its lane is set
abbrev pub strobed_byte : ℕ → WBeat → ℕ → Option ℕ
strobed_byte bus w address =
    if bit_at w.strobe (address % bus) == 1 then Some (slice_index w.lanes (address % bus)) else None

-- what W beats say of the valid bytes of a burst, of which the first one is beat n
abbrev pub strobed_values : ℕ → Addr → ℕ → List WBeat → List (Option ℕ)
strobed_values bus a n [] = []
strobed_values bus a n (w ∷ ws) = map (strobed_byte bus w) (beat_bytes a n) ++ strobed_values bus a (suc n) ws

-- a byte at its address
pub record Byte : Type 0 where
  pub address : ℕ
  pub value : ℕ

-- those addresses whose value is there, each with it
abbrev pub bytes_with : List ℕ → List (Option ℕ) → List Byte
bytes_with [] values = []
bytes_with (address ∷ addresses) [] = []
bytes_with (address ∷ addresses) (None ∷ values) = bytes_with addresses values
bytes_with (address ∷ addresses) (Some value ∷ values) = record { address = address; value = value } ∷ bytes_with addresses values

-- the bytes that W beat n writes, ascending: the strobed ones
abbrev pub beat_written : ℕ → Addr → ℕ → WBeat → List Byte
beat_written bus a n w = bytes_with (beat_bytes a n) (map (strobed_byte bus w) (beat_bytes a n))

-- the bytes that a write with these W beats, from the first one on, writes, in burst order
abbrev pub written_bytes : ℕ → Addr → List WBeat → List Byte
written_bytes bus a ws = bytes_with (burst_bytes a) (strobed_values bus a 0 ws)
