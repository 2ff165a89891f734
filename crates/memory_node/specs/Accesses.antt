-- The accesses that are due of a transaction at a memory, beat by beat, and what they leave behind.
use Rattle.std.specs.Prelude.{◌==◌, ◌&&◌, ℕ, List, Bool, filter, flat_map, take}
use Rattle.std.specs.Bool.{beq}
use Rattle.axi_beats.specs.declared.beat.WBeat.{WBeat}
use Rattle.axi_beats.specs.Lanes.{Span}
use Rattle.axi_trail.specs.Schedule.{Share}
use Rattle.burst_address.specs.Bytes.{Byte}
use Rattle.burst_address.specs.Lanes.{valid_span}
use Rattle.memory_node.specs.MemoryArea.{MemoryArea}
use Rattle.subordinate.specs.Parts.{BeatOf, beats_with_data}
use Rattle.memory_node.specs.Beats.{stored_bytes}
use Rattle.memory_node.specs.Events.{Access}
use Rattle.memory_node.specs.WantedReads.{wanted_addresses, wanted_allowed, wanted_before, wanted_due}

-- the bytes that the first beats of a write write
abbrev pub due_writes : MemoryArea → Share → ℕ → List Byte
due_writes area share count = flat_map (λ (b : BeatOf × WBeat). stored_bytes area b.0.request b.0.beat b.1) (take count (beats_with_data share))

-- the lanes that a beat of a read answers
abbrev pub beat_span : MemoryArea → BeatOf → Span
beat_span area b = valid_span b.request b.beat area.bus

-- a byte of a read may be read, for the bytes of a beat in order
abbrev pub allowed_bytes : MemoryArea → BeatOf → List Bool
allowed_bytes area b = wanted_allowed area (beat_span area) b

-- the addresses that a beat of a read reads
abbrev pub read_addresses : MemoryArea → BeatOf → List ℕ
read_addresses area b = wanted_addresses area (beat_span area) b

-- the addresses that the first beats of a read read
abbrev pub due_reads : MemoryArea → Share → ℕ → List ℕ
due_reads area share count = wanted_due area (beat_span area) share count

-- whether each byte of the first beats of a read may be read
abbrev pub allowed_before : MemoryArea → Share → ℕ → List Bool
allowed_before area share count = wanted_before area (beat_span area) share count

-- the accesses of a transaction in a direction
abbrev pub accesses_of : Bool → ℕ → List Access → List Access
accesses_of write number all = filter (λ (a : Access). beq a.write write && a.number == number) all

-- an access writes this address
abbrev pub writes_at : ℕ → Access → Bool
writes_at address a = a.write && a.byte.address == address
