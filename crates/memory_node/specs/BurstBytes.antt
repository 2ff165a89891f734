-- A memory's beats in the terms of bursts: their lines, and the bytes that they read and write (Arm IHI 0022, burst
-- address structure).
use Rattle.std.specs.Prelude.{◌≡◌, ◌↔◌, ◌≤◌, ◌++◌, ◌∷◌, [], ℕ, suc, List, All, Contains, IsTrue, filter, flat_map, length, map, zip}
use Rattle.axi_beats.specs.declared.beat.Addr.{Addr}
use Rattle.axi_beats.specs.declared.beat.WBeat.{WBeat}
use Rattle.axi_trail.specs.Schedule.{Share}
use Rattle.burst_address.specs.Bytes.{beat_bytes, beat_written, burst_bytes, written_bytes as burst_written, Byte}
use Rattle.burst_address.specs.Formulas.{beats_of}
use Rattle.burst_address.specs.LaneLaws.{AllStrobeValidLanes, StrobesValidLanes}
use Rattle.burst_address.specs.Legal.{IsLegal}
use Rattle.subordinate.specs.Parts.{beats_of_parts}
use Rattle.memory_node.specs.Accesses.{due_reads, due_writes, read_addresses}
use Rattle.memory_node.specs.Beats.{stored_bytes}
use Rattle.memory_node.specs.MemoryState.{AreLinesAmong}
use Rattle.memory_node.specs.Status.{may_read, may_write}
use Rattle.memory_node.specs.Store.{line_number}
use Rattle.memory_node.specs.MemoryArea.{IsMemoryArea, MemoryArea, is_inside}

-- the lines of a request's beats are those of its burst's bytes
abbrev pub LinesAreOfBurst : Type 0
LinesAreOfBurst =
    (area : MemoryArea) (lines : List ℕ) (a : Addr) → IsMemoryArea area → IsLegal a area.bus →
    AreLinesAmong area lines a ↔ All (λ byte. IsTrue (is_inside area byte) → Contains lines (line_number byte)) (burst_bytes a)

-- a beat of a read reads those of the burst's bytes that may be read
abbrev pub ReadsBurstBytes : Type 0
ReadsBurstBytes =
    (area : MemoryArea) (a : Addr) (n : ℕ) → IsMemoryArea area → IsLegal a area.bus →
    read_addresses area (record { request = a; beat = n }) ≡ filter (may_read area) (beat_bytes a n)

-- those of some bytes that may be written
abbrev pub writable_of : MemoryArea → List Byte → List Byte
writable_of area bytes = filter (λ (byte : Byte). may_write area byte.address) bytes

-- a W beat that strobes valid lanes alone writes those of the burst's bytes that may be written
abbrev pub WritesBeatBytes : Type 0
WritesBeatBytes =
    (area : MemoryArea) (a : Addr) (n : ℕ) (w : WBeat) → IsMemoryArea area → IsLegal a area.bus →
    StrobesValidLanes area.bus a n w →
    stored_bytes area a n w ≡ writable_of area (beat_written area.bus a n w)

-- the bytes that W beats write, of which the first one is beat n of a request
abbrev pub all_stored_bytes : MemoryArea → Addr → ℕ → List WBeat → List Byte
all_stored_bytes area a n [] = []
all_stored_bytes area a n (w ∷ ws) = stored_bytes area a n w ++ all_stored_bytes area a (suc n) ws

-- they are those of the burst that may be written, in burst order, where each beat strobes valid lanes alone
abbrev pub WritesBurstBytes : Type 0
WritesBurstBytes =
    (area : MemoryArea) (a : Addr) (ws : List WBeat) → IsMemoryArea area → IsLegal a area.bus →
    length ws ≤ beats_of a →
    AllStrobeValidLanes area.bus a 0 ws →
    all_stored_bytes area a 0 ws ≡ writable_of area (burst_written area.bus a ws)

-- what is due of a write at the memory, of all its beats, is what the beats of its parts write
abbrev pub DueWritesAreOfParts : Type 0
DueWritesAreOfParts =
    (area : MemoryArea) (share : Share) → map (λ (ws : List WBeat). length ws) share.write_data ≡ map beats_of share.parts →
    due_writes area share (length (beats_of_parts share.parts))
    ≡ flat_map (λ (p : Addr × List WBeat). all_stored_bytes area p.0 0 p.1) (zip share.parts share.write_data)

-- and what is due of a read there are the bytes of its parts that may be read
abbrev pub DueReadsAreOfParts : Type 0
DueReadsAreOfParts =
    (area : MemoryArea) (share : Share) → IsMemoryArea area → All (λ part. IsLegal part area.bus) share.parts →
    due_reads area share (length (beats_of_parts share.parts))
    ≡ flat_map (λ part. filter (may_read area) (burst_bytes part)) share.parts
