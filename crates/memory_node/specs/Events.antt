-- The accesses to bytes that a memory makes in a round.
use Rattle.std.specs.Prelude.{◌++◌, [], ℕ, List, Bool, true, false, Option, Some, None, map}
use Rattle.axi_beats.specs.declared.beat.RBeat.{RBeat}
use Rattle.axi_beats.specs.declared.beat.WBeat.{WBeat}
use Rattle.axi_link.specs.LinkView.{LinkView}
use Rattle.axi_link.specs.LinkWords.{head_of}
use Rattle.axi_beats.specs.Lanes.{Span}
use Rattle.burst_address.specs.Bytes.{Byte}
use Rattle.burst_address.specs.Lanes.{valid_span}
use Rattle.memory_node.specs.Beats.{stored_bytes}
use Rattle.memory_node.specs.MemoryArea.{MemoryArea}
use Rattle.memory_node.specs.MemoryState.{MemoryState}
use Rattle.memory_node.specs.MemoryTable.{memory_service}
use Rattle.memory_node.specs.Store.{Store}
use Rattle.memory_node.specs.WantedReads.{wanted_reads}
use Rattle.subordinate.specs.Parts.{BeatOf}
use Rattle.subordinate.specs.SubordinateTable.{moved_r, moved_w, oldest_lacking}
use Rattle.subordinate.specs.declared.entry.ReadEntry.{ReadEntry}
use Rattle.subordinate.specs.declared.entry.WriteEntry.{WriteEntry}

-- an access to a byte: the number that the beat's tag carries, the byte with its address, and whether it was written
pub record Access : Type 0 where
  pub number : ℕ
  pub byte : Byte
  pub write : Bool

-- accesses of one beat
abbrev pub accesses : ℕ → Bool → List Byte → List Access
accesses number write bytes = map (λ byte. record { number = number; byte = byte; write = write }) bytes

-- a beat that is taken writes bytes for the oldest write that lacks data
abbrev pub beat_writes : MemoryArea → Option WBeat → Option WriteEntry → List Access
beat_writes area None entry = []
beat_writes area (Some w) None = []
beat_writes area (Some w) (Some entry) = accesses w.tag.txn true (stored_bytes area entry.request entry.taken w)

-- a beat that is put reads its wanted bytes for the oldest read
abbrev pub reads_on : MemoryArea → (BeatOf → Span) → Store → Option RBeat → Option ReadEntry → List Access
reads_on area wanted store None entry = []
reads_on area wanted store (Some r) None = []
reads_on area wanted store (Some r) (Some entry) = accesses r.tag.txn false (wanted_reads area wanted store (record { request = entry.request; beat = entry.put }))

-- at a memory the valid ones
abbrev pub beat_reads : MemoryArea → Store → Option RBeat → Option ReadEntry → List Access
beat_reads area store r entry = reads_on area (λ b. valid_span b.request b.beat area.bus) store r entry

-- the accesses of a round, where these lanes of reads are wanted: reads before writes, and those of a beat by ascending lane
abbrev pub events_on : (BeatOf → Span) → List LinkView → MemoryState → List Access
events_on wanted links s =
    reads_on s.area wanted s.inner.kept (moved_r (memory_service s.area) links s.inner) (head_of s.inner.reads)
    ++ beat_writes s.area (moved_w (memory_service s.area) links s.inner) (oldest_lacking s.inner.writes)

-- those of a memory
abbrev pub memory_events : List LinkView → MemoryState → List Access
memory_events links s = events_on (λ b. valid_span b.request b.beat s.area.bus) links s
