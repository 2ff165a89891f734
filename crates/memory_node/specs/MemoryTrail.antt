-- What a memory has passed on its link and accessed, what its state has to do with it (Arm IHI 0022, ordering model), and
-- the memory as a kind of node.
use Rattle.std.specs.Prelude.{◌≡◌, ◌<◌, ◌^◌, ◌++◌, ◌∷◌, [], ℕ, suc, List, Bool, true, false, IsTrue, All, AllPairs, flat_map, length, map}
use Rattle.axi_beats.specs.declared.beat.Addr.{Addr}
use Rattle.axi_beats.specs.declared.beat.RBeat.{RBeat}
use Rattle.axi_beats.specs.declared.beat.WBeat.{WBeat}
use Rattle.axi_trail.specs.Schedule.{ComesBefore, Progress, Schedule, Share, bytes_on}
use Rattle.axi_trail.specs.Trail.{Beats}
use Rattle.axi_trail.specs.Waiting.{pending}
use Rattle.axi_trail.specs.Words.{burst_asked, mark_of_reply, marks, number_of_data, number_of_read_data, read_reply}
use Rattle.burst_address.specs.Accesses.{answered_bytes, value_after}
use Rattle.memory_node.specs.Accesses.{accesses_of, beat_span, due_writes, writes_at}
use Rattle.memory_node.specs.Events.{Access, memory_events}
use Rattle.memory_node.specs.MemoryArea.{IsMemoryArea, MemoryArea, is_inside}
use Rattle.memory_node.specs.MemoryState.{AreLinesAmong, IsMemory, IsRequest, MemoryState, new_memory}
use Rattle.memory_node.specs.MemoryTable.{CanMemory, memory_service, memory_table, memory_wants}
use Rattle.memory_node.specs.Store.{Store, byte_at}
use Rattle.memory_node.specs.WantedReads.{wanted_before, wanted_due}
use Rattle.node_core.specs.Paces.{longest_delay}
use Rattle.node_shape.specs.Kind.{Kind, Passed, always_done}
use Rattle.node_shape.specs.LinkForm.{LinkForm}
use Rattle.node_shape.specs.Way.{end_here}
use Rattle.plain_lists.specs.Keys.{of_key}
use Rattle.plain_lists.specs.Prefixes.{IsPrefix}
use Rattle.axi_beats.specs.Lanes.{Span}
use Rattle.subordinate.specs.Parts.{BeatOf, beats_of_parts}
use Rattle.subordinate.specs.Tracks.{KeepsOrder, SuitsService, ends_with, is_written, len_of_address, read_waiting}
use Rattle.subordinate.specs.declared.entry.ReadEntry.{ReadEntry}

-- of a transaction that comes before another one in its chain, nothing is accessed after the first access of the other
abbrev pub AccessesInOrder : (ℕ → Share) → Bool → List Access → Type 0
AccessesInOrder shares write all =
    (before after : ℕ) → ComesBefore shares before after → (earlier later : List Access) (a : Access) → all ≡ earlier ++ a ∷ later → a.write ≡ write →
    a.number ≡ after → accesses_of write before later ≡ []

-- What a memory has accessed, by the write data that has come and the read data that it has put. `store` are its bytes, and
-- `all` its accesses, of which the reads are of the wanted lanes.
pub record HasAccessedOn (wanted : BeatOf → Span) (schedule : Schedule) (area : MemoryArea) (store : Store) (w : List WBeat) (r : List RBeat) (all : List Access) : Type 0 where
  -- the accesses of a transaction are those of its beats that have come, and those of its answer's beats
  pub written : (t : ℕ) → map (λ (a : Access). a.byte) (accesses_of true t all) ≡ due_writes area (schedule.writes t) (length (of_key number_of_data t w))
  pub read :
      (t : ℕ) →
      map (λ (a : Access). a.byte.address) (accesses_of false t all)
      ≡ wanted_due area wanted (schedule.reads t) (length (of_key number_of_read_data t r))
  -- the bytes that were answered are those that were read
  pub answered :
      (t : ℕ) →
      bytes_on (of_key number_of_read_data t r) (schedule.reads t).lanes
      ≡ answered_bytes
      (wanted_before area wanted (schedule.reads t) (length (of_key number_of_read_data t r)))
      (map (λ (a : Access). a.byte.value) (accesses_of false t all))
  -- each byte is what the writes left there
  pub bytes :
      (address : ℕ) → IsTrue (is_inside area address) →
      value_after (writes_at address) (λ (a : Access). a.byte.value) area.fill all ≡ byte_at store address
  -- and so was each that was read
  pub latest :
      (earlier later : List Access) (a : Access) → all ≡ earlier ++ a ∷ later → a.write ≡ false →
      a.byte.value ≡ value_after (writes_at a.byte.address) (λ (a : Access). a.byte.value) area.fill earlier
  -- the accesses of a chain's transactions are in order
  pub writes_in_order : AccessesInOrder schedule.writes true all
  pub reads_in_order : AccessesInOrder schedule.reads false all

-- at a memory these are the valid ones
abbrev pub HasAccessed : Schedule → MemoryArea → Store → List WBeat → List RBeat → List Access → Type 0
HasAccessed schedule area store w r all = HasAccessedOn (beat_span area) schedule area store w r all

-- What is due of each transaction suits a memory that keeps these lines: it can do the requests, their data has its strobes
-- on the bus, the lanes of read data are the valid ones, and the responses follow from its bytes.
pub record SuitsMemory (area : MemoryArea) (lines : List ℕ) (schedule : Schedule) : Type 0 where
  pub service : (t : ℕ) → SuitsService (memory_service area) (schedule.writes t) (schedule.reads t)
  pub lanes : (t : ℕ) → (schedule.reads t).lanes ≡ map (beat_span area) (beats_of_parts (schedule.reads t).parts)
  pub writes : (t : ℕ) → All (IsRequest area.bus) (schedule.writes t).parts
  pub lines_kept : (t : ℕ) → All (AreLinesAmong area lines) (schedule.writes t).parts
  pub reads : (t : ℕ) → All (IsRequest area.bus) (schedule.reads t).parts
  pub strobes : (t : ℕ) → All (λ (w : WBeat). w.strobe < 2 ^ area.bus) (flat_map (λ beats. beats) (schedule.writes t).write_data)

-- reads are answered one after the other, in order of their addresses: the first of those that aren't wholly answered is next
pub record AnswersInOrder (reads : List ReadEntry) (ar : List Addr) (r : List RBeat) : Type 0 where
  pub open_reads : map read_waiting reads ≡ pending len_of_address (length r) ar
  pub in_order : IsPrefix (map mark_of_reply (map read_reply r)) (marks (map burst_asked ar))

-- What holds of a memory over its trail and its accesses.
pub record MemoryKeeps (schedule : Schedule) (s : MemoryState) (trail : Beats) (all : List Access) : Type 0 where
  pub suits : SuitsMemory s.area s.inner.kept.lines schedule
  pub order : KeepsOrder (memory_service s.area) schedule s.inner trail
  pub reads : AnswersInOrder s.inner.reads trail.ar trail.r
  pub accessed : HasAccessed schedule s.area s.inner.kept trail.w trail.r all

-- A memory knows of a write that it is written, where its data has all come, and of a read the wanted bytes that were read for
-- it.
abbrev pub knows_on : (MemoryArea → BeatOf → Span) → (ℕ → Schedule) → MemoryState → Passed Access → Progress
knows_on wanted schedules s passed = record {
  issued = λ t. false;
  written = λ t. is_written ((schedules s.inner.upper).writes t) (length (of_key number_of_data t (passed.uppers s.inner.upper).w));
  filled = λ t.
      answered_bytes (wanted_before s.area (wanted s.area) ((schedules s.inner.upper).reads t) (length (beats_of_parts ((schedules s.inner.upper).reads t).parts)))
      (map (λ (a : Access). a.byte.value) (accesses_of false t passed.noted));
}

abbrev pub memory_knows : (ℕ → Schedule) → MemoryState → Passed Access → Progress
memory_knows schedules s passed = knows_on beat_span schedules s passed

-- how a memory begins: with the bytes that it has, its delays and the lines that may be written
pub record BeginsMemory (s : MemoryState) : Type 0 where
  pub area : IsMemoryArea s.area
  pub accept : List ℕ
  pub give : List ℕ
  pub touched : List ℕ
  pub ascending : AllPairs (λ a b. a < b) touched
  pub is_new : s ≡ new_memory s.area accept give s.inner.upper touched

-- its link is an AXI4 link of its bus, and carries writes on lines that it keeps
pub record IsSoundMemory (forms : ℕ → LinkForm) (schedules : ℕ → Schedule) (s : MemoryState) : Type 0 where
  pub full : (forms s.inner.upper).lite ≡ false
  pub bus : (forms s.inner.upper).bus ≡ s.area.bus
  pub lines : (t : ℕ) → All (AreLinesAmong s.area s.inner.kept.lines) ((schedules s.inner.upper).writes t).parts

-- a memory at the end of a link, which notes its accesses
abbrev pub memory_kind : Kind MemoryState Access
memory_kind = record {
  uppers = λ s. s.inner.upper ∷ [];
  lowers = λ s. [];
  begins = BeginsMemory;
  fact = IsMemory;
  can = λ round links s. CanMemory links s;
  table = λ round links s. memory_table links s;
  wants = memory_wants;
  notes = memory_events;
  way = λ s. end_here (ends_with (memory_service s.area));
  is_sound = IsSoundMemory;
  suits = λ schedules s. SuitsMemory s.area s.inner.kept.lines (schedules s.inner.upper);
  keeps = λ schedules rounds s passed. MemoryKeeps (schedules s.inner.upper) s (passed.uppers s.inner.upper) passed.noted;
  knows = memory_knows;
  is_done = always_done;
  patience = λ s. suc (longest_delay s.inner.paces);
}
