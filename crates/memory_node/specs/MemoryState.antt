-- A memory as contracts see it between rounds: its state, and what holds of it.
use Rattle.std.specs.Prelude.{◌<◌, ◌≤◌, ◌^◌, ℕ, List, Option, Some, None, IsTrue, All, Contains, if◌then◌else◌}
use Rattle.axi_beats.specs.declared.beat.Addr.{Addr}
use Rattle.burst_address.specs.Lanes.{word_address}
use Rattle.burst_address.specs.Legal.{IsLegal}
use Rattle.memory_node.specs.MemoryArea.{IsMemoryArea, MemoryArea, is_inside}
use Rattle.memory_node.specs.Store.{IsStore, Store, byte_at, line_number, new_store}
use Rattle.node_core.specs.Paces.{new_paces}
use Rattle.subordinate.specs.SubordinateState.{HasABeat, HasItsData, Subordinate, new_subordinate}
use Rattle.subordinate.specs.declared.entry.ReadEntry.{ReadEntry}
use Rattle.subordinate.specs.declared.entry.WriteEntry.{WriteEntry}

-- the bytes that it has, which never changes, and the subordinate that it is, which keeps their values
pub record MemoryState : Type 0 where
  pub area : MemoryArea
  pub inner : Subordinate Store

-- a memory below a link that nothing has asked yet, whose bytes all have the fill value; these lines of it may be written
abbrev pub new_memory : MemoryArea → List ℕ → List ℕ → ℕ → List ℕ → MemoryState
new_memory area accept give upper touched = record {
  area = area;
  inner = new_subordinate upper (new_paces accept give) (new_store touched area.fill);
}

-- the byte of an address; None outside the memory
abbrev pub memory_byte : MemoryState → ℕ → Option ℕ
memory_byte s address = if is_inside s.area address then Some (byte_at s.inner.kept address) else None

-- a request that a memory on this bus can do: for a legal burst below 2 ^ 63
pub record IsRequest (bus : ℕ) (request : Addr) : Type 0 where
  pub legal : IsLegal request bus
  pub small : request.addr < 2 ^ 63

-- each line of a request's beats that lies in the memory is one of these lines
abbrev pub AreLinesAmong : MemoryArea → List ℕ → Addr → Type 0
AreLinesAmong area lines request =
    (beat : ℕ) → beat ≤ request.len → IsTrue (is_inside area (word_address request beat area.bus)) →
    Contains lines (line_number (word_address request beat area.bus))

-- a write that the memory can do, on lines that it keeps
pub record IsWriteEntry (area : MemoryArea) (lines : List ℕ) (entry : WriteEntry) : Type 0 where
  pub request : IsRequest area.bus entry.request
  pub lines_kept : AreLinesAmong area lines entry.request
  pub taken : HasItsData entry

-- a read that the memory can do, with at least one beat to put
pub record IsReadEntry (area : MemoryArea) (entry : ReadEntry) : Type 0 where
  pub request : IsRequest area.bus entry.request
  pub put : HasABeat entry

-- what holds of a memory between rounds
pub record IsMemory (s : MemoryState) : Type 0 where
  pub area : IsMemoryArea s.area
  pub store : IsStore s.inner.kept
  pub writes : All (IsWriteEntry s.area s.inner.kept.lines) s.inner.writes
  pub reads : All (IsReadEntry s.area) s.inner.reads
