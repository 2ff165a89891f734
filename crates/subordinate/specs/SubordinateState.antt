-- A subordinate as contracts see it between rounds.
use Rattle.std.specs.Prelude.{ℕ, List, [], ◌≤◌}
use Rattle.burst_address.specs.Formulas.{beats_of}
use Rattle.node_core.specs.declared.paces.Paces.{Paces}
use Rattle.subordinate.specs.declared.entry.ReadEntry.{ReadEntry}
use Rattle.subordinate.specs.declared.entry.WriteEntry.{WriteEntry}

-- the number of the link above it, its rows' paces, its open writes and reads in the order in which they came, and what it
-- keeps of the bytes that are written
pub record Subordinate (D : Type 0) : Type 0 where
  pub upper : ℕ
  pub paces : Paces
  pub writes : List WriteEntry
  pub reads : List ReadEntry
  pub kept : D

-- one that nothing has asked yet
abbrev pub new_subordinate : {D : Type 0} → ℕ → Paces → D → Subordinate D
new_subordinate upper paces kept = record { upper = upper; paces = paces; writes = []; reads = []; kept = kept }

-- no more data is taken for a write than its burst has
abbrev pub HasItsData : WriteEntry → Type 0
HasItsData entry = entry.taken ≤ beats_of entry.request

-- an open read has a beat left to put
abbrev pub HasABeat : ReadEntry → Type 0
HasABeat entry = entry.put ≤ entry.request.len
