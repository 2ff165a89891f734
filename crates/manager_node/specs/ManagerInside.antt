-- How a manager is kept: what contracts see of its fields, and what holds of them.
use Rattle.std.specs.Prelude.{◌≡◌, ◌<◌, ◌≤◌, ◌+◌, ◌==◌, ℕ, true, Option, Some, None, IfSome, is_some, length, map, slice_get, if◌then◌else◌}
use Rattle.axi_link.specs.LinkView.{LinkView}
use Rattle.node_core.specs.declared.paces.EachRow.{EachRow}
use Rattle.node_core.specs.Acted.{Acted}
use Rattle.axi_link.specs.declared.out.Out.{Out}
use Rattle.burst_address.specs.Bytes.{beat_bytes, bytes_before}
use Rattle.manager_node.specs.ManagerState.{ManagerState, IsManager, script_writes, script_reads}
use Rattle.manager_node.specs.Script.{ScriptItem}
use Rattle.manager_node.specs.declared.manager.ManagerNode.TheInside.{Inside}
use Rattle.manager_node.specs.ManagerTable.{possible_aw, possible_ar, possible_b, possible_r, possible_w}
use Rattle.manager_node.specs.Placed.{placed}
use Rattle.manager_node.specs.declared.manager.Possible.{Possible}
use Rattle.manager_node.specs.declared.sending.Sending.{Sending}

-- the state that contracts see
abbrev pub manager_state : Inside → ManagerState
manager_state m = record {
  script = m.script;
  lower = m.lower;
  bus = m.bus;
  paces = m.paces;
  issued_writes = m.writes.issued;
  issued_reads = m.reads.issued;
  sent_writes = m.sending.writes;
  sent_beats = m.sending.beats;
  write_entries = m.writes.entries;
  read_entries = m.reads.entries;
  answered = m.answered;
  answers = m.answers;
}

-- and with it the moves of the round
abbrev pub manager_view : Inside → Acted ManagerState
manager_view m = record { state = manager_state m; out = m.out }

-- the data place stands within this write, after the bytes of the beats that were sent
pub record IsWithin (sending : Sending) (item : ScriptItem) : Type 0 where
  pub write : item.txn.write ≡ true
  pub beats : sending.beats ≤ item.txn.request.len
  pub bytes : sending.bytes ≡ length (bytes_before item.txn.request sending.beats)

-- the data place after a data beat of a write
abbrev pub sent_after : Option (ℕ × ScriptItem) → Sending → Sending
sent_after None sending = sending
sent_after (Some next) sending =
    if sending.beats == next.1.txn.request.len
    then record { writes = sending.writes + 1; beats = 0; bytes = 0 }
    else record { writes = sending.writes; beats = sending.beats + 1; bytes = sending.bytes + length (beat_bytes next.1.txn.request sending.beats) }

-- what could be done in a round, by the places of the transactions: in each row of the table the same
pub record IsPossible (link : LinkView) (s : ManagerState) (p : Possible) : Type 0 where
  pub write : placed s.script p.write ≡ possible_aw link s
  pub data_beat : placed s.script p.data_beat ≡ possible_w link s
  pub response : p.response ≡ is_some (possible_b link s)
  pub read : placed s.script p.read ≡ possible_ar link s
  pub read_beat : p.read_beat ≡ is_some (possible_r link s)
  pub write_within : IfSome p.write (λ place. place < length s.script)
  pub data_within : IfSome p.data_beat (λ place. place < length s.script)
  pub read_within : IfSome p.read (λ place. place < length s.script)

-- the rows whose condition holds then
abbrev pub wishes_of : Possible → EachRow
wishes_of p = record { aw = is_some p.write; w = is_some p.data_beat; b = p.response; ar = is_some p.read; r = p.read_beat }

-- the channels on which a manager does nothing
pub record IsAbove (out : Out) : Type 0 where
  pub aw_take : out.aw_take ≡ None
  pub w_take : out.w_take ≡ None
  pub b_put : out.b_put ≡ None
  pub ar_take : out.ar_take ≡ None
  pub r_put : out.r_put ≡ None

-- The state is that of a manager, each direction has the places of its transactions, the data place stands within the
-- next write, and nothing is put or taken that is not for a manager.
pub record IsManagerInside (m : Inside) : Type 0 where
  pub state : IsManager (manager_state m)
  pub write_places : m.writes.places.items ≡ map (λ p. p.0) (script_writes m.script)
  pub read_places : m.reads.places.items ≡ map (λ p. p.0) (script_reads m.script)
  pub sending : IfSome (slice_get (script_writes m.script) m.sending.writes) (λ next. IsWithin m.sending next.1)
  pub above : IsAbove m.out
