-- The manager's decision table. All rows read the links and the state as they stand at the round's start.
-- (Arm IHI 0022, dependencies between channel handshake signals; transaction ordering.)
use Rattle.std.specs.Prelude.{◌==◌, ◌+◌, ◌&&◌, ◌++◌, ◌∷◌, [], ℕ, List, Bool, true, false, Option, Some, None}
use Rattle.std.specs.Prelude.{length, find, is_some, nat_lt, nat_le, slice_get, slice_index_or, if◌then◌else◌}
use Rattle.std.specs.Option.{option_map}
use Rattle.axi_beats.specs.declared.beat.BBeat.{BBeat}
use Rattle.axi_beats.specs.declared.beat.RBeat.{RBeat}
use Rattle.axi_link.specs.LinkView.{LinkView}
use Rattle.axi_link.specs.declared.out.Out.{Out}
use Rattle.manager_node.specs.Answer.{AnswerView, issued_in, is_last, answered_in, noted, unanswered}
use Rattle.manager_node.specs.Beats.{data_beat, bytes_on_valid_lanes, item_request}
use Rattle.manager_node.specs.ManagerState.{ManagerState, script_writes, script_reads}
use Rattle.manager_node.specs.Script.{ScriptItem}
use Rattle.manager_node.specs.declared.entry.Entry.{Entry}
use Rattle.plain_lists.specs.Keys.{without_oldest}
use Rattle.node_core.specs.Acted.{Acted}
use Rattle.axi_link.specs.LinkWords.{link_of, head_of, has_room}
use Rattle.node_core.specs.Paces.{any_row, paces_after, rows_let}
use Rattle.node_core.specs.Rows.{beat_where, fits, put_of, take_of}
use Rattle.node_core.specs.declared.paces.EachRow.{EachRow}

-- the link below as it stands
abbrev pub below : List LinkView → ManagerState → LinkView
below links s = link_of links s.lower

-- the next transaction where as many are answered as it waits for
abbrev pub ready : ℕ → Option (ℕ × ScriptItem) → Option (ℕ × ScriptItem)
ready answered None = None
ready answered (Some next) = beat_where (nat_le next.1.txn.after answered) (Some next)

module _ {X : Type 0} where
  -- an answer that a link offers, with the oldest entry of its ID; none where no entry has its ID
  abbrev pub answering : (X → ℕ) → List Entry → Option X → Option (Entry × X)
  answering id_of entries None = None
  answering id_of entries (Some head) = option_map (λ entry. (entry, head)) (find (λ entry. entry.id == id_of head) entries)

-- What could be done on each channel of the link as it stands, in the rows of the table.

-- AW: the next write is issued where it is ready, entries fit, and there is room below
abbrev pub possible_aw : LinkView → ManagerState → Option (ℕ × ScriptItem)
possible_aw link s = beat_where (fits s.write_entries && has_room link.depth link.aw) (ready s.answered (slice_get (script_writes s.script) s.issued_writes))

-- W: the next data beat of the oldest write that is issued and whose data isn't all sent goes where there is room below
abbrev pub possible_w : LinkView → ManagerState → Option (ℕ × ScriptItem)
possible_w link s = beat_where (nat_lt s.sent_writes s.issued_writes && has_room link.depth link.w) (slice_get (script_writes s.script) s.sent_writes)

-- B: a response is taken that answers a write, the oldest one of its ID
abbrev pub possible_b : LinkView → ManagerState → Option (Entry × BBeat)
possible_b link s = answering (λ beat. beat.id) s.write_entries (head_of link.b)

-- AR: the next read is issued where it is ready, entries fit, and there is room below
abbrev pub possible_ar : LinkView → ManagerState → Option (ℕ × ScriptItem)
possible_ar link s = beat_where (fits s.read_entries && has_room link.depth link.ar) (ready s.answered (slice_get (script_reads s.script) s.issued_reads))

-- R: a data beat is taken that answers a read, the oldest one of its ID: it is the next beat of that read
abbrev pub possible_r : LinkView → ManagerState → Option (Entry × RBeat)
possible_r link s = answering (λ beat. beat.id) s.read_entries (head_of link.r)

-- the rows whose condition holds, and those that their paces let through
abbrev pub manager_wishes : LinkView → ManagerState → EachRow
manager_wishes link s = record {
  aw = is_some (possible_aw link s);
  w = is_some (possible_w link s);
  b = is_some (possible_b link s);
  ar = is_some (possible_ar link s);
  r = is_some (possible_r link s);
}

abbrev pub manager_rows : List LinkView → ManagerState → EachRow
manager_rows links s = rows_let (manager_wishes (below links s) s) s.paces

-- what is done on each channel
abbrev pub manager_aw : List LinkView → ManagerState → Option (ℕ × ScriptItem)
manager_aw links s = beat_where (manager_rows links s).aw (possible_aw (below links s) s)

abbrev pub manager_w : List LinkView → ManagerState → Option (ℕ × ScriptItem)
manager_w links s = beat_where (manager_rows links s).w (possible_w (below links s) s)

abbrev pub manager_b : List LinkView → ManagerState → Option (Entry × BBeat)
manager_b links s = beat_where (manager_rows links s).b (possible_b (below links s) s)

abbrev pub manager_ar : List LinkView → ManagerState → Option (ℕ × ScriptItem)
manager_ar links s = beat_where (manager_rows links s).ar (possible_ar (below links s) s)

abbrev pub manager_r : List LinkView → ManagerState → Option (Entry × RBeat)
manager_r links s = beat_where (manager_rows links s).r (possible_r (below links s) s)

-- an answer, where it is the last one that is due of its entry
module _ {X : Type 0} where
  abbrev pub ending : List AnswerView → Option (Entry × X) → Option (Entry × X)
  ending answers None = None
  ending answers (Some answer) = beat_where (is_last (slice_index_or answers answer.0.place (unanswered 0))) (Some answer)

-- R: the data beat that is taken, where it is the last one of its read
abbrev pub manager_r_last : List LinkView → ManagerState → Option (Entry × RBeat)
manager_r_last links s = ending s.answers (manager_r links s)

-- a data beat that goes is the last one of its write, of which so many went before
abbrev pub ends_data : ℕ → Option (ℕ × ScriptItem) → Bool
ends_data beats None = false
ends_data beats (Some next) = beats == next.1.txn.request.len

-- how many data beats of the next write have gone then
abbrev pub beats_after : ℕ → Option (ℕ × ScriptItem) → ℕ
beats_after beats None = beats
beats_after beats (Some next) = if beats == next.1.txn.request.len then 0 else beats + 1

-- one more where something moves
abbrev pub more : Bool → ℕ
more true = 1
more false = 0

-- the entries without the one that is answered
module _ {X : Type 0} where
  abbrev pub left_waiting : Option (Entry × X) → List Entry → List Entry
  left_waiting None entries = entries
  left_waiting (Some answer) entries = without_oldest (λ entry. entry.id) answer.0.id entries

-- the entries with the one that is issued
abbrev pub with_issued : Option (ℕ × ScriptItem) → List Entry → List Entry
with_issued None entries = entries
with_issued (Some next) entries = entries ++ record { place = next.0; id = next.1.txn.request.id } ∷ []

-- the round and the response of a write are noted
abbrev pub note_write : ℕ → Option (Entry × BBeat) → List AnswerView → List AnswerView
note_write round None answers = answers
note_write round (Some answer) answers = noted answer.0.place (answered_in round answer.1.resp []) answers

-- what is noted of a read with its next beat: the response, and the bytes of the valid lanes
abbrev pub read_in : ℕ → ℕ → Option ScriptItem → RBeat → AnswerView → AnswerView
read_in round bus None beat a = a
read_in round bus (Some item) beat a = answered_in round beat.resp (bytes_on_valid_lanes bus item.txn.request (length a.resps) beat.lanes) a

-- the next beat of a read is noted, and with the last one the round
abbrev pub note_read : ℕ → ℕ → List ScriptItem → Option (Entry × RBeat) → List AnswerView → List AnswerView
note_read round bus script None answers = answers
note_read round bus script (Some answer) answers = noted answer.0.place (read_in round bus (slice_get script answer.0.place) answer.1) answers

-- the round of an issue is noted
abbrev pub note_issue : ℕ → Option (ℕ × ScriptItem) → List AnswerView → List AnswerView
note_issue round None answers = answers
note_issue round (Some next) answers = noted next.0 (issued_in round) answers

-- the state after the round: the changes of B, R, W, AW and AR, in this order
abbrev pub manager_next : ℕ → List LinkView → ManagerState → ManagerState
manager_next round links s = record {
  script = s.script;
  lower = s.lower;
  bus = s.bus;
  paces = paces_after (manager_wishes (below links s) s) s.paces;
  issued_writes = s.issued_writes + more (is_some (manager_aw links s));
  issued_reads = s.issued_reads + more (is_some (manager_ar links s));
  sent_writes = s.sent_writes + more (ends_data s.sent_beats (manager_w links s));
  sent_beats = beats_after s.sent_beats (manager_w links s);
  write_entries = with_issued (manager_aw links s) (left_waiting (manager_b links s) s.write_entries);
  read_entries = with_issued (manager_ar links s) (left_waiting (manager_r_last links s) s.read_entries);
  answered = s.answered + more (is_some (manager_b links s)) + more (is_some (manager_r_last links s));
  answers =
      note_issue round (manager_ar links s)
      (note_issue round (manager_aw links s) (note_read round s.bus s.script (manager_r links s) (note_write round (manager_b links s) s.answers)));
}

-- the takes and puts of the round, all on the link below
abbrev pub manager_out : List LinkView → ManagerState → Out
manager_out links s = record {
  aw_take = None;
  aw_put = put_of s.lower (option_map (λ next. item_request next.1) (manager_aw links s));
  w_take = None;
  w_put = put_of s.lower (option_map (λ next. data_beat next.1 s.bus s.sent_beats) (manager_w links s));
  b_take = take_of s.lower (is_some (manager_b links s));
  b_put = None;
  ar_take = None;
  ar_put = put_of s.lower (option_map (λ next. item_request next.1) (manager_ar links s));
  r_take = take_of s.lower (is_some (manager_r links s));
  r_put = None;
}

-- what the manager does in a round: its next state, and its takes and puts
abbrev pub manager_table : ℕ → List LinkView → ManagerState → Acted ManagerState
manager_table round links s = record { state = manager_next round links s; out = manager_out links s }

-- some row's condition holds
abbrev pub manager_wants : List LinkView → ManagerState → Bool
manager_wants links s = any_row (manager_wishes (below links s) s)
