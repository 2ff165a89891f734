-- A manager as contracts see it between rounds: its state, and what holds of it.
use Rattle.std.specs.Prelude.{◌≡◌, ◌≢◌, ◌↔◌, ◌==◌, ◌<◌, ◌≤◌, ◌+◌, ◌++◌, ◌∷◌, [], ℕ, List, Bool, true, false, Option, Some, None, All}
use Rattle.std.specs.Prelude.{IfSome, length, map, drop, filter, count_by, not, nat_lt, slice_get, slice_index_or, if◌then◌else◌}
use Rattle.std.specs.List.{enumerate_from}
use Rattle.axi_beats.specs.Bus.{IsBusWidth}
use Rattle.axi_link.specs.LinkView.{LinkView}
use Rattle.burst_address.specs.Bytes.{burst_bytes, bytes_before}
use Rattle.burst_address.specs.Legal.{IsLegal}
use Rattle.node_core.specs.declared.paces.Paces.{Paces}
use Rattle.manager_node.specs.Answer.{AnswerView, awaited_of, unanswered}
use Rattle.manager_node.specs.Script.{ScriptItem, IsScript}
use Rattle.manager_node.specs.declared.entry.Entry.{Entry}
use Rattle.manager_node.specs.declared.script.Txn.{Txn}

-- The script, the number of the link below and the bytes of its bus, and the paces of the rows; how many of the script's writes and reads are
-- issued, of how many writes all data is sent, and how many data beats of the next one; the transactions that wait for
-- their answers, in order of issue; how many are answered, and what is noted of each.
pub record ManagerState : Type 0 where
  pub script : List ScriptItem
  pub lower : ℕ
  pub bus : ℕ
  pub paces : Paces
  pub issued_writes : ℕ
  pub issued_reads : ℕ
  pub sent_writes : ℕ
  pub sent_beats : ℕ
  pub write_entries : List Entry
  pub read_entries : List Entry
  pub answered : ℕ
  pub answers : List AnswerView

-- the transaction is a write, or is a read
abbrev pub is_directed : Bool → Txn → Bool
is_directed true txn = txn.write
is_directed false txn = not txn.write

-- the writes, or the reads, of a script in their order, each with its place
abbrev pub of_direction : Bool → List ScriptItem → List (ℕ × ScriptItem)
of_direction write script = filter (λ (p : ℕ × ScriptItem). is_directed write p.1.txn) (enumerate_from 0 script)

-- the writes of a script, and its reads
abbrev pub script_writes : List ScriptItem → List (ℕ × ScriptItem)
script_writes script = of_direction true script

abbrev pub script_reads : List ScriptItem → List (ℕ × ScriptItem)
script_reads script = of_direction false script

-- how many responses answer a transaction: one a write, and one for each beat a read
abbrev pub due_resps : Txn → ℕ
due_resps txn = if txn.write then 1 else txn.request.len + 1

-- how many bytes a transaction reads: those of all its beats
abbrev pub due_bytes : Txn → ℕ
due_bytes txn = if txn.write then 0 else length (burst_bytes txn.request)

-- and how many with its first beats
abbrev pub bytes_by : Txn → ℕ → ℕ
bytes_by txn beats = if txn.write then 0 else length (bytes_before txn.request beats)

-- a manager that has issued nothing
abbrev pub new_manager : List ScriptItem → ℕ → ℕ → Paces → ManagerState
new_manager script lower bus paces = record {
  script = script;
  lower = lower;
  bus = bus;
  paces = paces;
  issued_writes = 0;
  issued_reads = 0;
  sent_writes = 0;
  sent_beats = 0;
  write_entries = [];
  read_entries = [];
  answered = 0;
  answers = map (λ item. awaited_of (due_resps item.txn) (due_bytes item.txn)) script;
}

-- the answer has come
abbrev pub is_answered : AnswerView → Bool
is_answered a = nat_lt 0 a.answered

-- what is noted, where the answer has come
abbrev pub answered_one : Option AnswerView → Option AnswerView
answered_one None = None
answered_one (Some a) = if is_answered a then Some a else None

-- the answer to the transaction at a place of the script, where it has come
abbrev pub answer_of : ManagerState → ℕ → Option AnswerView
answer_of s place = answered_one (slice_get s.answers place)

-- all transactions are answered
abbrev pub is_done : ManagerState → Bool
is_done s = s.answered == length s.script

-- rounds count from 1, and there is a link below
pub record CanManager (round : ℕ) (links : List LinkView) (s : ManagerState) : Type 0 where
  pub counted : 0 < round
  pub linked : s.lower < length links

-- how many transactions of a direction are issued
abbrev pub issued_of : Bool → ManagerState → ℕ
issued_of true s = s.issued_writes
issued_of false s = s.issued_reads

-- those of a direction that wait for their answers
abbrev pub entries_of : Bool → ManagerState → List Entry
entries_of true s = s.write_entries
entries_of false s = s.read_entries

-- the entry of an issued transaction
abbrev pub entry_of : ℕ × ScriptItem → Entry
entry_of p = record { place = p.0; id = p.1.txn.request.id }

-- A transaction of a direction stands at this place of the script, and isn't answered: there is room for all its
-- responses and bytes, and some are still to come.
pub record IsDue (script : List ScriptItem) (write : Bool) (place : ℕ) (a : AnswerView) : Type 0 where
  pub item : ScriptItem
  pub at : slice_get script place ≡ Some item
  pub direction : item.txn.write ≡ write
  pub answered : a.answered ≡ 0
  pub more : length a.resps < a.due_resps
  pub bytes : length a.bytes ≤ bytes_by item.txn (length a.resps)
  pub due_resps : a.due_resps ≡ due_resps item.txn
  pub due_bytes : a.due_bytes ≡ due_bytes item.txn

-- the places of the transactions of one direction that wait for their answers, and then of those that wait for
-- their issue
abbrev pub waiting_places : List Entry → ℕ → List (ℕ × ScriptItem) → List ℕ
waiting_places entries issued transactions = map (λ (entry : Entry). entry.place) entries ++ map (λ (p : ℕ × ScriptItem). p.0) (drop issued transactions)

-- each of these places is another one
abbrev pub AreDistinct : List ℕ → Type 0
AreDistinct [] = Unit {0}
AreDistinct (place ∷ places) = All (λ other. other ≢ place) places × AreDistinct places

-- the transactions at these places are of this direction, and wait
pub record AreWaiting (script : List ScriptItem) (write : Bool) (answers : List AnswerView) (places : List ℕ) : Type 0 where
  pub within : All (λ place. place < length answers) places
  pub due : All (λ place. IsDue script write place (slice_index_or answers place (unanswered 0))) places
  pub distinct : AreDistinct places

-- of each direction the first transactions are noted as issued, as many as are issued, and the others aren't
abbrev pub NotesIssues : ManagerState → Type 0
NotesIssues s =
    (write : Bool) (n : ℕ) (next : ℕ × ScriptItem) → slice_get (of_direction write s.script) n ≡ Some next →
    (0 < (slice_index_or s.answers next.0 (unanswered 0)).issued) ↔ (n < issued_of write s)

-- What holds of a manager in every round: it has a script of bursts that are legal on its bus; it issued no more than
-- that, and sent no more data than it issued writes; at most 16 of a direction wait for their answers, of each of which
-- some is still to come; it counted the answers; and it noted its issues.
pub record IsManager (s : ManagerState) : Type 0 where
  pub is_script : IsScript s.script
  pub bus_width : IsBusWidth s.bus
  pub legal : All (λ (item : ScriptItem). IsLegal item.txn.request s.bus) s.script
  pub writes_issued : s.issued_writes ≤ length (script_writes s.script)
  pub reads_issued : s.issued_reads ≤ length (script_reads s.script)
  pub writes_sent : s.sent_writes ≤ s.issued_writes
  pub beats_sent : IfSome (slice_get (script_writes s.script) s.sent_writes) (λ next. s.sent_beats ≤ next.1.txn.request.len)
  pub writes_fit : length s.write_entries ≤ 16
  pub reads_fit : length s.read_entries ≤ 16
  pub one_each : length s.answers ≡ length s.script
  pub writes_waiting : AreWaiting s.script true s.answers (waiting_places s.write_entries s.issued_writes (script_writes s.script))
  pub reads_waiting : AreWaiting s.script false s.answers (waiting_places s.read_entries s.issued_reads (script_reads s.script))
  pub counted : s.answered ≡ count_by is_answered s.answers
  pub issues : NotesIssues s
