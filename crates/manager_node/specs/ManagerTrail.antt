-- What a manager has passed on its link, and the manager as a kind of node (Arm IHI 0022, ordering model).
use Rattle.std.specs.Prelude.{◌≡◌, ◌↔◌, ◌==◌, ◌<◌, ◌^◌, ◌++◌, ◌∷◌, [], ℕ, suc, List, Bool, true, false, Option, Some}
use Rattle.std.specs.Prelude.{None, All, AllPairs, Contains, flat_map, length, map, slice_get, take, if◌then◌else◌}
use Rattle.std.specs.List.{list_any, range_with_len}
use Rattle.axi_beats.specs.Bus.{IsBusWidth}
use Rattle.axi_beats.specs.Lanes.{Span}
use Rattle.axi_beats.specs.declared.beat.Addr.{Addr}
use Rattle.axi_beats.specs.declared.beat.WBeat.{WBeat}
use Rattle.axi_trail.specs.LinkContracts.{without_id}
use Rattle.axi_trail.specs.Schedule.{Schedule, Share, SameChain, bytes_on}
use Rattle.axi_trail.specs.Trail.{Beats}
use Rattle.axi_trail.specs.Waiting.{held, waiting_request}
use Rattle.axi_trail.specs.Words.{InOrderOfId, number_of_address, number_of_response, number_of_read_data}
use Rattle.axi_trail.specs.Words.{reads_asked, read_replies, writes_asked, write_replies}
use Rattle.burst_address.specs.Formulas.{beats_of}
use Rattle.burst_address.specs.Lanes.{valid_span}
use Rattle.burst_address.specs.Legal.{IsLegal}
use Rattle.manager_node.specs.Beats.{data_beats, item_request}
use Rattle.manager_node.specs.ManagerOrder.{AreInOrder, IsAt, note_at}
use Rattle.manager_node.specs.ManagerState.{CanManager, IsManager, ManagerState, entry_of, is_done, new_manager, script_reads, script_writes}
use Rattle.manager_node.specs.ManagerTable.{manager_table, manager_wants}
use Rattle.manager_node.specs.Script.{IsScript, ScriptItem}
use Rattle.node_core.specs.Paces.{longest_delay}
use Rattle.node_shape.specs.Kind.{Kind, notes_nothing}
use Rattle.node_shape.specs.LinkForm.{LinkForm}
use Rattle.node_shape.specs.Way.{Origin, start_here}
use Rattle.plain_lists.specs.Keys.{of_key}

-- the shares of a direction
abbrev pub shares_of : Schedule → Bool → ℕ → Share
shares_of schedule write = if write then schedule.writes else schedule.reads

-- the valid lanes of each beat of a burst on a bus
abbrev pub spans_of : ℕ → Addr → List Span
spans_of bus request = map (λ n. valid_span request n bus) (range_with_len 0 (beats_of request))

-- The schedule of the link below a manager has this transaction as it is: as one request, with its own data, and the
-- valid lanes of its beats wanted.
pub record HasItem (schedule : Schedule) (bus : ℕ) (item : ScriptItem) : Type 0 where
  pub parts : (shares_of schedule item.txn.write item.txn.number).parts ≡ without_id (item_request item) ∷ []
  pub write_data : item.txn.write ≡ true → (schedule.writes item.txn.number).write_data ≡ data_beats item bus ∷ []
  pub lanes : item.txn.write ≡ false → (schedule.reads item.txn.number).lanes ≡ spans_of bus item.txn.request
  pub id_fits : item.txn.request.id < 2 ^ schedule.id_width

-- a transaction of this script, direction and ID
pub record IsItsOwn (script : List ScriptItem) (write : Bool) (id number : ℕ) : Type 0 where
  pub item : ScriptItem
  pub among : Contains script item
  pub direction : item.txn.write ≡ write
  pub same_id : item.txn.request.id ≡ id
  pub same_number : item.txn.number ≡ number

-- The schedule of the link below a manager is that of its script: the transactions are numbered in their order, each
-- is there as it is, and the chain of a transaction has the others of its direction and ID, and none from elsewhere.
pub record IsScheduleOf (schedule : Schedule) (bus : ℕ) (script : List ScriptItem) : Type 0 where
  pub numbered : AllPairs (λ (a b : ScriptItem). a.txn.number < b.txn.number) script
  pub items : All (HasItem schedule bus) script
  pub chains :
      All (λ (item : ScriptItem). (number : ℕ) → SameChain (shares_of schedule item.txn.write) number item.txn.number →
      IsItsOwn script item.txn.write item.txn.request.id number) script

-- how many answer beats come after the first one: none for a write, and as many as data beats for a read
abbrev pub later_answers : Bool → ℕ × ScriptItem → ℕ
later_answers write p = if write then 0 else p.1.txn.request.len

-- the requests of a direction that are held, where these were issued and answers with these IDs have come
abbrev pub held_items : Bool → List (ℕ × ScriptItem) → List ℕ → List (ℕ × ScriptItem)
held_items write issued ids = map waiting_request (held (later_answers write) (λ (p : ℕ × ScriptItem). p.1.txn.request.id) issued ids)

-- the first data beats of a write; none where there is no write
abbrev pub first_data : ℕ → ℕ → Option (ℕ × ScriptItem) → List WBeat
first_data bus beats None = []
first_data bus beats (Some next) = take beats (data_beats next.1 bus)

-- the data that was sent: all of the first writes, and the first beats of the next one
abbrev pub sent_data : ManagerState → List WBeat
sent_data s =
    flat_map (λ (p : ℕ × ScriptItem). data_beats p.1 s.bus) (take s.sent_writes (script_writes s.script))
    ++ first_data s.bus s.sent_beats (slice_get (script_writes s.script) s.sent_writes)

-- What is noted of a write: the responses that came for it, and nothing else.
pub record IsWriteNote (s : ManagerState) (trail : Beats) (place : ℕ) (item : ScriptItem) : Type 0 where
  pub issued : (0 < (note_at s place).issued) ↔ Contains (map number_of_address trail.aw) item.txn.number
  pub responses : (note_at s place).resps ≡ map (λ b. b.resp) (of_key number_of_response item.txn.number trail.b)
  pub bytes : (note_at s place).bytes ≡ []
  pub answered : (0 < (note_at s place).answered) ↔ (length (of_key number_of_response item.txn.number trail.b) ≡ 1)

-- What is noted of a read: the responses and the bytes of the beats that came for it. It is answered when all have
-- come.
pub record IsReadNote (schedule : Schedule) (s : ManagerState) (trail : Beats) (place : ℕ) (item : ScriptItem) : Type 0 where
  pub issued : (0 < (note_at s place).issued) ↔ Contains (map number_of_address trail.ar) item.txn.number
  pub responses : (note_at s place).resps ≡ map (λ r. r.resp) (of_key number_of_read_data item.txn.number trail.r)
  pub bytes : (note_at s place).bytes ≡ bytes_on (of_key number_of_read_data item.txn.number trail.r) (schedule.reads item.txn.number).lanes
  pub answered : (0 < (note_at s place).answered) ↔ (length (of_key number_of_read_data item.txn.number trail.r) ≡ suc item.txn.request.len)

-- What a manager's state has to do with its trail.
pub record HasPassed (schedule : Schedule) (s : ManagerState) (trail : Beats) : Type 0 where
  -- it has put the first requests of each direction, and the data of the first writes
  pub aw : trail.aw ≡ map (λ (p : ℕ × ScriptItem). item_request p.1) (take s.issued_writes (script_writes s.script))
  pub w : trail.w ≡ sent_data s
  pub ar : trail.ar ≡ map (λ (p : ℕ × ScriptItem). item_request p.1) (take s.issued_reads (script_reads s.script))
  -- those wait that are held
  pub write_entries : s.write_entries ≡ map entry_of (held_items true (take s.issued_writes (script_writes s.script)) (map (λ b. b.id) trail.b))
  pub read_entries : s.read_entries ≡ map entry_of (held_items false (take s.issued_reads (script_reads s.script)) (map (λ r. r.id) trail.r))
  -- what came, came in order
  pub writes_in_order : InOrderOfId (writes_asked trail) (write_replies trail)
  pub reads_in_order : InOrderOfId (reads_asked trail) (read_replies trail)
  -- what is noted has come
  pub write_notes : (place : ℕ) (item : ScriptItem) → IsAt s place item → item.txn.write ≡ true → IsWriteNote s trail place item
  pub read_notes : (place : ℕ) (item : ScriptItem) → IsAt s place item → item.txn.write ≡ false → IsReadNote schedule s trail place item

-- What holds of a manager over its rounds and its trail.
pub record ManagerKeeps (schedule : Schedule) (rounds : ℕ) (s : ManagerState) (trail : Beats) : Type 0 where
  pub scheduled : IsScheduleOf schedule s.bus s.script
  pub in_order : AreInOrder rounds s
  pub passed : HasPassed schedule s trail

-- the request of the transaction has left the manager
abbrev pub has_issued : Beats → ℕ → Bool
has_issued trail number = list_any (λ a. number_of_address a == number) (trail.aw ++ trail.ar)

-- What the link below a manager carries of a transaction: it as it is, and a chain that tells the manager by its link, and
-- the ID.
abbrev pub item_share : ℕ → ℕ → ScriptItem → Share
item_share bus lower item = record {
  parts = without_id (item_request item) ∷ [];
  write_data = if item.txn.write then data_beats item bus ∷ [] else [];
  lanes = if item.txn.write then [] else spans_of bus item.txn.request;
  responses = [];
  chain = lower ∷ item.txn.request.id ∷ [];
}

abbrev pub item_origin : ℕ → ℕ → ScriptItem → Origin
item_origin bus lower item = record { number = item.txn.number; write = item.txn.write; link = lower; share = item_share bus lower item }

-- how a manager stands before the first round: with a script of bursts that are legal on its bus, numbered in their order
pub record IsNewManager (s : ManagerState) : Type 0 where
  pub new : s ≡ new_manager s.script s.lower s.bus s.paces
  pub is_script : IsScript s.script
  pub bus_width : IsBusWidth s.bus
  pub legal : All (λ (item : ScriptItem). IsLegal item.txn.request s.bus) s.script
  pub numbered : AllPairs (λ (a b : ScriptItem). a.txn.number < b.txn.number) s.script

-- the link below is an AXI4 link with the manager's bus, and each ID of the script fits it
pub record IsManagerLink (form : LinkForm) (s : ManagerState) : Type 0 where
  pub axi : form.lite ≡ false
  pub bus : form.bus ≡ s.bus
  pub bursts : form.single ≡ false
  pub ids : All (λ (item : ScriptItem). item.txn.request.id < 2 ^ form.id_width) s.script

-- a manager above one link; `E` is what other kinds note of their rounds
abbrev pub manager_kind : {E : Type 0} → Kind ManagerState E
manager_kind = record {
  uppers = λ s. [];
  lowers = λ s. s.lower ∷ [];
  begins = IsNewManager;
  fact = IsManager;
  can = λ round links s. CanManager round links s;
  table = manager_table;
  wants = manager_wants;
  notes = notes_nothing;
  way = λ s. start_here (map (item_origin s.bus s.lower) s.script);
  is_sound = λ forms schedules s. IsManagerLink (forms s.lower) s;
  suits = λ schedules s. IsScheduleOf (schedules s.lower) s.bus s.script;
  keeps = λ schedules rounds s passed. ManagerKeeps (schedules s.lower) rounds s (passed.lowers s.lower);
  knows = λ schedules s passed. record { issued = has_issued (passed.lowers s.lower); written = λ number. false; filled = λ number. [] };
  is_done = is_done;
  patience = λ s. suc (longest_delay s.paces);
}
