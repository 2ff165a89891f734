-- A subordinate in the light of what has passed on its link (Arm IHI 0022, ordering model). What is said of answers is said
-- by ID and by transaction, so that it holds in whatever order those of different IDs come.
use Rattle.std.specs.Prelude.{◌≡◌, ◌≤◌, ◌==◌, ◌&&◌, ◌++◌, ◌∷◌, [], ℕ, suc, List, Bool, All, true}
use Rattle.std.specs.Prelude.{false, filter, length, map, nat_lt, take, drop, zip, if◌then◌else◌}
use Rattle.axi_beats.specs.declared.beat.Addr.{Addr}
use Rattle.axi_beats.specs.declared.beat.WBeat.{WBeat}
use Rattle.axi_beats.specs.declared.beat.BBeat.{BBeat}
use Rattle.axi_beats.specs.declared.beat.RBeat.{RBeat}
use Rattle.axi_beats.specs.declared.response.Resp.{Resp}
use Rattle.axi_trail.specs.LinkContracts.{without_id}
use Rattle.axi_trail.specs.Schedule.{Schedule, Share}
use Rattle.axi_trail.specs.Trail.{Beats}
use Rattle.axi_trail.specs.Waiting.{Waiting, beats_by, held, pending}
use Rattle.axi_trail.specs.Words.{InOrderOfId, burst_asked, id_of_address, number_of_address, number_of_data, number_of_read_data}
use Rattle.axi_trail.specs.Words.{number_of_response, read_reply, write_asked, write_reply}
use Rattle.burst_address.specs.Formulas.{beats_of}
use Rattle.plain_lists.specs.Keys.{of_key}
use Rattle.plain_lists.specs.Prefixes.{IsPrefix}
use Rattle.subordinate.specs.Parts.{BeatOf, beats_of_parts}
use Rattle.subordinate.specs.Service.{Service, worst_of_beats}
use Rattle.subordinate.specs.SubordinateState.{Subordinate}
use Rattle.subordinate.specs.SubordinateTable.{answer_to, lacks_data}
use Rattle.subordinate.specs.declared.entry.ReadEntry.{ReadEntry}
use Rattle.subordinate.specs.declared.entry.WriteEntry.{WriteEntry}

-- an open write waits for its response, a write that lacks data for its next beat, and an open read for its next beat
abbrev pub write_waiting : WriteEntry → Waiting Addr
write_waiting entry = record { request = entry.request; done = 0 }

abbrev pub data_waiting : WriteEntry → Waiting Addr
data_waiting entry = record { request = entry.request; done = entry.taken }

abbrev pub read_waiting : ReadEntry → Waiting Addr
read_waiting entry = record { request = entry.request; done = entry.put }

abbrev pub number_of_write : WriteEntry → ℕ
number_of_write entry = entry.request.tag.txn

abbrev pub number_of_read : ReadEntry → ℕ
number_of_read entry = entry.request.tag.txn

-- how many beats of its burst come after the first one, and of a response none
abbrev pub len_of_address : Addr → ℕ
len_of_address a = a.len

abbrev pub one_answer : Addr → ℕ
one_answer a = 0

module _ {D : Type 0} (service : Service D) where
  -- a write whose data beats so far are these
  abbrev pub with_data_so_far : Addr → List WBeat → WriteEntry
  with_data_so_far a beats = record { request = a; taken = length beats; worst = worst_of_beats service a 0 beats }

  -- the writes of these addresses, each with its data so far, where data comes in order of the addresses
  abbrev pub tracked : List Addr → List WBeat → List WriteEntry
  tracked [] beats = []
  tracked (a ∷ addresses) beats = with_data_so_far a (take (suc a.len) beats) ∷ tracked addresses (drop (suc a.len) beats)

  -- The writes of a transaction: its first ones are answered, each after all its data, and the others are open. None has
  -- data without its address.
  pub record OwnWrites (entries : List WriteEntry) (addresses : List Addr) (beats : List WBeat) (responses : List BBeat) : Type 0 where
    pub answered : List WriteEntry
    pub whole : All (λ entry. lacks_data entry ≡ false) answered
    pub given : responses ≡ map answer_to answered
    pub others : tracked addresses beats ≡ answered ++ entries
    pub addresses_first : length beats ≤ beats_by len_of_address addresses

  -- what the open writes have to do with what has passed on AW, W and B
  pub record TracksWrites (entries : List WriteEntry) (addresses : List Addr) (beats : List WBeat) (responses : List BBeat) : Type 0 where
    -- those that aren't answered are open, and those of an ID are answered in order
    pub open_writes : map write_waiting entries ≡ held one_answer id_of_address addresses (map (λ b. b.id) responses)
    pub in_order_of_id : InOrderOfId (map write_asked addresses) (map write_reply responses)
    -- data goes to them in order of their addresses, and none comes without its address
    pub lacking : map data_waiting (filter lacks_data entries) ≡ pending len_of_address (length beats) addresses
    pub addresses_first : length beats ≤ beats_by len_of_address addresses
    -- so each has the status of its own data so far
    pub own :
        (t : ℕ) →
        OwnWrites
        (of_key number_of_write t entries)
        (of_key number_of_address t addresses)
        (of_key number_of_data t beats)
        (of_key number_of_response t responses)

-- what the open reads have to do with what has passed on AR and R
pub record TracksReads (shares : ℕ → Share) (entries : List ReadEntry) (addresses : List Addr) (beats : List RBeat) : Type 0 where
  -- those that aren't wholly answered are open, and those of an ID are answered in order
  pub open_reads : map read_waiting entries ≡ held len_of_address id_of_address addresses (map (λ r. r.id) beats)
  pub in_order_of_id : InOrderOfId (map burst_asked addresses) (map read_reply beats)
  -- and so are those of a transaction, whatever their IDs
  pub own :
      (t : ℕ) →
      map read_waiting (of_key number_of_read t entries)
      ≡ pending len_of_address (length (of_key number_of_read_data t beats)) (of_key number_of_address t addresses)
  -- each beat has all lanes of the widest bus, and the status that is due to it
  pub lanes_are_whole : All (λ (r : RBeat). length r.lanes ≡ 128) beats
  pub statuses : (t : ℕ) → IsPrefix (map (λ (r : RBeat). r.resp) (of_key number_of_read_data t beats)) (shares t).responses

-- the responses to a transaction that ends at a subordinate
abbrev pub ends_with : {D : Type 0} → Service D → Bool → Share → List Resp
ends_with service write share =
    if write
    then map (λ (p : Addr × List WBeat). worst_of_beats service p.0 0 p.1) (zip share.parts share.write_data)
    else map (λ (b : BeatOf). service.beat_status b.request b.beat) (beats_of_parts share.parts)

-- What is due of one transaction at a subordinate: data for each beat of its parts, and the responses that follow from
-- them.
pub record SuitsService {D : Type 0} (service : Service D) (writes reads : Share) : Type 0 where
  pub write_data : map (λ (beats : List WBeat). length beats) writes.write_data ≡ map beats_of writes.parts
  pub responses : writes.responses ≡ ends_with service true writes
  pub read_responses : reads.responses ≡ ends_with service false reads

-- what a subordinate does depends on no ID, and its read data has all lanes of the widest bus
pub record IsService {D : Type 0} (service : Service D) : Type 0 where
  pub data_status : (a : Addr) (n : ℕ) (w : WBeat) → service.data_status (without_id a) n w ≡ service.data_status a n w
  pub beat_status : (a : Addr) (n : ℕ) → service.beat_status (without_id a) n ≡ service.beat_status a n
  pub beat_lanes : (kept : D) (a : Addr) (n : ℕ) → length (service.beat_lanes kept a n) ≡ 128

-- a write that comes here is written where its data has all come
abbrev pub is_written : Share → ℕ → Bool
is_written share count = nat_lt 0 (length share.parts) && count == length (beats_of_parts share.parts)

-- what a subordinate keeps of order, whatever its bytes are
pub record KeepsOrder {D : Type 0} (service : Service D) (schedule : Schedule) (s : Subordinate D) (trail : Beats) : Type 0 where
  pub writes : TracksWrites service s.writes trail.aw trail.w trail.b
  pub reads : TracksReads schedule.reads s.reads trail.ar trail.r
