-- The two contracts of a link: what the node above it asks, and what the node below it answers.
-- Each speaks of the trail of one end of the link alone (Arm IHI 0022, ordering model and relationships between
-- the channels).
use Rattle.std.specs.Prelude.{◌≡◌, ◌≢◌, ◌<◌, ◌≤◌, ◌^◌, ◌++◌, ◌∷◌, ℕ, List, Bool, IsTrue, All, length, map, flat_map}
use Rattle.axi_beats.specs.declared.beat.Addr.{Addr}
use Rattle.axi_trail.specs.Schedule.{Share, Schedule, Progress, SameChain, ComesBefore, bytes_on}
use Rattle.axi_trail.specs.Trail.{Beats}
use Rattle.axi_trail.specs.Words.{Asked, Reply, IsAnswered, InOrderOfId, completed, data_marks, announced_marks, writes_asked, write_replies, reads_asked, read_replies, write_asked, burst_asked, number_of_address, number_of_asked, number_of_data, number_of_response, number_of_read_data}
use Rattle.plain_lists.specs.Keys.{of_key}
use Rattle.plain_lists.specs.Prefixes.{IsPrefix, Agree}

-- the address without its ID, which nodes on the way may change
abbrev pub without_id : Addr → Addr
without_id a = record a { id = 0 }

-- a request waits until all requests of earlier transactions of its chain are on the link
abbrev pub WholeBeforeTheNext : (ℕ → Share) → List Asked → Type 0
WholeBeforeTheNext shares asked =
    (before : List Asked) (a : Asked) (after : List Asked) (t : ℕ) → asked ≡ before ++ a ∷ after → ComesBefore shares t a.number →
    length (of_key number_of_asked t before) ≡ length (shares t).parts

-- of two requests of one chain with different IDs, the earlier one is answered
abbrev pub OneIdAtATime : (ℕ → Share) → List Asked → List Reply → Type 0
OneIdAtATime shares asked replies =
    (before : List Asked) (a : Asked) (between : List Asked) (next : Asked) (after : List Asked) →
    asked ≡ (before ++ a ∷ between) ++ next ∷ after → SameChain shares a.number next.number → a.id ≢ next.id →
    IsAnswered before a replies

-- What the requests of one direction keep.
pub record Requests (shares : ℕ → Share) (id_width : ℕ) (issued : ℕ → Bool) (shown : Addr → Asked) (addresses : List Addr) (replies : List Reply) : Type 0 where
  -- the requests of a transaction are the first of those that it is cut into here, in order, whatever their IDs
  pub asks_only_its_parts : (t : ℕ) → IsPrefix (map without_id (of_key number_of_address t addresses)) (shares t).parts
  -- each ID fits the ID width of the link
  pub ids_fit : All (λ a. a.id < 2 ^ id_width) addresses
  -- transactions of one chain follow one another whole, in order of their numbers
  pub whole_before_the_next : WholeBeforeTheNext shares (map shown addresses)
  -- requests of one chain that are outstanding have one ID
  pub one_id_at_a_time : OneIdAtATime shares (map shown addresses) replies
  -- a request comes after its manager has issued it
  pub was_issued : All (λ a. IsTrue (issued a.tag.txn)) addresses

-- What the node above a link asks: on AW, W and AR, in the light of the answers on B and R.
pub record Asks (schedule : Schedule) (now : Progress) (trail : Beats) : Type 0 where
  -- on AW
  pub writes : Requests schedule.writes schedule.id_width now.issued write_asked trail.aw (write_replies trail)
  -- on AR
  pub reads : Requests schedule.reads schedule.id_width now.issued burst_asked trail.ar (read_replies trail)
  -- the write data of a transaction is the first of that of its parts, beat for beat, strobes and WLAST too
  pub data_is_the_schedules : (t : ℕ) → IsPrefix (of_key number_of_data t trail.w) (flat_map (λ beats. beats) (schedule.writes t).write_data)
  -- write data comes in order of the write addresses, each burst in AWLEN + 1 beats, the last one with WLAST; it
  -- may come before its address
  pub data_follows_addresses : Agree (data_marks trail) (announced_marks trail)

-- What the node below a link answers: on B and R, in the light of what was asked on AW, W and AR.
pub record Answers (schedule : Schedule) (now : Progress) (trail : Beats) : Type 0 where
  -- the responses to the writes of an ID come in order of their addresses
  pub answers_in_order_of_id : InOrderOfId (writes_asked trail) (write_replies trail)
  -- the read data of an ID comes in order of the addresses, each burst in ARLEN + 1 beats, the last one with RLAST
  pub reads_in_order_of_id : InOrderOfId (reads_asked trail) (read_replies trail)
  -- the responses to a transaction's writes are the first of those that are due to its parts
  pub responses_are_the_schedules : (t : ℕ) → IsPrefix (map (λ b. b.resp) (of_key number_of_response t trail.b)) (schedule.writes t).responses
  -- the responses of a transaction's read data are the first of those that are due to its beats
  pub read_responses_are_the_schedules : (t : ℕ) → IsPrefix (map (λ r. r.resp) (of_key number_of_read_data t trail.r)) (schedule.reads t).responses
  -- a write is answered after its last beat of data
  pub answered_after_its_data : InOrderOfId (map write_asked (completed trail.aw (data_marks trail))) (write_replies trail)
  -- a transaction whose writes are all answered is written
  pub done_when_answered : (t : ℕ) → 0 < length (schedule.writes t).parts → length (schedule.writes t).parts ≤ length (of_key number_of_response t trail.b) → IsTrue (now.written t)
  -- each beat of read data has all lanes of the widest bus
  pub lanes_are_whole : All (λ r. length r.lanes ≡ 128) trail.r
  -- the read data of a transaction is what its subordinate has read for it
  pub bytes_are_filled : (t : ℕ) → IsPrefix (bytes_on (of_key number_of_read_data t trail.r) (schedule.reads t).lanes) (now.filled t)
