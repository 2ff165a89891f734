-- What a splitter has passed on its two links, what its state has to do with it (Arm IHI 0022, ordering model), and the
-- splitter as a kind of node.
use Rattle.std.specs.Prelude.{◌≡◌, ◌-◌, ◌++◌, ◌∷◌, [], ℕ, suc, Bool, true, false, List, All, Option, Some, None, flat_map, length, map, if◌then◌else◌}
use Rattle.std.specs.List.{AllZip, range_with_len}
use Rattle.axi_beats.specs.declared.beat.Addr.{Addr}
use Rattle.axi_beats.specs.declared.beat.BBeat.{BBeat}
use Rattle.axi_beats.specs.declared.beat.RBeat.{RBeat}
use Rattle.axi_beats.specs.declared.response.Resp.{Resp}
use Rattle.axi_trail.specs.Schedule.{SameChain, Schedule, Share}
use Rattle.axi_trail.specs.Trail.{Beats}
use Rattle.axi_trail.specs.Waiting.{Waiting}
use Rattle.axi_trail.specs.Words.{Asked, InOrderOfId, Reply, burst_asked, held_asked, number_of_response, read_replies, write_replies}
use Rattle.burst_address.specs.Status.{worst_among}
use Rattle.burst_cuts.specs.CutLaws.{ends, single_reply}
use Rattle.burst_cuts.specs.Parts.{as_last, data_of_part, len_of_burst, part_of, parts_of, worst_of_groups}
use Rattle.node_shape.specs.Kind.{Kind, always_done, knows_nothing, notes_nothing, without_delays}
use Rattle.node_shape.specs.LinkForm.{LinkForm}
use Rattle.node_shape.specs.Way.{Way}
use Rattle.plain_lists.specs.Keys.{of_key}
use Rattle.split_node.specs.SplitState.{IsCuttable, IsSplit, SplitState, new_split}
use Rattle.split_node.specs.SplitTable.{CanSplit, split_table, split_wants, with_rlast}
use Rattle.split_node.specs.declared.burst.InWork.{InWork}
use Rattle.split_node.specs.declared.burst.SplitEntry.{SplitEntry}

-- what the link below a splitter carries of a transaction, but for the responses: each beat as a burst of its own
abbrev pub split_share : Share → Share
split_share share = record share {
  parts = flat_map parts_of share.parts;
  write_data = map data_of_part (flat_map (λ beats. beats) share.write_data);
}

-- the responses above, of those below: of a write, the worst of each burst's; a read has one for each beat
abbrev pub joined_responses : Bool → Share → List Resp → List Resp
joined_responses write share responses = if write then worst_of_groups (map len_of_burst share.parts) responses else responses

-- the link below carries a transaction beat by beat
pub record IsSplitShare (write : Bool) (above below : Share) : Type 0 where
  pub parts : below.parts ≡ (split_share above).parts
  pub write_data : below.write_data ≡ (split_share above).write_data
  pub lanes : below.lanes ≡ above.lanes
  pub responses : above.responses ≡ joined_responses write above below.responses

-- and all transactions of the link above, whose requests can be cut; what is one chain below came by one chain above
pub record Splits (above below : Schedule) : Type 0 where
  pub id_width : below.id_width ≡ above.id_width
  pub writes : (t : ℕ) → IsSplitShare true (above.writes t) (below.writes t)
  pub reads : (t : ℕ) → IsSplitShare false (above.reads t) (below.reads t)
  pub write_chains : (t u : ℕ) → SameChain below.writes t u → SameChain above.writes t u
  pub read_chains : (t u : ℕ) → SameChain below.reads t u → SameChain above.reads t u
  pub cut_writes : (t : ℕ) → All IsCuttable (above.writes t).parts
  pub cut_reads : (t : ℕ) → All IsCuttable (above.reads t).parts

-- the parts of the burst in work that aren't put yet
abbrev pub left_of_work : Option InWork → List Addr
left_of_work None = []
left_of_work (Some w) = map (part_of w.request) (range_with_len w.next (suc w.request.len - w.next))

-- a burst that misses answers
pub record Missing : Type 0 where
  pub id : ℕ
  pub missing : ℕ

abbrev pub missing_entry : SplitEntry → Missing
missing_entry e = record { id = e.id; missing = e.missing }

abbrev pub missing_request : Waiting Asked → Missing
missing_request w = record { id = w.request.id; missing = suc w.request.len - w.done }

-- One direction: the addresses above and below, the burst in work, and the entries. `beats` are the answers to the parts, as
-- beats of answers to the bursts: in order of the bursts, and the entries are the bursts that they leave held.
pub record SplitsRequests (work : Option InWork) (entries : List SplitEntry) (above below : List Addr) (beats : List Reply) : Type 0 where
  pub parts : flat_map parts_of above ≡ below ++ left_of_work work
  pub order : InOrderOfId (map burst_asked above) beats
  pub held : map missing_entry entries ≡ map missing_request (held_asked (map burst_asked above) beats)

-- the worst response of an entry is that of the last responses to its transaction, as many as have come to its burst
pub record IsWorst (responses : ℕ → List Resp) (e : SplitEntry) (w : Waiting Asked) : Type 0 where
  pub front : List Resp
  pub own : List Resp
  pub whole : responses w.request.number ≡ front ++ own
  pub count : length own ≡ w.done
  pub worst : e.worst ≡ worst_among own

abbrev pub responses_to : List BBeat → ℕ → List Resp
responses_to bs t = map (λ (b : BBeat). b.resp) (of_key number_of_response t bs)

-- a beat of read data as the last one of its part
abbrev pub as_last_read : RBeat → RBeat
as_last_read r = with_rlast r true

-- What holds of a splitter.
pub record SplitKeeps (above below : Schedule) (s : SplitState) (upper lower : Beats) : Type 0 where
  pub splits : Splits above below
  -- write data goes on beat by beat
  pub w : lower.w ≡ map as_last upper.w
  -- and so comes read data
  pub r : lower.r ≡ map as_last_read upper.r
  pub reads : SplitsRequests s.read_work s.reads upper.ar lower.ar (read_replies upper)
  -- a response goes up for each whole burst
  pub write_beats : List Reply
  pub writes : SplitsRequests s.write_work s.writes upper.aw lower.aw write_beats
  pub b_below : write_replies lower ≡ map single_reply write_beats
  pub b_above : write_replies upper ≡ ends write_beats
  -- the worst one
  pub worst : (t : ℕ) → responses_to upper.b t ≡ worst_of_groups (map len_of_burst (above.writes t).parts) (responses_to lower.b t)
  pub entries_worst : AllZip (IsWorst (responses_to lower.b)) s.writes (held_asked (map burst_asked upper.aw) write_beats)

-- the link above is an AXI4 link, and the link below one of the same bus and IDs
pub record IsSoundSplit (forms : ℕ → LinkForm) (s : SplitState) : Type 0 where
  pub above : (forms s.upper).lite ≡ false
  pub below : (forms s.lower).lite ≡ false
  pub bus : (forms s.lower).bus ≡ (forms s.upper).bus
  pub id_width : (forms s.lower).id_width ≡ (forms s.upper).id_width

-- each transaction goes on beat by beat
abbrev pub split_way : SplitState → Way
split_way s = record { origins = []; goes_on = λ share. Some s.lower; cut = split_share; merged = joined_responses; ends = λ write share. [] }

-- a splitter between two links; `E` is what other kinds note of their rounds
abbrev pub split_kind : {E : Type 0} → Kind SplitState E
split_kind = record {
  uppers = λ s. s.upper ∷ [];
  lowers = λ s. s.lower ∷ [];
  begins = λ s. s ≡ new_split s.upper s.lower;
  fact = IsSplit;
  can = λ round links s. CanSplit links s;
  table = λ round links s. split_table links s;
  wants = split_wants;
  notes = notes_nothing;
  way = split_way;
  is_sound = λ forms schedules s. IsSoundSplit forms s;
  suits = λ schedules s. Splits (schedules s.upper) (schedules s.lower);
  keeps = λ schedules rounds s passed. SplitKeeps (schedules s.upper) (schedules s.lower) s (passed.uppers s.upper) (passed.lowers s.lower);
  knows = knows_nothing;
  is_done = always_done;
  patience = without_delays;
}
