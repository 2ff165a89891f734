-- What a subordinate does in a round (Arm IHI 0022, relationships between the channels): a function of its state and its
-- link as they stand at the round's start.
use Rattle.std.specs.Prelude.{◌==◌, ◌+◌, ◌&&◌, ◌++◌, ◌∷◌, [], List, Bool, Option, Some, None, false}
use Rattle.std.specs.Prelude.{not, drop, nat_lt, is_some, if◌then◌else◌, option_map, find}
use Rattle.axi_beats.specs.Response.{worst_of}
use Rattle.axi_beats.specs.declared.beat.Addr.{Addr}
use Rattle.axi_beats.specs.declared.beat.WBeat.{WBeat}
use Rattle.axi_beats.specs.declared.beat.BBeat.{BBeat}
use Rattle.axi_beats.specs.declared.beat.RBeat.{RBeat}
use Rattle.axi_beats.specs.declared.response.Resp.{Resp}
use Rattle.axi_beats.specs.declared.response.Resp.TheVariants.{Okay}
use Rattle.axi_link.specs.LinkView.{LinkView}
use Rattle.axi_link.specs.LinkWords.{has_room, head_of, link_of}
use Rattle.axi_link.specs.declared.out.Out.{Out}
use Rattle.burst_address.specs.Formulas.{beats_of}
use Rattle.node_core.specs.Paces.{paces_after, rows_let}
use Rattle.node_core.specs.Rows.{beat_where, fits, put_of, take_of}
use Rattle.node_core.specs.declared.paces.EachRow.{EachRow}
use Rattle.subordinate.specs.Service.{Service}
use Rattle.subordinate.specs.SubordinateState.{Subordinate}
use Rattle.subordinate.specs.declared.entry.ReadEntry.{ReadEntry}
use Rattle.subordinate.specs.declared.entry.WriteEntry.{WriteEntry}

-- a data beat of the write isn't taken yet
abbrev pub lacks_data : WriteEntry → Bool
lacks_data entry = nat_lt entry.taken (beats_of entry.request)

-- the oldest write that lacks data: the next data beat is its
abbrev pub oldest_lacking : List WriteEntry → Option WriteEntry
oldest_lacking entries = find lacks_data entries

-- the oldest write has all its data
abbrev pub first_is_whole : List WriteEntry → Bool
first_is_whole [] = false
first_is_whole (entry ∷ entries) = not (lacks_data entry)

-- The conditions of the rows: an address is taken where one more request of its direction fits, write data where a write
-- lacks some, the oldest write is answered where it has all its data, and the next beat of the oldest read is put.
abbrev pub wanted_rows : LinkView → List WriteEntry → List ReadEntry → EachRow
wanted_rows link writes reads = record {
  aw = is_some (head_of link.aw) && fits writes;
  w = is_some (head_of link.w) && is_some (oldest_lacking writes);
  b = has_room link.depth link.b && first_is_whole writes;
  ar = is_some (head_of link.ar) && fits reads;
  r = has_room link.depth link.r && is_some (head_of reads);
}

-- the response to a write
abbrev pub answer_to : WriteEntry → BBeat
answer_to entry = record { id = entry.request.id; resp = entry.worst; tag = entry.request.tag }

-- the next beat of the answer to a read
abbrev pub next_beat : {D : Type 0} → Service D → D → ReadEntry → RBeat
next_beat service kept entry = record {
  id = entry.request.id;
  lanes = service.beat_lanes kept entry.request entry.put;
  resp = service.beat_status entry.request entry.put;
  last = entry.put == entry.request.len;
  tag = entry.request.tag;
}

-- B: the oldest write leaves
abbrev pub after_b : Option BBeat → List WriteEntry → List WriteEntry
after_b None entries = entries
after_b (Some beat) entries = drop 1 entries

-- the oldest read has one more beat put, or leaves with its last one
abbrev pub with_put : Bool → List ReadEntry → List ReadEntry
with_put last [] = []
with_put last (entry ∷ entries) = if last then entries else record { request = entry.request; put = entry.put + 1 } ∷ entries

-- R: so it is where a beat is put
abbrev pub after_r : Option RBeat → List ReadEntry → List ReadEntry
after_r None entries = entries
after_r (Some beat) entries = with_put beat.last entries

-- a write with one more data beat, which has this status
abbrev pub with_beat : Resp → WriteEntry → WriteEntry
with_beat status entry = record { request = entry.request; taken = entry.taken + 1; worst = worst_of entry.worst status }

-- the oldest write that lacks data has one more data beat
abbrev pub with_data : {D : Type 0} → Service D → WBeat → List WriteEntry → List WriteEntry
with_data service w [] = []
with_data service w (entry ∷ entries) =
    if lacks_data entry then with_beat (service.data_status entry.request entry.taken w) entry ∷ entries else entry ∷ with_data service w entries

-- W: the beat goes to the oldest write that lacks data
abbrev pub after_w : {D : Type 0} → Service D → Option WBeat → List WriteEntry → List WriteEntry
after_w service None entries = entries
after_w service (Some w) entries = with_data service w entries

-- and so do its bytes
abbrev pub kept_with : {D : Type 0} → Service D → WBeat → Option WriteEntry → D → D
kept_with service w None kept = kept
kept_with service w (Some entry) kept = service.data_kept entry.request entry.taken w kept

abbrev pub kept_after_w : {D : Type 0} → Service D → Option WBeat → List WriteEntry → D → D
kept_after_w service None entries kept = kept
kept_after_w service (Some w) entries kept = kept_with service w (oldest_lacking entries) kept

-- AW: the write waits, with no data yet
abbrev pub after_aw : Option Addr → List WriteEntry → List WriteEntry
after_aw None entries = entries
after_aw (Some request) entries = entries ++ record { request = request; taken = 0; worst = Okay } ∷ []

-- AR: the read waits, with no beat yet
abbrev pub after_ar : Option Addr → List ReadEntry → List ReadEntry
after_ar None entries = entries
after_ar (Some request) entries = entries ++ record { request = request; put = 0 } ∷ []

module _ {D : Type 0} (service : Service D) (links : List LinkView) (s : Subordinate D) where
  abbrev pub its_link : LinkView
  its_link = link_of links s.upper

  -- the rows whose condition holds, and those that their paces let through
  abbrev pub its_wishes : EachRow
  its_wishes = wanted_rows its_link s.writes s.reads

  abbrev pub its_rows : EachRow
  its_rows = rows_let its_wishes s.paces

  -- what is taken or put on each channel
  abbrev pub moved_aw : Option Addr
  moved_aw = beat_where its_rows.aw (head_of its_link.aw)

  abbrev pub moved_w : Option WBeat
  moved_w = beat_where its_rows.w (head_of its_link.w)

  abbrev pub moved_b : Option BBeat
  moved_b = beat_where its_rows.b (option_map answer_to (head_of s.writes))

  abbrev pub moved_ar : Option Addr
  moved_ar = beat_where its_rows.ar (head_of its_link.ar)

  abbrev pub moved_r : Option RBeat
  moved_r = beat_where its_rows.r (option_map (next_beat service s.kept) (head_of s.reads))

  -- The state after the round: the changes of B, R, W, AW and AR in this order. The write that is answered has all its data,
  -- so the oldest one that lacks data stays the same.
  abbrev pub served : Subordinate D
  served = record {
    upper = s.upper;
    paces = paces_after its_wishes s.paces;
    writes = after_aw moved_aw (after_w service moved_w (after_b moved_b s.writes));
    reads = after_ar moved_ar (after_r moved_r s.reads);
    kept = kept_after_w service moved_w (after_b moved_b s.writes) s.kept;
  }

  -- the takes and puts of the round
  abbrev pub serves : Out
  serves = record {
    aw_take = take_of s.upper (is_some moved_aw);
    aw_put = None;
    w_take = take_of s.upper (is_some moved_w);
    w_put = None;
    b_take = None;
    b_put = put_of s.upper moved_b;
    ar_take = take_of s.upper (is_some moved_ar);
    ar_put = None;
    r_take = None;
    r_put = put_of s.upper moved_r;
  }
