-- What a splitter does in a round (Arm IHI 0022, burst length): a function of its two links as they stand at the round's
-- start. Each beat of a burst goes on as a burst of its own, its part. The responses to a write's parts come back as one, and
-- the answers to a read's parts as the beats of one.
use Rattle.std.specs.Prelude.{◌==◌, ◌||◌, ◌+◌, ◌-◌, ◌<◌, ◌++◌, ◌∷◌, [], ℕ, suc, Bool, true, false, List, Option, Some, None, IfSome, is_some, length, nat_lt, not, if◌then◌else◌}
use Rattle.std.specs.Option.{option_map}
use Rattle.axi_beats.specs.Response.{worst_of}
use Rattle.axi_beats.specs.declared.beat.Addr.{Addr}
use Rattle.axi_beats.specs.declared.beat.BBeat.{BBeat}
use Rattle.axi_beats.specs.declared.beat.RBeat.{RBeat}
use Rattle.axi_beats.specs.declared.beat.WBeat.{WBeat}
use Rattle.axi_beats.specs.declared.response.Resp.{Resp}
use Rattle.axi_beats.specs.declared.response.Resp.TheVariants.{Okay}
use Rattle.axi_link.specs.LinkView.{LinkView}
use Rattle.axi_link.specs.LinkWords.{has_room, head_of, link_of}
use Rattle.axi_link.specs.declared.out.Out.{Out}
use Rattle.burst_cuts.specs.Parts.{as_last, part_of}
use Rattle.node_core.specs.Acted.{Acted}
use Rattle.node_core.specs.Rows.{beat_where, fits, put_of, take_of}
use Rattle.split_node.specs.SplitState.{IsCuttable, SplitState}
use Rattle.split_node.specs.declared.burst.InWork.{InWork}
use Rattle.split_node.specs.declared.burst.SplitEntry.{SplitEntry}

-- Addresses, of either direction.

-- what a round does there: the request that is taken, the part that is put, and the burst that is in work after it
pub record AddressRow : Type 0 where
  pub taken : Option Addr
  pub put : Option Addr
  pub work : Option InWork

-- after the part of beat n: with the last one none is in work
abbrev pub work_after : Addr → ℕ → Option InWork
work_after a n = if nat_lt n a.len then Some (record { request = a; next = suc n }) else None

abbrev pub no_address : Option InWork → AddressRow
no_address work = record { taken = None; put = None; work = work }

-- With room below, the next part of the burst in work is put. Where none is in work and a further entry fits, the head above
-- is taken, and its first part is put.
abbrev pub address_row : Bool → Bool → Option Addr → Option InWork → AddressRow
address_row false more head work = no_address work
address_row true more head (Some w) = record { taken = None; put = Some (part_of w.request w.next); work = work_after w.request w.next }
address_row true false head None = no_address None
address_row true true None None = no_address None
address_row true true (Some a) None = record { taken = Some a; put = Some (part_of a 0); work = work_after a 0 }

-- the entry of a request that is taken: all its answers are missing
abbrev pub new_entry : Addr → SplitEntry
new_entry a = record { id = a.id; missing = suc a.len; worst = Okay }

abbrev pub added : Option Addr → List SplitEntry
added None = []
added (Some a) = new_entry a ∷ []

-- Answers, of either direction.

-- the oldest entry of an ID
abbrev pub oldest_entry : ℕ → List SplitEntry → Option SplitEntry
oldest_entry id [] = None
oldest_entry id (e ∷ entries) = if e.id == id then Some e else oldest_entry id entries

-- more than one answer is missing
abbrev pub misses_more : SplitEntry → Bool
misses_more e = nat_lt 1 e.missing

-- after an answer: one less is missing, and its response counts
abbrev pub less : SplitEntry → Resp → SplitEntry
less e response = record { id = e.id; missing = e.missing - 1; worst = worst_of e.worst response }

-- the entries after an answer of an ID: it goes to the oldest one, which leaves with its last answer
abbrev pub one_less : ℕ → Resp → List SplitEntry → List SplitEntry
one_less id response [] = []
one_less id response (e ∷ entries) =
    if e.id == id
    then if misses_more e then less e response ∷ entries else entries
    else e ∷ one_less id response entries

-- what a round does there: the answer that is taken, the one that is put, and the entries after it
pub record AnswerRow (X : Type 0) : Type 0 where
  pub taken : Option X
  pub put : Option X
  pub entries : List SplitEntry

abbrev pub no_answer : {X : Type 0} → List SplitEntry → AnswerRow X
no_answer entries = record { taken = None; put = None; entries = entries }

-- A response is taken where its write misses more than one, or where there is room above; then the worst of all goes up.
abbrev pub b_of_entry : Bool → BBeat → List SplitEntry → Option SplitEntry → AnswerRow BBeat
b_of_entry room b entries None = no_answer entries
b_of_entry room b entries (Some e) =
    if misses_more e
    then record { taken = Some b; put = None; entries = one_less b.id b.resp entries }
    else if room
    then record { taken = Some b; put = Some (record { id = b.id; resp = worst_of e.worst b.resp; tag = b.tag }); entries = one_less b.id b.resp entries }
    else no_answer entries

abbrev pub b_row : Bool → Option BBeat → List SplitEntry → AnswerRow BBeat
b_row room None entries = no_answer entries
b_row room (Some b) entries = b_of_entry room b entries (oldest_entry b.id entries)

-- a beat of read data as it goes up
abbrev pub with_rlast : RBeat → Bool → RBeat
with_rlast r last = record { id = r.id; lanes = r.lanes; resp = r.resp; last = last; tag = r.tag }

-- Read data goes up where there is room, with `last` where no further beat is missing.
abbrev pub r_of_entry : RBeat → List SplitEntry → Option SplitEntry → AnswerRow RBeat
r_of_entry r entries None = no_answer entries
r_of_entry r entries (Some e) = record { taken = Some r; put = Some (with_rlast r (not (misses_more e))); entries = one_less r.id Okay entries }

abbrev pub r_row : Bool → Option RBeat → List SplitEntry → AnswerRow RBeat
r_row false head entries = no_answer entries
r_row true None entries = no_answer entries
r_row true (Some r) entries = r_of_entry r entries (oldest_entry r.id entries)

module _ (links : List LinkView) (s : SplitState) where
  abbrev pub split_above : LinkView
  split_above = link_of links s.upper

  abbrev pub split_below : LinkView
  split_below = link_of links s.lower

  abbrev pub split_aw : AddressRow
  split_aw = address_row (has_room split_below.depth split_below.aw) (fits s.writes) (head_of split_above.aw) s.write_work

  abbrev pub split_ar : AddressRow
  split_ar = address_row (has_room split_below.depth split_below.ar) (fits s.reads) (head_of split_above.ar) s.read_work

  -- each beat of write data is the last one of its part
  abbrev pub split_w : Option WBeat
  split_w = beat_where (has_room split_below.depth split_below.w) (head_of split_above.w)

  abbrev pub split_b : AnswerRow BBeat
  split_b = b_row (has_room split_above.depth split_above.b) (head_of split_below.b) s.writes

  abbrev pub split_r : AnswerRow RBeat
  split_r = r_row (has_room split_above.depth split_above.r) (head_of split_below.r) s.reads

  -- the takes and puts of the round
  abbrev pub split_out : Out
  split_out = record {
    aw_take = take_of s.upper (is_some split_aw.taken);
    aw_put = put_of s.lower split_aw.put;
    w_take = take_of s.upper (is_some split_w);
    w_put = put_of s.lower (option_map as_last split_w);
    b_take = take_of s.lower (is_some split_b.taken);
    b_put = put_of s.upper split_b.put;
    ar_take = take_of s.upper (is_some split_ar.taken);
    ar_put = put_of s.lower split_ar.put;
    r_take = take_of s.lower (is_some split_r.taken);
    r_put = put_of s.upper split_r.put;
  }

  -- the state after the round: answers first, and then addresses
  abbrev pub split_next : SplitState
  split_next = record {
    upper = s.upper;
    lower = s.lower;
    write_work = split_aw.work;
    read_work = split_ar.work;
    writes = split_b.entries ++ added split_aw.taken;
    reads = split_r.entries ++ added split_ar.taken;
  }

  -- what the splitter does in a round
  abbrev pub split_table : Acted SplitState
  split_table = record { state = split_next; out = split_out }

  -- some row's condition holds
  abbrev pub split_wants : Bool
  split_wants = is_some split_aw.put || is_some split_w || is_some split_b.taken || is_some split_ar.put || is_some split_r.taken

-- both links are there, and what it is asked can be cut
pub record CanSplit (links : List LinkView) (s : SplitState) : Type 0 where
  pub upper : s.upper < length links
  pub lower : s.lower < length links
  pub aw : IfSome (head_of (link_of links s.upper).aw) IsCuttable
  pub ar : IfSome (head_of (link_of links s.upper).ar) IsCuttable
