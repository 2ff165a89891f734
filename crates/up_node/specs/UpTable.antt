-- What an up converter does in a round (Arm IHI 0022, narrow transfers): a function of its links as they stand at the round's
-- start. Requests and responses go on as they are; each beat of data is moved to its lanes on the other bus.
use Rattle.std.specs.Prelude.{◌<◌, ◌==◌, ◌&&◌, ◌||◌, ◌++◌, ◌∷◌, [], ℕ, List, Bool, IfSome, Option, Some, None, find, is_some, length}
use Rattle.std.specs.Option.{option_and_then}
use Rattle.axi_beats.specs.declared.beat.Addr.{Addr}
use Rattle.axi_beats.specs.declared.beat.WBeat.{WBeat}
use Rattle.axi_beats.specs.declared.beat.BBeat.{BBeat}
use Rattle.axi_beats.specs.declared.beat.RBeat.{RBeat}
use Rattle.axi_link.specs.LinkView.{LinkView}
use Rattle.axi_link.specs.LinkWords.{has_room, head_of, link_of}
use Rattle.axi_link.specs.declared.out.Out.{Out}
use Rattle.axi_trail.specs.Waiting.{Waiting, advanced, answered_once, fresh}
use Rattle.axi_trail.specs.Words.{id_of_address}
use Rattle.burst_cuts.specs.Parts.{len_of_burst}
use Rattle.node_core.specs.Acted.{Acted}
use Rattle.node_core.specs.Rows.{beat_where, fits, put_of, take_of}
use Rattle.up_node.specs.UpBeats.{beat_narrowed, beat_shift, beat_widened}
use Rattle.up_node.specs.UpState.{IsBurstOn, UpState}
use Rattle.up_node.specs.declared.shape.UpShape.{UpShape}

-- the oldest entry of an ID
abbrev pub oldest_of_id : ℕ → List (Waiting Addr) → Option (Waiting Addr)
oldest_of_id id entries = find (λ (entry : Waiting Addr). entry.request.id == id) entries

-- a beat, where there is an entry for it: moved by the shift of that entry's next beat
abbrev pub moved_for : {X : Type 0} → UpShape → (ℕ → X → X) → Option (Waiting Addr) → Option X → Option X
moved_for shape moved None beat = None
moved_for shape moved (Some entry) None = None
moved_for shape moved (Some entry) (Some beat) = Some (moved (beat_shift shape entry.request entry.done) beat)

-- W: data goes on for the oldest write that lacks some
abbrev pub data_moved : UpShape → Bool → Option WBeat → List (Waiting Addr) → Option WBeat
data_moved shape room head entries = beat_where room (moved_for shape (beat_widened shape) (head_of entries) head)

-- R: and an answer for the oldest read of its ID
abbrev pub read_data_moved : UpShape → Bool → Option RBeat → List (Waiting Addr) → Option RBeat
read_data_moved shape room head entries =
    beat_where room (moved_for shape (beat_narrowed shape) (option_and_then (λ (r : RBeat). oldest_of_id r.id entries) head) head)

-- The rows: the beat that moves on each channel, as it is put.
module _ (links : List LinkView) (s : UpState) where
  abbrev pub up_above : LinkView
  up_above = link_of links s.shape.upper

  abbrev pub up_below : LinkView
  up_below = link_of links s.shape.lower

  abbrev pub up_aw : Option Addr
  up_aw = beat_where (fits s.writes && has_room up_below.depth up_below.aw) (head_of up_above.aw)

  abbrev pub up_w : Option WBeat
  up_w = data_moved s.shape (has_room up_below.depth up_below.w) (head_of up_above.w) s.writes

  abbrev pub up_b : Option BBeat
  up_b = beat_where (has_room up_above.depth up_above.b) (head_of up_below.b)

  abbrev pub up_ar : Option Addr
  up_ar = beat_where (fits s.reads && has_room up_below.depth up_below.ar) (head_of up_above.ar)

  abbrev pub up_r : Option RBeat
  up_r = read_data_moved s.shape (has_room up_above.depth up_above.r) (head_of up_below.r) s.reads

-- The entries after a row: one that has passed its last beat leaves.
abbrev pub entries_after_data : Option WBeat → List (Waiting Addr) → List (Waiting Addr)
entries_after_data None entries = entries
entries_after_data (Some w) entries = advanced len_of_burst entries

abbrev pub entries_after_read_data : Option RBeat → List (Waiting Addr) → List (Waiting Addr)
entries_after_read_data None entries = entries
entries_after_read_data (Some r) entries = answered_once len_of_burst id_of_address r.id entries

abbrev pub entries_after_address : Option Addr → List (Waiting Addr) → List (Waiting Addr)
entries_after_address None entries = entries
entries_after_address (Some a) entries = entries ++ fresh a ∷ []

module _ (links : List LinkView) (s : UpState) where
  -- the takes and puts of the round
  abbrev pub up_out : Out
  up_out = record {
    aw_take = take_of s.shape.upper (is_some (up_aw links s));
    aw_put = put_of s.shape.lower (up_aw links s);
    w_take = take_of s.shape.upper (is_some (up_w links s));
    w_put = put_of s.shape.lower (up_w links s);
    b_take = take_of s.shape.lower (is_some (up_b links s));
    b_put = put_of s.shape.upper (up_b links s);
    ar_take = take_of s.shape.upper (is_some (up_ar links s));
    ar_put = put_of s.shape.lower (up_ar links s);
    r_take = take_of s.shape.lower (is_some (up_r links s));
    r_put = put_of s.shape.upper (up_r links s);
  }

  -- the state after the round
  abbrev pub up_next : UpState
  up_next = record {
    shape = s.shape;
    writes = entries_after_address (up_aw links s) (entries_after_data (up_w links s) s.writes);
    reads = entries_after_address (up_ar links s) (entries_after_read_data (up_r links s) s.reads);
  }

  abbrev pub up_table : Acted UpState
  up_table = record { state = up_next; out = up_out }

  -- some row's condition holds
  abbrev pub up_wants : Bool
  up_wants = is_some (up_aw links s) || is_some (up_w links s) || is_some (up_b links s) || is_some (up_ar links s) || is_some (up_r links s)

-- its links are there, and the requests above are for legal bursts on the narrow bus
pub record CanUp (links : List LinkView) (s : UpState) : Type 0 where
  pub upper : s.shape.upper < length links
  pub lower : s.shape.lower < length links
  pub aw : IfSome (head_of (up_above links s).aw) (IsBurstOn s.shape.narrow)
  pub ar : IfSome (head_of (up_above links s).ar) (IsBurstOn s.shape.narrow)
