-- What a slice does in a round (Arm IHI 0022, register slices): a function of its two links as they stand at the round's
-- start. On each channel it passes a head on, unchanged, where there is room.
use Rattle.std.specs.Prelude.{◌<◌, ◌||◌, List, Bool, Option, length, is_some}
use Rattle.axi_beats.specs.declared.beat.Addr.{Addr}
use Rattle.axi_beats.specs.declared.beat.WBeat.{WBeat}
use Rattle.axi_beats.specs.declared.beat.BBeat.{BBeat}
use Rattle.axi_beats.specs.declared.beat.RBeat.{RBeat}
use Rattle.axi_link.specs.LinkView.{LinkView}
use Rattle.axi_link.specs.LinkWords.{has_room, head_of, link_of}
use Rattle.axi_link.specs.declared.out.Out.{Out}
use Rattle.node_core.specs.Acted.{Acted}
use Rattle.node_core.specs.Rows.{beat_where, put_of, take_of}
use Rattle.slice_node.specs.SliceState.{SliceState}

module _ (links : List LinkView) (s : SliceState) where
  abbrev pub slice_above : LinkView
  slice_above = link_of links s.upper

  abbrev pub slice_below : LinkView
  slice_below = link_of links s.lower

  -- what goes down: a head above, where there is room below
  abbrev pub slice_aw : Option Addr
  slice_aw = beat_where (has_room slice_below.depth slice_below.aw) (head_of slice_above.aw)

  abbrev pub slice_w : Option WBeat
  slice_w = beat_where (has_room slice_below.depth slice_below.w) (head_of slice_above.w)

  abbrev pub slice_ar : Option Addr
  slice_ar = beat_where (has_room slice_below.depth slice_below.ar) (head_of slice_above.ar)

  -- what goes up: a head below, where there is room above
  abbrev pub slice_b : Option BBeat
  slice_b = beat_where (has_room slice_above.depth slice_above.b) (head_of slice_below.b)

  abbrev pub slice_r : Option RBeat
  slice_r = beat_where (has_room slice_above.depth slice_above.r) (head_of slice_below.r)

  -- the takes and puts of the round
  abbrev pub slice_out : Out
  slice_out = record {
    aw_take = take_of s.upper (is_some slice_aw);
    aw_put = put_of s.lower slice_aw;
    w_take = take_of s.upper (is_some slice_w);
    w_put = put_of s.lower slice_w;
    b_take = take_of s.lower (is_some slice_b);
    b_put = put_of s.upper slice_b;
    ar_take = take_of s.upper (is_some slice_ar);
    ar_put = put_of s.lower slice_ar;
    r_take = take_of s.lower (is_some slice_r);
    r_put = put_of s.upper slice_r;
  }

  -- what the slice does in a round: it stays as it is
  abbrev pub slice_table : Acted SliceState
  slice_table = record { state = s; out = slice_out }

  -- some row's condition holds
  abbrev pub slice_wants : Bool
  slice_wants = is_some slice_aw || is_some slice_w || is_some slice_b || is_some slice_ar || is_some slice_r

-- both links are there
pub record CanSlice (links : List LinkView) (s : SliceState) : Type 0 where
  pub upper : s.upper < length links
  pub lower : s.lower < length links
