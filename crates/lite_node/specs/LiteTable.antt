-- What a Lite bridge does in a round (Arm IHI 0022, AXI4-Lite): a function of its two links as they stand at the round's
-- start. It asks below for whole words under ID 0, and sends the answers back under the IDs of the requests, in their order.
use Rattle.std.specs.Prelude.{◌<◌, ◌^◌, ◌&&◌, ◌||◌, ◌++◌, ◌∷◌, [], if◌then◌else◌, ℕ, List, Bool, Option, None, IfSome, drop, is_some, length, option_map, Some}
use Rattle.std.specs.Int.{trailing_zeros, w8}
use Rattle.axi_beats.specs.declared.beat.Addr.{Addr}
use Rattle.axi_beats.specs.declared.beat.Burst.TheVariants.{Incr}
use Rattle.axi_beats.specs.declared.beat.WBeat.{WBeat}
use Rattle.axi_beats.specs.declared.beat.BBeat.{BBeat}
use Rattle.axi_beats.specs.declared.beat.RBeat.{RBeat}
use Rattle.axi_link.specs.LinkView.{LinkView}
use Rattle.axi_link.specs.LinkWords.{has_room, head_of, link_of}
use Rattle.axi_link.specs.declared.out.Out.{Out}
use Rattle.burst_address.specs.Formulas.{aligned}
use Rattle.burst_address.specs.Lanes.{first_lane, last_lane}
use Rattle.burst_address.specs.Legal.{IsLegal}
use Rattle.lite_node.specs.LiteState.{LiteShape, LiteState}
use Rattle.node_core.specs.Acted.{Acted}
use Rattle.node_core.specs.Rows.{beat_where, fits, put_of, take_of}

-- AxSIZE of a beat as wide as the bus: the binary logarithm of its width, which is a power of two
abbrev pub full_size : ℕ → ℕ
full_size bus = trailing_zeros w8 bus

-- the request on AXI4-Lite for the whole word that a request starts in; its tag has the valid lanes of the first beat
abbrev pub word_request : ℕ → Addr → Addr
word_request bus a = record {
  id = 0;
  addr = aligned bus a.addr;
  len = 0;
  size = full_size bus;
  burst = Incr;
  tag = record { txn = a.tag.txn; low = first_lane a 0 bus; high = last_lane a 0 bus };
}

-- an answer under the ID of its request, with no lanes in its tag
abbrev pub returned_b : ℕ → BBeat → BBeat
returned_b id b = record { id = id; resp = b.resp; tag = record { txn = b.tag.txn; low = 0; high = 0 } }

abbrev pub returned_r : ℕ → RBeat → RBeat
returned_r id r = record { id = id; resp = r.resp; last = r.last; tag = record { txn = r.tag.txn; low = 0; high = 0 }; lanes = r.lanes }

-- an answer goes up under the ID of the oldest request, where one waits
module _ {X : Type 0} (returned : ℕ → X → X) where
  abbrev pub returned_to : List ℕ → Option X → Option X
  returned_to [] head = None
  returned_to (id ∷ ids) head = option_map (returned id) head

-- The rows.
module _ (links : List LinkView) (s : LiteState) where
  abbrev pub lite_above : LinkView
  lite_above = link_of links s.shape.upper

  abbrev pub lite_below : LinkView
  lite_below = link_of links s.shape.lower

  -- what goes down: a head above, where there is room below, and an address where one more request fits
  abbrev pub lite_aw : Option Addr
  lite_aw = beat_where (has_room lite_below.depth lite_below.aw && fits s.writes) (head_of lite_above.aw)

  abbrev pub lite_w : Option WBeat
  lite_w = beat_where (has_room lite_below.depth lite_below.w) (head_of lite_above.w)

  abbrev pub lite_ar : Option Addr
  lite_ar = beat_where (has_room lite_below.depth lite_below.ar && fits s.reads) (head_of lite_above.ar)

  -- what goes up: an answer below to the oldest request, where there is room above
  abbrev pub lite_b : Option BBeat
  lite_b = returned_to returned_b s.writes (beat_where (has_room lite_above.depth lite_above.b) (head_of lite_below.b))

  abbrev pub lite_r : Option RBeat
  lite_r = returned_to returned_r s.reads (beat_where (has_room lite_above.depth lite_above.r) (head_of lite_below.r))

-- the oldest request leaves with its answer, and an address joins
abbrev pub ids_left : Bool → List ℕ → List ℕ
ids_left answered ids = if answered then drop 1 ids else ids

abbrev pub ids_more : Option Addr → List ℕ → List ℕ
ids_more None ids = ids
ids_more (Some a) ids = ids ++ a.id ∷ []

module _ (links : List LinkView) (s : LiteState) where
  -- the takes and puts of the round
  abbrev pub lite_out : Out
  lite_out = record {
    aw_take = take_of s.shape.upper (is_some (lite_aw links s));
    aw_put = put_of s.shape.lower (option_map (word_request s.shape.bus) (lite_aw links s));
    w_take = take_of s.shape.upper (is_some (lite_w links s));
    w_put = put_of s.shape.lower (lite_w links s);
    b_take = take_of s.shape.lower (is_some (lite_b links s));
    b_put = put_of s.shape.upper (lite_b links s);
    ar_take = take_of s.shape.upper (is_some (lite_ar links s));
    ar_put = put_of s.shape.lower (option_map (word_request s.shape.bus) (lite_ar links s));
    r_take = take_of s.shape.lower (is_some (lite_r links s));
    r_put = put_of s.shape.upper (lite_r links s);
  }

  -- the state after the round
  abbrev pub lite_next : LiteState
  lite_next = record {
    shape = s.shape;
    writes = ids_more (lite_aw links s) (ids_left (is_some (lite_b links s)) s.writes);
    reads = ids_more (lite_ar links s) (ids_left (is_some (lite_r links s)) s.reads);
  }

  -- what the bridge does in a round
  abbrev pub lite_table : Acted LiteState
  lite_table = record { state = lite_next; out = lite_out }

  -- some row's condition holds
  abbrev pub lite_wants : Bool
  lite_wants = is_some (lite_aw links s) || is_some (lite_w links s) || is_some (lite_b links s) || is_some (lite_ar links s) || is_some (lite_r links s)

-- both links are there, and the requests that are offered above are for legal bursts below 2 ^ 63
pub record CanLite (links : List LinkView) (shape : LiteShape) : Type 0 where
  pub upper : shape.upper < length links
  pub lower : shape.lower < length links
  pub aw_legal : IfSome (head_of (link_of links shape.upper).aw) (λ a. IsLegal a shape.bus)
  pub aw_small : IfSome (head_of (link_of links shape.upper).aw) (λ a. a.addr < 2 ^ 63)
  pub ar_legal : IfSome (head_of (link_of links shape.upper).ar) (λ a. IsLegal a shape.bus)
  pub ar_small : IfSome (head_of (link_of links shape.upper).ar) (λ a. a.addr < 2 ^ 63)
