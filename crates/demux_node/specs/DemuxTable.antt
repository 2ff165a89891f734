-- What a demux does in a round (Arm IHI 0022, transaction ordering): a function of its links as they stand at the round's
-- start. It sends each request on by the port of its address, and lets an ID wait that has unanswered requests at another
-- port, so that all answers of an ID come in order.
use Rattle.std.specs.Prelude.{◌<◌, ◌==◌, ◌&&◌, ◌||◌, ◌++◌, ◌∷◌, if◌then◌else◌, ℕ, suc, Bool, true, false, not, Option, Some, None, is_some}
use Rattle.std.specs.Prelude.{[], List, All, length, map, slice_get, find}
use Rattle.std.specs.List.{list_any}
use Rattle.std.specs.Option.{option_and_then, option_map, option_map_or}
use Rattle.axi_beats.specs.declared.beat.Addr.{Addr}
use Rattle.axi_beats.specs.declared.beat.WBeat.{WBeat}
use Rattle.axi_beats.specs.declared.beat.BBeat.{BBeat}
use Rattle.axi_beats.specs.declared.beat.RBeat.{RBeat}
use Rattle.axi_link.specs.LinkView.{LinkView, empty_link}
use Rattle.axi_link.specs.LinkWords.{has_room, head_of, link_of}
use Rattle.axi_link.specs.declared.out.Out.{Out}
use Rattle.demux_node.specs.DemuxState.{DemuxShape, DemuxState, lower_of, port_for, route_of}
use Rattle.demux_node.specs.declared.route.Route.{Route}
use Rattle.demux_node.specs.declared.route.WriteRoute.{WriteRoute}
use Rattle.flight.specs.Entries.{place_of}
use Rattle.node_core.specs.Acted.{Acted}
use Rattle.node_core.specs.Rows.{beat_where, fits, put_of, take_of}
use Rattle.node_core.specs.Turn.{TurnState, first_in_turn, turned_to}
use Rattle.plain_lists.specs.Keys.{without_oldest}

abbrev pub id_of_route : Route → ℕ
id_of_route route = route.id

abbrev pub id_of_write : WriteRoute → ℕ
id_of_write write = write.id

-- a request of this ID that went by another port
abbrev pub is_elsewhere : ℕ → ℕ → Route → Bool
is_elsewhere id port route = route.id == id && not (route.port == port)

abbrev pub is_write_elsewhere : ℕ → ℕ → WriteRoute → Bool
is_write_elsewhere id port write = is_elsewhere id port (route_of write)

-- a write that lacks data, and went by another port
abbrev pub is_open_elsewhere : ℕ → WriteRoute → Bool
is_open_elsewhere port write = write.is_open && not (write.port == port)

abbrev pub is_open_write : WriteRoute → Bool
is_open_write write = write.is_open

-- the place of the oldest write that lacks data
abbrev pub open_place : List WriteRoute → Option ℕ
open_place [] = None
open_place (write ∷ writes) = if write.is_open then Some 0 else option_map suc (open_place writes)

-- the port of the oldest write that lacks data
abbrev pub open_port : List WriteRoute → Option ℕ
open_port writes = option_map (λ (write : WriteRoute). write.port) (find is_open_write writes)

-- a head that moves, with the port by which it does
abbrev pub by_port : {X : Type 0} → Option ℕ → Option X → Option (ℕ × X)
by_port None head = None
by_port (Some port) head = put_of port head

module _ (links : List LinkView) (shape : DemuxShape) where
  abbrev pub demux_above : LinkView
  demux_above = link_of links shape.upper

  -- the link of a port; where there is no such port, nothing waits and there is no room
  abbrev pub at_port : ℕ → LinkView
  at_port port = option_map_or (link_of links) (slice_get shape.lowers port) (empty_link 0)

  -- AW: a write fits, there is room at its port, no write of its ID went by another port, and none that lacks data did
  abbrev pub takes_write : List WriteRoute → Addr → Bool
  takes_write writes a =
      fits writes && (has_room (at_port (port_for shape a.addr)).depth (at_port (port_for shape a.addr)).aw
      && (not (list_any (is_write_elsewhere a.id (port_for shape a.addr)) writes) && not (list_any (is_open_elsewhere (port_for shape a.addr)) writes)))

  abbrev pub aw_port : List WriteRoute → Option ℕ
  aw_port writes = option_and_then (λ (a : Addr). beat_where (takes_write writes a) (Some (port_for shape a.addr))) (head_of demux_above.aw)

  -- W: the oldest write that lacks data has room at its port
  abbrev pub w_port : List WriteRoute → Option ℕ
  w_port writes = option_and_then (λ port. beat_where (has_room (at_port port).depth (at_port port).w) (Some port)) (open_port writes)

  -- B: a port offers a response whose ID has a write
  abbrev pub offers_b : List WriteRoute → ℕ → Bool
  offers_b writes port = option_map_or (λ (b : BBeat). is_some (place_of b.id (map id_of_write writes))) (head_of (at_port port).b) false

  abbrev pub b_port : List WriteRoute → TurnState → Option ℕ
  b_port writes turn = beat_where (has_room demux_above.depth demux_above.b) (first_in_turn (offers_b writes) turn)

  -- what a port offers, where there is one
  abbrev pub offered_b : Option ℕ → Option BBeat
  offered_b port = option_and_then (λ p. head_of (at_port p).b) port

  -- AR: a read fits, there is room at its port, and no read of its ID went by another port
  abbrev pub takes_read : List Route → Addr → Bool
  takes_read reads a =
      fits reads && (has_room (at_port (port_for shape a.addr)).depth (at_port (port_for shape a.addr)).ar
      && not (list_any (is_elsewhere a.id (port_for shape a.addr)) reads))

  abbrev pub ar_port : List Route → Option ℕ
  ar_port reads = option_and_then (λ (a : Addr). beat_where (takes_read reads a) (Some (port_for shape a.addr))) (head_of demux_above.ar)

  -- R: a port offers read data whose ID has a read
  abbrev pub offers_r : List Route → ℕ → Bool
  offers_r reads port = option_map_or (λ (r : RBeat). is_some (place_of r.id (map id_of_route reads))) (head_of (at_port port).r) false

  abbrev pub r_port : List Route → TurnState → Option ℕ
  r_port reads turn = beat_where (has_room demux_above.depth demux_above.r) (first_in_turn (offers_r reads) turn)

  abbrev pub offered_r : Option ℕ → Option RBeat
  offered_r port = option_and_then (λ p. head_of (at_port p).r) port

-- The rows: the beat that moves on each channel, with its port.
module _ (links : List LinkView) (s : DemuxState) where
  abbrev pub demux_aw : Option (ℕ × Addr)
  demux_aw = by_port (aw_port links s.shape s.writes) (head_of (demux_above links s.shape).aw)

  abbrev pub demux_w : Option (ℕ × WBeat)
  demux_w = by_port (w_port links s.shape s.writes) (head_of (demux_above links s.shape).w)

  abbrev pub demux_b : Option (ℕ × BBeat)
  demux_b = by_port (b_port links s.shape s.writes s.turn_b) (offered_b links s.shape (b_port links s.shape s.writes s.turn_b))

  abbrev pub demux_ar : Option (ℕ × Addr)
  demux_ar = by_port (ar_port links s.shape s.reads) (head_of (demux_above links s.shape).ar)

  abbrev pub demux_r : Option (ℕ × RBeat)
  demux_r = by_port (r_port links s.shape s.reads s.turn_r) (offered_r links s.shape (r_port links s.shape s.reads s.turn_r))

-- The entries after a row. Each row's entry is the one that it names at the round's start: to close an entry before another
-- one leaves is to close the one that was the oldest, if it stays.

-- the oldest write that lacks data has it all
abbrev pub close_oldest : List WriteRoute → List WriteRoute
close_oldest [] = []
close_oldest (write ∷ writes) = if write.is_open then record { id = write.id; port = write.port; is_open = false } ∷ writes else write ∷ close_oldest writes

abbrev pub writes_after_w : Option (ℕ × WBeat) → List WriteRoute → List WriteRoute
writes_after_w None writes = writes
writes_after_w (Some x) writes = if x.1.last then close_oldest writes else writes

abbrev pub writes_after_b : Option (ℕ × BBeat) → List WriteRoute → List WriteRoute
writes_after_b None writes = writes
writes_after_b (Some x) writes = without_oldest id_of_write x.1.id writes

abbrev pub writes_after_aw : Option (ℕ × Addr) → List WriteRoute → List WriteRoute
writes_after_aw None writes = writes
writes_after_aw (Some x) writes = writes ++ record { id = x.1.id; port = x.0; is_open = true } ∷ []

abbrev pub reads_after_r : Option (ℕ × RBeat) → List Route → List Route
reads_after_r None reads = reads
reads_after_r (Some x) reads = if x.1.last then without_oldest id_of_route x.1.id reads else reads

abbrev pub reads_after_ar : Option (ℕ × Addr) → List Route → List Route
reads_after_ar None reads = reads
reads_after_ar (Some x) reads = reads ++ record { id = x.1.id; port = x.0 } ∷ []

-- the turn goes on where the row moves a beat
abbrev pub turn_after : {X : Type 0} → Option (ℕ × X) → TurnState → TurnState
turn_after None turn = turn
turn_after (Some x) turn = turned_to x.0 turn

-- a row's take or put below, and its put above
abbrev pub take_below : {X : Type 0} → DemuxShape → Option (ℕ × X) → Option ℕ
take_below shape None = None
take_below shape (Some x) = Some (lower_of shape x.0)

abbrev pub put_below : {X : Type 0} → DemuxShape → Option (ℕ × X) → Option (ℕ × X)
put_below shape None = None
put_below shape (Some x) = Some (lower_of shape x.0, x.1)

abbrev pub put_above : {X : Type 0} → DemuxShape → Option (ℕ × X) → Option (ℕ × X)
put_above shape None = None
put_above shape (Some x) = Some (shape.upper, x.1)

module _ (links : List LinkView) (s : DemuxState) where
  -- the takes and puts of the round
  abbrev pub demux_out : Out
  demux_out = record {
    aw_take = take_of s.shape.upper (is_some (demux_aw links s));
    aw_put = put_below s.shape (demux_aw links s);
    w_take = take_of s.shape.upper (is_some (demux_w links s));
    w_put = put_below s.shape (demux_w links s);
    b_take = take_below s.shape (demux_b links s);
    b_put = put_above s.shape (demux_b links s);
    ar_take = take_of s.shape.upper (is_some (demux_ar links s));
    ar_put = put_below s.shape (demux_ar links s);
    r_take = take_below s.shape (demux_r links s);
    r_put = put_above s.shape (demux_r links s);
  }

  -- the state after the round
  abbrev pub demux_next : DemuxState
  demux_next = record {
    shape = s.shape;
    writes = writes_after_aw (demux_aw links s) (writes_after_b (demux_b links s) (writes_after_w (demux_w links s) s.writes));
    reads = reads_after_ar (demux_ar links s) (reads_after_r (demux_r links s) s.reads);
    turn_b = turn_after (demux_b links s) s.turn_b;
    turn_r = turn_after (demux_r links s) s.turn_r;
  }

  abbrev pub demux_table : Acted DemuxState
  demux_table = record { state = demux_next; out = demux_out }

  -- some row's condition holds
  abbrev pub demux_wants : Bool
  demux_wants = is_some (demux_aw links s) || is_some (demux_w links s) || is_some (demux_b links s) || is_some (demux_ar links s) || is_some (demux_r links s)

-- all its links are there
pub record CanDemux (links : List LinkView) (shape : DemuxShape) : Type 0 where
  pub upper : shape.upper < length links
  pub lowers : All (λ link. link < length links) shape.lowers
