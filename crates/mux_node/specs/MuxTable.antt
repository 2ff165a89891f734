-- What a mux does in a round (Arm IHI 0022, transaction identifiers): a function of its links as they stand at the round's
-- start. It sends the requests of all inputs below, each with its input in its ID, and the answers back by the input in
-- theirs.
use Rattle.std.specs.Prelude.{◌<◌, ◌+◌, ◌*◌, ◌/◌, ◌%◌, ◌^◌, ◌&&◌, ◌||◌, ◌++◌, ◌∷◌, if◌then◌else◌, ℕ, Bool, false, Option, Some, None, is_some, IfSome}
use Rattle.std.specs.Prelude.{[], List, All, drop, length, slice_get, slice_index_or}
use Rattle.std.specs.Option.{option_and_then, option_map}
use Rattle.axi_beats.specs.declared.beat.Addr.{Addr}
use Rattle.axi_beats.specs.declared.beat.WBeat.{WBeat}
use Rattle.axi_beats.specs.declared.beat.BBeat.{BBeat}
use Rattle.axi_beats.specs.declared.beat.RBeat.{RBeat}
use Rattle.axi_link.specs.LinkView.{LinkView}
use Rattle.axi_link.specs.LinkWords.{has_room, head_of, link_of}
use Rattle.axi_link.specs.declared.out.Out.{Out}
use Rattle.mux_node.specs.MuxState.{MuxShape, MuxState}
use Rattle.mux_node.specs.declared.rows.Direction.{Direction}
use Rattle.mux_node.specs.declared.rows.Direction.TheVariants.{Read, Write}
use Rattle.node_core.specs.Acted.{Acted}
use Rattle.node_core.specs.Rows.{beat_where, fits, take_of}
use Rattle.node_core.specs.Turn.{TurnState, first_in_turn, turned_to}

-- a beat that moves, its input, and the number of the input's link
pub record Moved (X : Type 0) : Type 0 where
  pub input : ℕ
  pub link : ℕ
  pub beat : X

-- how many IDs an input has
abbrev pub ids_of : MuxShape → ℕ
ids_of shape = 2 ^ shape.width

-- the number of the link of an input
abbrev pub upper_of : MuxShape → ℕ → ℕ
upper_of shape input = slice_index_or shape.uppers input 0

-- the addresses of a direction on a link
abbrev pub addresses : Direction → LinkView → List Addr
addresses Write link = link.aw
addresses Read link = link.ar

-- Requests and write data.
module _ {X : Type 0} (queue_of : LinkView → List X) (links : List LinkView) (uppers : List ℕ) where
  -- the head that an input offers
  abbrev pub input_offer : ℕ → Option (Moved X)
  input_offer input =
      option_and_then
      (λ link. option_map (λ beat. record { input = input; link = link; beat = beat }) (head_of (queue_of (link_of links link))))
      (slice_get uppers input)

  -- that of the input whose turn it is
  abbrev pub offered_in_turn : TurnState → Option (Moved X)
  offered_in_turn turn = option_and_then input_offer (first_in_turn (λ input. is_some (input_offer input)) turn)

-- Answers: each goes to the input in its ID, where there is one and room on its link.
module _ {X : Type 0} (queue_of : LinkView → List X) (id_of : X → ℕ) (links : List LinkView) (uppers : List ℕ) (lower ids : ℕ) where
  abbrev pub sent_back : X → Option (Moved X)
  sent_back beat =
      option_and_then
      (λ link.
      beat_where (has_room (link_of links link).depth (queue_of (link_of links link))) (Some (record { input = id_of beat / ids; link = link; beat = beat })))
      (slice_get uppers (id_of beat / ids))

  abbrev pub answered : Option (Moved X)
  answered = option_and_then sent_back (head_of (queue_of (link_of links lower)))

-- The rows: the beat that moves on each channel, with its input.
module _ (links : List LinkView) (s : MuxState) where
  abbrev pub mux_below : LinkView
  mux_below = link_of links s.shape.lower

  abbrev pub mux_aw : Option (Moved Addr)
  mux_aw = beat_where (has_room mux_below.depth mux_below.aw && fits s.granted) (offered_in_turn (λ l. l.aw) links s.shape.uppers s.turn_aw)

  abbrev pub mux_w : Option (Moved WBeat)
  mux_w = beat_where (has_room mux_below.depth mux_below.w) (option_and_then (input_offer (λ l. l.w) links s.shape.uppers) (head_of s.granted))

  abbrev pub mux_b : Option (Moved BBeat)
  mux_b = answered (λ l. l.b) (λ b. b.id) links s.shape.uppers s.shape.lower (ids_of s.shape)

  abbrev pub mux_ar : Option (Moved Addr)
  mux_ar = beat_where (has_room mux_below.depth mux_below.ar) (offered_in_turn (λ l. l.ar) links s.shape.uppers s.turn_ar)

  abbrev pub mux_r : Option (Moved RBeat)
  mux_r = answered (λ l. l.r) (λ r. r.id) links s.shape.uppers s.shape.lower (ids_of s.shape)

-- what a row takes and puts, where it moves a beat
module _ {X : Type 0} where
  abbrev pub take_of_input : Option (Moved X) → Option ℕ
  take_of_input None = None
  take_of_input (Some m) = Some m.link

  abbrev pub put_on_lower : (ℕ → X → X) → ℕ → Option (Moved X) → Option (ℕ × X)
  put_on_lower changed lower None = None
  put_on_lower changed lower (Some m) = Some (lower, changed m.input m.beat)

  abbrev pub take_of_lower : ℕ → Option (Moved X) → Option ℕ
  take_of_lower lower row = take_of lower (is_some row)

  abbrev pub put_on_input : (X → X) → Option (Moved X) → Option (ℕ × X)
  put_on_input changed None = None
  put_on_input changed (Some m) = Some (m.link, changed m.beat)

  -- the input of the beat
  abbrev pub input_moved : Option (Moved X) → Option ℕ
  input_moved row = option_map (λ m. m.input) row

  abbrev pub unchanged : ℕ → X → X
  unchanged input x = x

-- a request with its input in its ID
abbrev pub widened : ℕ → ℕ → Addr → Addr
widened ids input a = record a { id = input * ids + a.id }

-- an answer as its input asked for it
abbrev pub narrowed_b : ℕ → BBeat → BBeat
narrowed_b ids b = record b { id = b.id % ids }

abbrev pub narrowed_r : ℕ → RBeat → RBeat
narrowed_r ids r = record r { id = r.id % ids }

-- a turn goes on behind an input
abbrev pub turn_behind : TurnState → Option ℕ → TurnState
turn_behind turn None = turn
turn_behind turn (Some input) = turned_to input turn

-- the last beat of a burst moves
abbrev pub ends_burst : Option (Moved WBeat) → Bool
ends_burst None = false
ends_burst (Some m) = m.beat.last

-- the first granted input leaves with its last beat of data, and the input of an address joins
abbrev pub granted_left : Bool → List ℕ → List ℕ
granted_left ends granted = if ends then drop 1 granted else granted

abbrev pub granted_more : Option ℕ → List ℕ → List ℕ
granted_more None granted = granted
granted_more (Some input) granted = granted ++ input ∷ []

module _ (links : List LinkView) (s : MuxState) where
  -- the takes and puts of the round
  abbrev pub mux_out : Out
  mux_out = record {
    aw_take = take_of_input (mux_aw links s);
    aw_put = put_on_lower (widened (ids_of s.shape)) s.shape.lower (mux_aw links s);
    w_take = take_of_input (mux_w links s);
    w_put = put_on_lower unchanged s.shape.lower (mux_w links s);
    b_take = take_of_lower s.shape.lower (mux_b links s);
    b_put = put_on_input (narrowed_b (ids_of s.shape)) (mux_b links s);
    ar_take = take_of_input (mux_ar links s);
    ar_put = put_on_lower (widened (ids_of s.shape)) s.shape.lower (mux_ar links s);
    r_take = take_of_lower s.shape.lower (mux_r links s);
    r_put = put_on_input (narrowed_r (ids_of s.shape)) (mux_r links s);
  }

  -- the state after the round
  abbrev pub mux_next : MuxState
  mux_next = record {
    shape = s.shape;
    turn_aw = turn_behind s.turn_aw (input_moved (mux_aw links s));
    turn_ar = turn_behind s.turn_ar (input_moved (mux_ar links s));
    granted = granted_more (input_moved (mux_aw links s)) (granted_left (ends_burst (mux_w links s)) s.granted);
  }

  -- what the mux does in a round
  abbrev pub mux_table : Acted MuxState
  mux_table = record { state = mux_next; out = mux_out }

  -- some row's condition holds
  abbrev pub mux_wants : Bool
  mux_wants = is_some (mux_aw links s) || is_some (mux_w links s) || is_some (mux_b links s) || is_some (mux_ar links s) || is_some (mux_r links s)

-- all its links are there, and the IDs of the addresses that its inputs offer are narrow
pub record CanMux (links : List LinkView) (shape : MuxShape) : Type 0 where
  pub uppers : All (λ link. link < length links) shape.uppers
  pub lower : shape.lower < length links
  pub aw_ids : All (λ link. IfSome (head_of (link_of links link).aw) (λ a. a.id < ids_of shape)) shape.uppers
  pub ar_ids : All (λ link. IfSome (head_of (link_of links link).ar) (λ a. a.id < ids_of shape)) shape.uppers
