-- What a remapper does in a round (Arm IHI 0022, transaction identifiers): a function of its two links as they stand at the
-- round's start. It sends each request on under an ID of the link below, which stands for the ID above for as long as a
-- request with it isn't answered, and sends the answers back under the ID above.
use Rattle.std.specs.Prelude.{◌<◌, ◌==◌, ◌&&◌, ◌||◌, ◌++◌, ◌∷◌, [], if◌then◌else◌, ℕ, List, Bool, not, Option, Some, None, find, is_some, length}
use Rattle.std.specs.List.{range_with_len}
use Rattle.std.specs.Option.{option_and_then, option_map, option_or}
use Rattle.axi_beats.specs.declared.beat.Addr.{Addr}
use Rattle.axi_beats.specs.declared.beat.WBeat.{WBeat}
use Rattle.axi_beats.specs.declared.beat.BBeat.{BBeat}
use Rattle.axi_beats.specs.declared.beat.RBeat.{RBeat}
use Rattle.axi_link.specs.LinkView.{LinkView}
use Rattle.axi_link.specs.LinkWords.{has_room, head_of, link_of}
use Rattle.axi_link.specs.declared.out.Out.{Out}
use Rattle.node_core.specs.Acted.{Acted}
use Rattle.node_core.specs.Rows.{beat_where, fits, put_of, take_of}
use Rattle.plain_lists.specs.Keys.{without_oldest}
use Rattle.remap_node.specs.RemapState.{RemapShape, RemapState, ids_below}
use Rattle.remap_node.specs.declared.pair.IdPair.{IdPair}

abbrev pub output_of_pair : IdPair → ℕ
output_of_pair pair = pair.output

-- the ID below of the oldest request in flight that has this ID above
abbrev pub output_in_flight : List IdPair → ℕ → Option ℕ
output_in_flight pairs id = option_map output_of_pair (find (λ (pair : IdPair). pair.input == id) pairs)

-- the ID above of the oldest request in flight that has this ID below
abbrev pub input_in_flight : List IdPair → ℕ → Option ℕ
input_in_flight pairs id = option_map (λ (pair : IdPair). pair.input) (find (λ (pair : IdPair). pair.output == id) pairs)

-- no request in flight has this ID below
abbrev pub is_free : List IdPair → ℕ → Bool
is_free pairs id = not (is_some (input_in_flight pairs id))

-- the least of so many IDs that is free
abbrev pub least_free : List IdPair → ℕ → Option ℕ
least_free pairs ids = find (is_free pairs) (range_with_len 0 ids)

-- the ID below of a request: that of the requests in flight with its ID, else the least free one
abbrev pub output_for : List IdPair → ℕ → ℕ → Option ℕ
output_for pairs ids id = option_or (output_in_flight pairs id) (least_free pairs ids)

-- a beat that moves, and its ID on the other link
pub record Renamed (X : Type 0) : Type 0 where
  pub beat : X
  pub id : ℕ

abbrev pub renamed : {X : Type 0} → Option ℕ → Option X → Option (Renamed X)
renamed None head = None
renamed (Some id) head = option_map (λ beat. record { beat = beat; id = id }) head

-- the beat on the other link
abbrev pub address_as : Renamed Addr → Addr
address_as m = record m.beat { id = m.id }

abbrev pub response_as : Renamed BBeat → BBeat
response_as m = record m.beat { id = m.id }

abbrev pub read_data_as : Renamed RBeat → RBeat
read_data_as m = record m.beat { id = m.id }

-- AW and AR: the ID of the head below, where one more request fits, there is room below, and an ID is there for it
abbrev pub request_id : List IdPair → ℕ → Bool → Option Addr → Option ℕ
request_id pairs ids room head = option_and_then (λ (a : Addr). beat_where (fits pairs && room) (output_for pairs ids a.id)) head

-- B and R: the ID of the head above, where there is room above and a request in flight has its ID
abbrev pub answer_id : {X : Type 0} → (X → ℕ) → List IdPair → Bool → Option X → Option ℕ
answer_id id_of pairs room head = option_and_then (λ beat. beat_where room (input_in_flight pairs (id_of beat))) head

abbrev pub request_row : List IdPair → ℕ → Bool → Option Addr → Option (Renamed Addr)
request_row pairs ids room head = renamed (request_id pairs ids room head) head

abbrev pub answer_row : {X : Type 0} → (X → ℕ) → List IdPair → Bool → Option X → Option (Renamed X)
answer_row id_of pairs room head = renamed (answer_id id_of pairs room head) head

-- The rows: the beat that moves on each channel, with its new ID.
module _ (links : List LinkView) (s : RemapState) where
  abbrev pub remap_above : LinkView
  remap_above = link_of links s.shape.upper

  abbrev pub remap_below : LinkView
  remap_below = link_of links s.shape.lower

  abbrev pub remap_aw : Option (Renamed Addr)
  remap_aw = request_row s.writes (ids_below s.shape) (has_room remap_below.depth remap_below.aw) (head_of remap_above.aw)

  abbrev pub remap_w : Option WBeat
  remap_w = beat_where (has_room remap_below.depth remap_below.w) (head_of remap_above.w)

  abbrev pub remap_b : Option (Renamed BBeat)
  remap_b = answer_row (λ b. b.id) s.writes (has_room remap_above.depth remap_above.b) (head_of remap_below.b)

  abbrev pub remap_ar : Option (Renamed Addr)
  remap_ar = request_row s.reads (ids_below s.shape) (has_room remap_below.depth remap_below.ar) (head_of remap_above.ar)

  abbrev pub remap_r : Option (Renamed RBeat)
  remap_r = answer_row (λ r. r.id) s.reads (has_room remap_above.depth remap_above.r) (head_of remap_below.r)

-- The pairs after a row. An answer's pair is the oldest one with its ID below.
abbrev pub ids_of_request : Renamed Addr → IdPair
ids_of_request m = record { input = m.beat.id; output = m.id }

abbrev pub pairs_after_request : Option (Renamed Addr) → List IdPair → List IdPair
pairs_after_request None pairs = pairs
pairs_after_request (Some m) pairs = pairs ++ ids_of_request m ∷ []

abbrev pub pairs_after_response : Option (Renamed BBeat) → List IdPair → List IdPair
pairs_after_response None pairs = pairs
pairs_after_response (Some m) pairs = without_oldest output_of_pair m.beat.id pairs

abbrev pub pairs_after_read_data : Option (Renamed RBeat) → List IdPair → List IdPair
pairs_after_read_data None pairs = pairs
pairs_after_read_data (Some m) pairs = if m.beat.last then without_oldest output_of_pair m.beat.id pairs else pairs

module _ (links : List LinkView) (s : RemapState) where
  -- the takes and puts of the round
  abbrev pub remap_out : Out
  remap_out = record {
    aw_take = take_of s.shape.upper (is_some (remap_aw links s));
    aw_put = put_of s.shape.lower (option_map address_as (remap_aw links s));
    w_take = take_of s.shape.upper (is_some (remap_w links s));
    w_put = put_of s.shape.lower (remap_w links s);
    b_take = take_of s.shape.lower (is_some (remap_b links s));
    b_put = put_of s.shape.upper (option_map response_as (remap_b links s));
    ar_take = take_of s.shape.upper (is_some (remap_ar links s));
    ar_put = put_of s.shape.lower (option_map address_as (remap_ar links s));
    r_take = take_of s.shape.lower (is_some (remap_r links s));
    r_put = put_of s.shape.upper (option_map read_data_as (remap_r links s));
  }

  -- the state after the round
  abbrev pub remap_next : RemapState
  remap_next = record {
    shape = s.shape;
    writes = pairs_after_request (remap_aw links s) (pairs_after_response (remap_b links s) s.writes);
    reads = pairs_after_request (remap_ar links s) (pairs_after_read_data (remap_r links s) s.reads);
  }

  abbrev pub remap_table : Acted RemapState
  remap_table = record { state = remap_next; out = remap_out }

  -- some row's condition holds
  abbrev pub remap_wants : Bool
  remap_wants = is_some (remap_aw links s) || is_some (remap_w links s) || is_some (remap_b links s) || is_some (remap_ar links s) || is_some (remap_r links s)

-- both links are there
pub record CanRemap (links : List LinkView) (shape : RemapShape) : Type 0 where
  pub upper : shape.upper < length links
  pub lower : shape.lower < length links
