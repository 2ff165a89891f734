-- What a Lite bridge has passed on its two links, and the bridge as a kind of node.
use Rattle.std.specs.Prelude.{◌≡◌, ◌<◌, ◌≤◌, ◌^◌, ◌∷◌, [], ℕ, List, All, Some, drop, false, length, map, true, zip}
use Rattle.axi_beats.specs.declared.beat.Addr.{Addr}
use Rattle.axi_trail.specs.Schedule.{SameChain, Schedule, Share}
use Rattle.axi_trail.specs.Trail.{Beats}
use Rattle.axi_trail.specs.Words.{id_of_address}
use Rattle.burst_address.specs.Legal.{IsLegal}
use Rattle.lite_node.specs.LiteState.{IsLite, IsNewLite, LiteShape, LiteState}
use Rattle.lite_node.specs.LiteTable.{CanLite, lite_table, lite_wants, returned_b, returned_r, word_request}
use Rattle.node_shape.specs.Kind.{Kind, always_done, knows_nothing, notes_nothing, without_delays}
use Rattle.node_shape.specs.LinkForm.{LinkForm}
use Rattle.node_shape.specs.Way.{Way}

-- a transaction in whole words
abbrev pub in_words : ℕ → Share → Share
in_words bus share = record share { parts = map (word_request bus) share.parts }

-- a request that a bridge can pass on: for one beat that is legal on its bus, below 2 ^ 63
pub record IsWordBeat (bus : ℕ) (request : Addr) : Type 0 where
  pub single : request.len ≡ 0
  pub legal : IsLegal request bus
  pub small : request.addr < 2 ^ 63

-- a transaction goes on in whole words; its chain may tell more of its way
pub record IsInWords (bus : ℕ) (above below : Share) : Type 0 where
  pub beats : All (IsWordBeat bus) above.parts
  pub parts : below.parts ≡ (in_words bus above).parts
  pub write_data : below.write_data ≡ above.write_data
  pub lanes : below.lanes ≡ above.lanes
  pub responses : below.responses ≡ above.responses

-- The link below carries each transaction of the link above in whole words, and what is one chain below came by one chain
-- above.
pub record CarriesWords (bus : ℕ) (above below : Schedule) : Type 0 where
  pub writes : (t : ℕ) → IsInWords bus (above.writes t) (below.writes t)
  pub reads : (t : ℕ) → IsInWords bus (above.reads t) (below.reads t)
  pub write_chains : (t u : ℕ) → SameChain below.writes t u → SameChain above.writes t u
  pub read_chains : (t u : ℕ) → SameChain below.reads t u → SameChain above.reads t u

-- answers in order, under the IDs of these requests
abbrev pub returned_in_order : {X : Type 0} → (ℕ → X → X) → List Addr → List X → List X
returned_in_order returned requests answers = map (λ pair. returned (id_of_address pair.0) pair.1) (zip requests answers)

-- The requests of one direction: below stand those from above, in whole words; and the IDs are those of the ones behind the
-- first so many, which are answered.
pub record AsksForWords (bus : ℕ) (ids : List ℕ) (answered : ℕ) (above below : List Addr) : Type 0 where
  pub asked : below ≡ map (word_request bus) above
  pub waiting : ids ≡ map id_of_address (drop answered above)
  pub few : answered ≤ length above

-- What holds of a bridge.
pub record LiteKeeps (above below : Schedule) (s : LiteState) (upper lower : Beats) : Type 0 where
  pub carries : CarriesWords s.shape.bus above below
  pub writes : AsksForWords s.shape.bus s.writes (length lower.b) upper.aw lower.aw
  pub reads : AsksForWords s.shape.bus s.reads (length lower.r) upper.ar lower.ar
  pub w : lower.w ≡ upper.w
  pub b : upper.b ≡ returned_in_order returned_b upper.aw lower.b
  pub r : upper.r ≡ returned_in_order returned_r upper.ar lower.r

-- AXI4 above, in single beats, and AXI4-Lite below, on buses of its width
pub record IsSoundLite (forms : ℕ → LinkForm) (shape : LiteShape) : Type 0 where
  pub full : (forms shape.upper).lite ≡ false
  pub single : (forms shape.upper).single ≡ true
  pub bus_above : (forms shape.upper).bus ≡ shape.bus
  pub lite : (forms shape.lower).lite ≡ true
  pub bus_below : (forms shape.lower).bus ≡ shape.bus

-- each transaction goes on below in whole words
abbrev pub go_on_in_words : LiteShape → Way
go_on_in_words shape = record {
  origins = [];
  goes_on = λ share. Some shape.lower;
  cut = in_words shape.bus;
  merged = λ write share responses. responses;
  ends = λ write share. [];
}

-- a Lite bridge; `E` is what other kinds note of their rounds
abbrev pub lite_kind : {E : Type 0} → Kind LiteState E
lite_kind = record {
  uppers = λ s. s.shape.upper ∷ [];
  lowers = λ s. s.shape.lower ∷ [];
  begins = IsNewLite;
  fact = IsLite;
  can = λ round links s. CanLite links s.shape;
  table = λ round links s. lite_table links s;
  wants = lite_wants;
  notes = notes_nothing;
  way = λ s. go_on_in_words s.shape;
  is_sound = λ forms schedules s. IsSoundLite forms s.shape;
  suits = λ schedules s. CarriesWords s.shape.bus (schedules s.shape.upper) (schedules s.shape.lower);
  keeps = λ schedules rounds s passed. LiteKeeps (schedules s.shape.upper) (schedules s.shape.lower) s (passed.uppers s.shape.upper) (passed.lowers s.shape.lower);
  knows = knows_nothing;
  is_done = always_done;
  patience = without_delays;
}
