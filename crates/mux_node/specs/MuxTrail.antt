-- What a mux has passed on its links, and the mux as a kind of node.
use Rattle.std.specs.Prelude.{◌≡◌, ◌≢◌, ◌<◌, ◌≤◌, ◌*◌, ◌/◌, ◌^◌, ◌∷◌, [], ℕ, List, All, Some, length, map, slice_get}
use Rattle.std.specs.Option.{option_map_or}
use Rattle.axi_beats.specs.declared.beat.Addr.{Addr}
use Rattle.axi_beats.specs.declared.beat.WBeat.{WBeat}
use Rattle.axi_trail.specs.Schedule.{SameChain, Schedule, Share, no_share}
use Rattle.axi_trail.specs.SelectionLaws.{goes_way}
use Rattle.axi_trail.specs.Trail.{Beats, Trail}
use Rattle.axi_trail.specs.Words.{burst_asked, mark_of_data, marks, number_of_address, number_of_data, number_of_waiting, pending_asked}
use Rattle.mux_node.specs.MuxState.{IsMux, IsNewMux, MuxShape, MuxState}
use Rattle.mux_node.specs.MuxTable.{CanMux, ids_of, mux_table, mux_wants, narrowed_b, narrowed_r, widened}
use Rattle.node_shape.specs.Carries.{IsSameShare}
use Rattle.node_shape.specs.Kind.{Kind, always_done, knows_nothing, notes_nothing, without_delays}
use Rattle.node_shape.specs.LinkForm.{IsAlike, LinkForm}
use Rattle.node_shape.specs.Way.{go_on_by}
use Rattle.node_shape.specs.WaysAround.{AreApart}
use Rattle.plain_lists.specs.Keys.{of_key, selected}
use Rattle.plain_lists.specs.Prefixes.{IsPrefix}

-- what there is at the link of an input; nothing past the last one
abbrev pub at_input : {X : Type 0} → List ℕ → (ℕ → List X) → ℕ → List X
at_input uppers of input = option_map_or of (slice_get uppers input) []

abbrev pub share_at_input : List ℕ → (ℕ → ℕ → Share) → ℕ → ℕ → Share
share_at_input uppers shares input t = option_map_or (λ link. shares link t) (slice_get uppers input) no_share

-- What a link has to carry that is below several: each transaction comes by one input, which `route` names, and goes on as
-- it is; and what is one chain below came by one input, as one chain.
pub record Merges (route : ℕ → ℕ) (above : ℕ → ℕ → Share) (below : ℕ → Share) : Type 0 where
  pub same : (t : ℕ) → IsSameShare (above (route t) t) (below t)
  pub elsewhere : (input t : ℕ) → route t ≢ input → above input t ≡ no_share
  pub chains : (t u : ℕ) → SameChain below t u → (route t ≡ route u) × SameChain (above (route u)) t u

-- What the links of a mux have to carry suits it: its inputs have links of their own, their transactions are merged below,
-- and IDs with their inputs fit there.
pub record MuxSuits (schedules : ℕ → Schedule) (shape : MuxShape) : Type 0 where
  pub apart : AreApart shape.uppers
  pub write_route : ℕ → ℕ
  pub read_route : ℕ → ℕ
  pub writes : Merges write_route (share_at_input shape.uppers (λ link. (schedules link).writes)) (schedules shape.lower).writes
  pub reads : Merges read_route (share_at_input shape.uppers (λ link. (schedules link).reads)) (schedules shape.lower).reads
  pub narrow : All (λ link. (schedules link).id_width ≤ shape.width) shape.uppers
  pub wide : ids_of shape * length shape.uppers ≤ 2 ^ (schedules shape.lower).id_width

-- the requests of each input are those below that came by it, with the input in their IDs
pub record AreMerged (route : ℕ → ℕ) (ids : ℕ) (merged : List Addr) (inputs : ℕ → List Addr) : Type 0 where
  pub parts : (input : ℕ) → selected number_of_address (goes_way route input) merged ≡ map (widened ids input) (inputs input)
  pub small : (input : ℕ) → All (λ a. a.id < ids) (inputs input)

-- Write data goes below in order of its addresses, and never before its own; the granted inputs are those of the addresses
-- that lack data.
pub record IsGrantedInOrder (route : ℕ → ℕ) (granted : List ℕ) (aw : List Addr) (w : List WBeat) : Type 0 where
  pub in_order : IsPrefix (map mark_of_data w) (marks (map burst_asked aw))
  pub waiting : granted ≡ map (λ p. route (number_of_waiting p)) (pending_asked (length w) (map burst_asked aw))

-- What holds of a mux: of each input, what has passed is what of it has passed below.
pub record MuxKeeps (schedules : ℕ → Schedule) (s : MuxState) (uppers : Trail) (lower : Beats) : Type 0 where
  pub suits : MuxSuits schedules s.shape
  pub aw : AreMerged suits.write_route (ids_of s.shape) lower.aw (at_input s.shape.uppers (λ link. (uppers link).aw))
  pub ar : AreMerged suits.read_route (ids_of s.shape) lower.ar (at_input s.shape.uppers (λ link. (uppers link).ar))
  pub w : (input : ℕ) → selected number_of_data (goes_way suits.write_route input) lower.w ≡ at_input s.shape.uppers (λ link. (uppers link).w) input
  pub order : IsGrantedInOrder suits.write_route s.granted lower.aw lower.w
  -- its answers are those with the input in their IDs
  pub b : (input : ℕ) →
      at_input s.shape.uppers (λ link. (uppers link).b) input ≡ map (narrowed_b (ids_of s.shape)) (of_key (λ b. b.id / ids_of s.shape) input lower.b)
  pub r : (input : ℕ) →
      at_input s.shape.uppers (λ link. (uppers link).r) input ≡ map (narrowed_r (ids_of s.shape)) (of_key (λ r. r.id / ids_of s.shape) input lower.r)

-- The links of the inputs are alike the one below, but that its IDs are wide enough for those of the inputs with the input
-- in front.
pub record IsSoundMux (forms : ℕ → LinkForm) (shape : MuxShape) : Type 0 where
  pub alike : All (λ link. IsAlike (forms link) (forms shape.lower)) shape.uppers
  pub narrow : All (λ link. (forms link).id_width ≤ shape.width) shape.uppers
  pub wide : ids_of shape * length shape.uppers ≤ 2 ^ (forms shape.lower).id_width

-- a mux; `E` is what other kinds note of their rounds
abbrev pub mux_kind : {E : Type 0} → Kind MuxState E
mux_kind = record {
  uppers = λ s. s.shape.uppers;
  lowers = λ s. s.shape.lower ∷ [];
  begins = IsNewMux;
  fact = IsMux;
  can = λ round links s. CanMux links s.shape;
  table = λ round links s. mux_table links s;
  wants = mux_wants;
  notes = notes_nothing;
  way = λ s. go_on_by (λ share. Some s.shape.lower);
  is_sound = λ forms schedules s. IsSoundMux forms s.shape;
  suits = λ schedules s. MuxSuits schedules s.shape;
  keeps = λ schedules rounds s passed. MuxKeeps schedules s passed.uppers (passed.lowers s.shape.lower);
  knows = knows_nothing;
  is_done = always_done;
  patience = without_delays;
}
