-- What an up converter has passed on its two links, what its state has to do with it, and the converter as a kind of node.
use Rattle.std.specs.Prelude.{◌≡◌, ◌<◌, ◌∷◌, [], ℕ, List, Some, All, false, length, map}
use Rattle.axi_beats.specs.Lanes.{Span}
use Rattle.axi_beats.specs.declared.beat.RBeat.{RBeat}
use Rattle.axi_beats.specs.declared.beat.WBeat.{WBeat}
use Rattle.axi_trail.specs.Schedule.{SameChain, Schedule, Share}
use Rattle.axi_trail.specs.Trail.{Beats}
use Rattle.axi_trail.specs.Waiting.{held, pending}
use Rattle.axi_trail.specs.Words.{announced_marks, data_marks, id_of_address, number_of_data, number_of_read_data}
use Rattle.burst_address.specs.Formulas.{beats_of}
use Rattle.burst_cuts.specs.Parts.{len_of_burst}
use Rattle.node_shape.specs.Kind.{Kind, always_done, knows_nothing, notes_nothing, without_delays}
use Rattle.node_shape.specs.LinkForm.{LinkForm}
use Rattle.node_shape.specs.Way.{Way}
use Rattle.plain_lists.specs.Keys.{of_key}
use Rattle.plain_lists.specs.Prefixes.{IsPrefix}
use Rattle.up_node.specs.UpBeats.{beat_narrowed, beat_widened}
use Rattle.up_node.specs.UpCut.{all_shifts, moved_each, share_widened}
use Rattle.up_node.specs.UpState.{IsBurstOn, IsUp, IsUpShape, UpState, new_up}
use Rattle.up_node.specs.UpTable.{CanUp, up_table, up_wants}
use Rattle.up_node.specs.declared.shape.UpShape.{UpShape}

-- A transaction goes on with its data moved; its requests are for legal bursts on the narrow bus, and the lanes that it
-- wants are lanes of that bus.
pub record IsWidened (shape : UpShape) (above below : Share) : Type 0 where
  pub parts : below.parts ≡ above.parts
  pub write_data : below.write_data ≡ (share_widened shape above).write_data
  pub lanes : below.lanes ≡ (share_widened shape above).lanes
  pub responses : below.responses ≡ above.responses
  pub bursts : All (IsBurstOn shape.narrow) above.parts
  pub on_bus : All (λ (span : Span). span.high < shape.narrow) above.lanes

-- The link below carries each transaction of the link above, with its data moved, and what is one chain below came by one
-- chain above. Each part of a write has its data.
pub record Widens (shape : UpShape) (above below : Schedule) : Type 0 where
  pub id_width : below.id_width ≡ above.id_width
  pub writes : (t : ℕ) → IsWidened shape (above.writes t) (below.writes t)
  pub reads : (t : ℕ) → IsWidened shape (above.reads t) (below.reads t)
  pub write_chains : (t u : ℕ) → SameChain below.writes t u → SameChain above.writes t u
  pub read_chains : (t u : ℕ) → SameChain below.reads t u → SameChain above.reads t u
  pub whole : (t : ℕ) → map (λ (beats : List WBeat). length beats) (above.writes t).write_data ≡ map beats_of (above.writes t).parts

-- a beat of read data without its bytes
abbrev pub without_lanes : RBeat → RBeat
without_lanes r = record r { lanes = [] }

-- What holds of an up converter over what it has passed.
pub record UpKeeps (above below : Schedule) (s : UpState) (upper lower : Beats) : Type 0 where
  pub widens : Widens s.shape above below
  -- requests and responses have gone on as they were
  pub aw : lower.aw ≡ upper.aw
  pub ar : lower.ar ≡ upper.ar
  pub b : upper.b ≡ lower.b
  -- and so have beats of data, in their order, but for their lanes
  pub marks : data_marks lower ≡ data_marks upper
  pub answers : map without_lanes upper.r ≡ map without_lanes lower.r
  -- those of a transaction were moved by the shifts of its beats
  pub moved_data : (t : ℕ) → of_key number_of_data t lower.w ≡ moved_each (beat_widened s.shape) (all_shifts s.shape (above.writes t).parts) (of_key number_of_data t upper.w)
  pub moved_read_data :
      (t : ℕ) → of_key number_of_read_data t upper.r ≡ moved_each (beat_narrowed s.shape) (all_shifts s.shape (above.reads t).parts) (of_key number_of_read_data t lower.r)
  pub lanes_are_whole : All (λ (r : RBeat). length r.lanes ≡ 128) upper.r
  -- the entries are the writes that lack data, none of which has gone before its address, and the reads that lack answers
  pub in_order : IsPrefix (data_marks upper) (announced_marks upper)
  pub pending_writes : s.writes ≡ pending len_of_burst (length upper.w) upper.aw
  pub held_reads : s.reads ≡ held len_of_burst id_of_address upper.ar (map (λ (r : RBeat). r.id) upper.r)

-- a new converter of a shape that it can have
pub record IsNewUp (s : UpState) : Type 0 where
  pub shape : IsUpShape s.shape
  pub new : s ≡ new_up s.shape

-- the same form on a bus of another width
abbrev pub on_wider : ℕ → LinkForm → LinkForm
on_wider bus form = record { lite = form.lite; bus = bus; id_width = form.id_width; single = form.single }

-- its links are AXI4 links of its two buses, and else alike
pub record IsSoundUp (forms : ℕ → LinkForm) (shape : UpShape) : Type 0 where
  pub full : (forms shape.upper).lite ≡ false
  pub narrow : (forms shape.upper).bus ≡ shape.narrow
  pub below : forms shape.lower ≡ on_wider shape.wide (forms shape.upper)

-- each transaction goes on with its data moved
abbrev pub up_way : UpShape → Way
up_way shape = record {
  origins = [];
  goes_on = λ share. Some shape.lower;
  cut = share_widened shape;
  merged = λ write share responses. responses;
  ends = λ write share. [];
}

-- an up converter between its links; `E` is what other kinds note of their rounds
abbrev pub up_kind : {E : Type 0} → Kind UpState E
up_kind = record {
  uppers = λ s. s.shape.upper ∷ [];
  lowers = λ s. s.shape.lower ∷ [];
  begins = IsNewUp;
  fact = IsUp;
  can = λ round links s. CanUp links s;
  table = λ round links s. up_table links s;
  wants = up_wants;
  notes = notes_nothing;
  way = λ s. up_way s.shape;
  is_sound = λ forms schedules s. IsSoundUp forms s.shape;
  suits = λ schedules s. Widens s.shape (schedules s.shape.upper) (schedules s.shape.lower);
  keeps = λ schedules rounds s passed. UpKeeps (schedules s.shape.upper) (schedules s.shape.lower) s (passed.uppers s.shape.upper) (passed.lowers s.shape.lower);
  knows = knows_nothing;
  is_done = always_done;
  patience = without_delays;
}
