-- What a slice has passed on its two links, and the slice as a kind of node.
use Rattle.std.specs.Prelude.{◌≡◌, ◌∷◌, [], Some}
use Rattle.axi_trail.specs.Schedule.{Schedule}
use Rattle.axi_trail.specs.Trail.{Beats}
use Rattle.node_shape.specs.Carries.{Carries}
use Rattle.node_shape.specs.Kind.{Kind, always_done, knows_nothing, notes_nothing, without_delays}
use Rattle.node_shape.specs.Way.{go_on_by}
use Rattle.slice_node.specs.SliceState.{SliceState, new_slice}
use Rattle.slice_node.specs.SliceTable.{CanSlice, slice_table, slice_wants}

-- What holds of a slice: the link below carries what the link above does, and what has passed below is what has passed above.
pub record SliceKeeps (above below : Schedule) (upper lower : Beats) : Type 0 where
  pub carries : Carries above below
  pub same : lower ≡ upper

-- a slice between links of one form; `E` is what other kinds note of their rounds
abbrev pub slice_kind : {E : Type 0} → Kind SliceState E
slice_kind = record {
  uppers = λ s. s.upper ∷ [];
  lowers = λ s. s.lower ∷ [];
  begins = λ s. s ≡ new_slice s.upper s.lower;
  fact = λ s. Unit {0};
  can = λ round links s. CanSlice links s;
  table = λ round links s. slice_table links s;
  wants = slice_wants;
  notes = notes_nothing;
  way = λ s. go_on_by (λ share. Some s.lower);
  is_sound = λ forms schedules s. forms s.lower ≡ forms s.upper;
  suits = λ schedules s. Carries (schedules s.upper) (schedules s.lower);
  keeps = λ schedules rounds s passed. SliceKeeps (schedules s.upper) (schedules s.lower) (passed.uppers s.upper) (passed.lowers s.lower);
  knows = knows_nothing;
  is_done = always_done;
  patience = without_delays;
}
