-- What an error subordinate has passed on its link, and it as a kind of node.
use Rattle.std.specs.Prelude.{◌≡◌, ◌∷◌, [], ℕ, suc, All, false, length, replicate}
use Rattle.axi_beats.specs.declared.beat.RBeat.{RBeat}
use Rattle.axi_trail.specs.Schedule.{Progress, Schedule, bytes_on}
use Rattle.axi_trail.specs.Trail.{Beats}
use Rattle.axi_trail.specs.Words.{number_of_data, number_of_read_data}
use Rattle.error_node.specs.ErrorState.{ErrorState, IsError, new_error}
use Rattle.error_node.specs.ErrorTable.{CanError, error_service, error_table, error_wants}
use Rattle.node_core.specs.Paces.{longest_delay}
use Rattle.node_shape.specs.Kind.{Kind, Passed, always_done, notes_nothing}
use Rattle.node_shape.specs.Way.{end_here}
use Rattle.plain_lists.specs.Keys.{of_key}
use Rattle.subordinate.specs.Tracks.{KeepsOrder, SuitsService, ends_with, is_written}

-- What holds of an error subordinate over its trail.
pub record ErrorKeeps (schedule : Schedule) (s : ErrorState) (trail : Beats) : Type 0 where
  pub suits : (t : ℕ) → SuitsService error_service (schedule.writes t) (schedule.reads t)
  pub order : KeepsOrder error_service schedule s trail
  -- all that it has answered is 0
  pub zeros : All (λ (r : RBeat). r.lanes ≡ replicate 128 0) trail.r

-- It knows of a write that its data has all come, and of a read the bytes that it has answered.
abbrev pub error_knows : {E : Type 0} → (ℕ → Schedule) → ErrorState → Passed E → Progress
error_knows schedules s passed = record {
  issued = λ t. false;
  written = λ t. is_written ((schedules s.upper).writes t) (length (of_key number_of_data t (passed.uppers s.upper).w));
  filled = λ t. bytes_on (of_key number_of_read_data t (passed.uppers s.upper).r) ((schedules s.upper).reads t).lanes;
}

-- an error subordinate at the end of a link of any form; `E` is what other kinds note of their rounds
abbrev pub error_kind : {E : Type 0} → Kind ErrorState E
error_kind = record {
  uppers = λ s. s.upper ∷ [];
  lowers = λ s. [];
  begins = λ s. s ≡ new_error s.upper;
  fact = IsError;
  can = λ round links s. CanError links s;
  table = λ round links s. error_table links s;
  wants = error_wants;
  notes = notes_nothing;
  way = λ s. end_here (ends_with error_service);
  is_sound = λ forms schedules s. Unit {0};
  suits = λ schedules s. (t : ℕ) → SuitsService error_service ((schedules s.upper).writes t) ((schedules s.upper).reads t);
  keeps = λ schedules rounds s passed. ErrorKeeps (schedules s.upper) s (passed.uppers s.upper);
  knows = error_knows;
  is_done = always_done;
  patience = λ s. suc (longest_delay s.paces);
}
