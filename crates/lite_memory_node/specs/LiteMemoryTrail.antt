-- A Lite memory in the light of what has passed on its link, and the Lite memory as a kind of node.
use Rattle.std.specs.Prelude.{◌≡◌, ◌<◌, ◌^◌, ◌∷◌, [], ℕ, suc, List, All, flat_map, map, true}
use Rattle.axi_beats.specs.declared.beat.WBeat.{WBeat}
use Rattle.axi_trail.specs.Schedule.{Schedule}
use Rattle.axi_trail.specs.Trail.{Beats}
use Rattle.lite_memory_node.specs.LiteMemoryTable.{lite_memory_events, lite_memory_table, lite_memory_wants, tag_span}
use Rattle.memory_node.specs.Events.{Access}
use Rattle.memory_node.specs.MemoryArea.{MemoryArea}
use Rattle.memory_node.specs.MemoryState.{AreLinesAmong, IsMemory, IsRequest, MemoryState}
use Rattle.memory_node.specs.MemoryTable.{CanMemory, memory_service}
use Rattle.memory_node.specs.MemoryTrail.{AnswersInOrder, BeginsMemory, HasAccessedOn, knows_on}
use Rattle.node_core.specs.Paces.{longest_delay}
use Rattle.node_shape.specs.Kind.{Kind, always_done}
use Rattle.node_shape.specs.LinkForm.{IsSingle, IsWordRequest, LinkForm}
use Rattle.node_shape.specs.Way.{end_here}
use Rattle.subordinate.specs.Parts.{beats_of_parts}
use Rattle.subordinate.specs.Tracks.{KeepsOrder, SuitsService, ends_with}

-- What is due of each transaction suits a Lite memory that keeps these lines: it can do the requests, its reads are for whole
-- words, and the lanes of read data are those that their tags name; the rest is as at a memory.
pub record SuitsLiteMemory (area : MemoryArea) (lines : List ℕ) (schedule : Schedule) : Type 0 where
  pub service : (t : ℕ) → SuitsService (memory_service area) (schedule.writes t) (schedule.reads t)
  pub lanes : (t : ℕ) → (schedule.reads t).lanes ≡ map tag_span (beats_of_parts (schedule.reads t).parts)
  pub words : (t : ℕ) → All (IsWordRequest area.bus) (schedule.reads t).parts
  pub single : (t : ℕ) → All IsSingle (schedule.reads t).parts
  pub writes : (t : ℕ) → All (IsRequest area.bus) (schedule.writes t).parts
  pub lines_kept : (t : ℕ) → All (AreLinesAmong area lines) (schedule.writes t).parts
  pub reads : (t : ℕ) → All (IsRequest area.bus) (schedule.reads t).parts
  pub strobes : (t : ℕ) → All (λ (w : WBeat). w.strobe < 2 ^ area.bus) (flat_map (λ beats. beats) (schedule.writes t).write_data)

-- What holds of a Lite memory over its trail and its accesses.
pub record LiteMemoryKeeps (schedule : Schedule) (s : MemoryState) (trail : Beats) (all : List Access) : Type 0 where
  pub suits : SuitsLiteMemory s.area s.inner.kept.lines schedule
  pub order : KeepsOrder (memory_service s.area) schedule s.inner trail
  pub reads : AnswersInOrder s.inner.reads trail.ar trail.r
  pub accessed : HasAccessedOn tag_span schedule s.area s.inner.kept trail.w trail.r all

-- its link is an AXI4-Lite link of its bus, and carries writes on lines that it keeps
pub record IsSoundLiteMemory (forms : ℕ → LinkForm) (schedules : ℕ → Schedule) (s : MemoryState) : Type 0 where
  pub lite : (forms s.inner.upper).lite ≡ true
  pub single : (forms s.inner.upper).single ≡ true
  pub bus : (forms s.inner.upper).bus ≡ s.area.bus
  pub lines : (t : ℕ) → All (AreLinesAmong s.area s.inner.kept.lines) ((schedules s.inner.upper).writes t).parts

-- a Lite memory at the end of a link, which notes its accesses
abbrev pub lite_memory_kind : Kind MemoryState Access
lite_memory_kind = record {
  uppers = λ s. s.inner.upper ∷ [];
  lowers = λ s. [];
  begins = BeginsMemory;
  fact = IsMemory;
  can = λ round links s. CanMemory links s;
  table = λ round links s. lite_memory_table links s;
  wants = lite_memory_wants;
  notes = lite_memory_events;
  way = λ s. end_here (ends_with (memory_service s.area));
  is_sound = IsSoundLiteMemory;
  suits = λ schedules s. SuitsLiteMemory s.area s.inner.kept.lines (schedules s.inner.upper);
  keeps = λ schedules rounds s passed. LiteMemoryKeeps (schedules s.inner.upper) s (passed.uppers s.inner.upper) passed.noted;
  knows = λ schedules s passed. knows_on (λ area. tag_span) schedules s passed;
  is_done = always_done;
  patience = λ s. suc (longest_delay s.inner.paces);
}
