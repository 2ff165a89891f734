-- What a Lite memory does in a round (Arm IHI 0022, AXI4-Lite): what a memory does. A request is there for a whole word, so
-- that its answer has all lanes of the word; but read are only the lanes that the request's tag names.
use Rattle.std.specs.Prelude.{List, Bool}
use Rattle.axi_beats.specs.Lanes.{Span}
use Rattle.axi_link.specs.LinkView.{LinkView}
use Rattle.memory_node.specs.Events.{Access, events_on}
use Rattle.memory_node.specs.MemoryState.{MemoryState}
use Rattle.memory_node.specs.MemoryTable.{memory_table, memory_wants}
use Rattle.node_core.specs.Acted.{Acted}
use Rattle.subordinate.specs.Parts.{BeatOf}

-- the lanes that are wanted of a beat
abbrev pub tag_span : BeatOf → Span
tag_span b = record { low = b.request.tag.low; high = b.request.tag.high }

module _ (links : List LinkView) (s : MemoryState) where
  -- what it does in a round
  abbrev pub lite_memory_table : Acted MemoryState
  lite_memory_table = memory_table links s

  -- some row's condition holds
  abbrev pub lite_memory_wants : Bool
  lite_memory_wants = memory_wants links s

  -- the accesses of a round
  abbrev pub lite_memory_events : List Access
  lite_memory_events = events_on tag_span links s
