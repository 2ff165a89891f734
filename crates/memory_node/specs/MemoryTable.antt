-- What a memory does in a round (Arm IHI 0022, relationships between the channels): what all subordinates do, with its own
-- bytes and their status.
use Rattle.std.specs.Prelude.{◌<◌, ◌^◌, List, Bool, length, IfSome}
use Rattle.axi_link.specs.LinkView.{LinkView}
use Rattle.axi_link.specs.LinkWords.{head_of, link_of}
use Rattle.axi_link.specs.declared.out.Out.{Out}
use Rattle.memory_node.specs.Beats.{answered_lanes, stored_bytes, strobed_status, valid_status, with_bytes}
use Rattle.memory_node.specs.MemoryArea.{MemoryArea}
use Rattle.memory_node.specs.MemoryState.{AreLinesAmong, IsRequest, MemoryState}
use Rattle.memory_node.specs.Store.{Store}
use Rattle.node_core.specs.Acted.{Acted}
use Rattle.node_core.specs.Paces.{any_row}
use Rattle.subordinate.specs.Service.{Service}
use Rattle.subordinate.specs.SubordinateTable.{its_wishes, served, serves}

-- a W beat writes its strobed bytes that may be written, and an R beat reads its valid bytes that may be read; the status of
-- each is the worst one of these bytes
abbrev pub memory_service : MemoryArea → Service Store
memory_service area = record {
  data_status = strobed_status area;
  data_kept = λ request beat w store. with_bytes store (stored_bytes area request beat w);
  beat_status = valid_status area;
  beat_lanes = answered_lanes area;
}

module _ (links : List LinkView) (s : MemoryState) where
  -- the takes and puts of the round
  abbrev pub memory_out : Out
  memory_out = serves (memory_service s.area) links s.inner

  -- the state after the round
  abbrev pub memory_next : MemoryState
  memory_next = record { area = s.area; inner = served (memory_service s.area) links s.inner }

  -- what the memory does in a round
  abbrev pub memory_table : Acted MemoryState
  memory_table = record { state = memory_next; out = memory_out }

  -- some row's condition holds
  abbrev pub memory_wants : Bool
  memory_wants = any_row (its_wishes (memory_service s.area) links s.inner)

-- its link is there and offers what may come to it: requests for legal bursts, writes on lines that it keeps, and strobes on
-- lanes of its bus
pub record CanMemory (links : List LinkView) (s : MemoryState) : Type 0 where
  pub upper : s.inner.upper < length links
  pub aw : IfSome (head_of (link_of links s.inner.upper).aw) (IsRequest s.area.bus)
  pub aw_lines : IfSome (head_of (link_of links s.inner.upper).aw) (AreLinesAmong s.area s.inner.kept.lines)
  pub ar : IfSome (head_of (link_of links s.inner.upper).ar) (IsRequest s.area.bus)
  pub strobe : IfSome (head_of (link_of links s.inner.upper).w) (λ w. w.strobe < 2 ^ s.area.bus)
