-- What the beats of a read read at a memory, where `wanted` tells the lanes that are wanted of a beat (Arm IHI 0022, data read
-- and write structure).
use Rattle.std.specs.Prelude.{◌+◌, ◌-◌, ℕ, List, Bool, map, filter, flat_map, take}
use Rattle.std.specs.List.{range_with_len}
use Rattle.axi_beats.specs.Lanes.{Span}
use Rattle.axi_trail.specs.Schedule.{Share}
use Rattle.burst_address.specs.Bytes.{Byte}
use Rattle.burst_address.specs.Lanes.{lane_address}
use Rattle.memory_node.specs.MemoryArea.{MemoryArea}
use Rattle.memory_node.specs.Status.{may_read}
use Rattle.memory_node.specs.Store.{Store, byte_at}
use Rattle.subordinate.specs.Parts.{BeatOf, beats_of_parts}

-- the numbers of the lanes of a span, upwards
abbrev pub lanes_of_span : Span → List ℕ
lanes_of_span span = range_with_len span.low (span.high - span.low + 1)

module _ (area : MemoryArea) (wanted : BeatOf → Span) where
  -- the lanes of a beat whose bytes are read: those that are wanted and may be read
  abbrev pub lanes_read : BeatOf → List ℕ
  lanes_read b = filter (λ lane. may_read area (lane_address b.request b.beat area.bus lane)) (lanes_of_span (wanted b))

  -- their bytes
  abbrev pub wanted_reads : Store → BeatOf → List Byte
  wanted_reads store b =
      map (λ lane. record { address = lane_address b.request b.beat area.bus lane; value = byte_at store (lane_address b.request b.beat area.bus lane) }) (lanes_read b)

  -- and the addresses of these
  abbrev pub wanted_addresses : BeatOf → List ℕ
  wanted_addresses b = map (λ lane. lane_address b.request b.beat area.bus lane) (lanes_read b)

  -- a wanted byte may be read, for the bytes of a beat in order
  abbrev pub wanted_allowed : BeatOf → List Bool
  wanted_allowed b = map (λ lane. may_read area (lane_address b.request b.beat area.bus lane)) (lanes_of_span (wanted b))

  -- the addresses that the first beats of a read read
  abbrev pub wanted_due : Share → ℕ → List ℕ
  wanted_due share count = flat_map wanted_addresses (take count (beats_of_parts share.parts))

  -- whether each wanted byte of the first beats of a read may be read
  abbrev pub wanted_before : Share → ℕ → List Bool
  wanted_before share count = flat_map wanted_allowed (take count (beats_of_parts share.parts))
