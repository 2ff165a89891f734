-- What a beat reads and writes at a memory, and the status of its bytes (Arm IHI 0022, data read and write structure, read
-- and write response structure).
use Rattle.std.specs.Prelude.{ℕ, List, map, filter, fold, if◌then◌else◌}
use Rattle.std.specs.List.{range_with_len}
use Rattle.axi_beats.specs.declared.beat.Addr.{Addr}
use Rattle.axi_beats.specs.declared.beat.WBeat.{WBeat}
use Rattle.axi_beats.specs.declared.response.Resp.{Resp}
use Rattle.burst_address.specs.Bytes.{Byte}
use Rattle.burst_address.specs.Lanes.{is_valid, lane_address, lane_bytes, strobed_lanes, word_address}
use Rattle.burst_address.specs.Status.{worst_of_strobed, worst_of_valid}
use Rattle.memory_node.specs.MemoryArea.{MemoryArea}
use Rattle.memory_node.specs.Status.{may_read, may_write, read_status, write_status}
use Rattle.memory_node.specs.Store.{Store, byte_at, with_byte}

-- the worst status of the bytes that a W beat strobes
abbrev pub strobed_status : MemoryArea → Addr → ℕ → WBeat → Resp
strobed_status area request beat w = worst_of_strobed (write_status area) request beat area.bus w

-- the bytes that a W beat writes, lanes upwards: those that are strobed and have the status OKAY
abbrev pub stored_bytes : MemoryArea → Addr → ℕ → WBeat → List Byte
stored_bytes area request beat w =
    lane_bytes (word_address request beat area.bus) w
    (filter (λ lane. may_write area (lane_address request beat area.bus lane)) (strobed_lanes area.bus w))

-- the store after bytes are written, one after the other
abbrev pub with_bytes : Store → List Byte → Store
with_bytes store bytes = fold (λ s byte. with_byte s byte.address byte.value) store bytes

-- the worst status of the valid bytes of an R beat
abbrev pub valid_status : MemoryArea → Addr → ℕ → Resp
valid_status area request beat = worst_of_valid (read_status area) request beat area.bus

-- what an R beat answers for a byte: 0 where its status isn't OKAY
abbrev pub answered_byte : MemoryArea → Store → ℕ → ℕ
answered_byte area store address = if may_read area address then byte_at store address else 0

-- the 128 lanes of an R beat: 0 on those that aren't valid
abbrev pub answered_lanes : MemoryArea → Store → Addr → ℕ → List ℕ
answered_lanes area store request beat =
    map (λ lane. if is_valid request beat area.bus lane then answered_byte area store (lane_address request beat area.bus lane) else 0)
    (range_with_len 0 128)
