-- The beats that a manager puts, and the bytes that it reads (Arm IHI 0022, write strobes and byte lanes).
use Rattle.std.specs.Prelude.{◌+◌, ◌*◌, ◌-◌, ◌^◌, ◌==◌, ◌++◌, ◌∷◌, [], ℕ, List, Option, Some, None}
use Rattle.std.specs.Prelude.{drop, length, map, replicate, slice_range, take, if◌then◌else◌}
use Rattle.std.specs.List.{range_with_len}
use Rattle.axi_beats.specs.declared.beat.Addr.{Addr}
use Rattle.axi_beats.specs.declared.beat.Tag.{Tag}
use Rattle.axi_beats.specs.declared.beat.WBeat.{WBeat}
use Rattle.burst_address.specs.Bytes.{beat_bytes, bytes_before}
use Rattle.burst_address.specs.Formulas.{beats_of}
use Rattle.burst_address.specs.Lanes.{first_lane, last_lane}
use Rattle.manager_node.specs.Script.{ScriptItem}
use Rattle.manager_node.specs.declared.script.WriteByte.{WriteByte}

-- the tag of a transaction's beats: its number, and no lanes
abbrev pub item_tag : ScriptItem → Tag
item_tag item = record { txn = item.txn.number; low = 0; high = 0 }

-- the request of a transaction
abbrev pub item_request : ScriptItem → Addr
item_request item = record item.txn.request { tag = item_tag item }

-- what is on a byte's lane: its value, and 0 for a byte without a strobe
abbrev pub lane_of : WriteByte → ℕ
lane_of byte = if byte.strobed then byte.value else 0

-- what a script says of a byte: its value, where its strobe is set
abbrev pub strobed_value : WriteByte → Option ℕ
strobed_value byte = if byte.strobed then Some byte.value else None

-- the strobes of bytes from lane 0 upwards: bit n for lane n
abbrev pub strobe_of : List WriteByte → ℕ
strobe_of [] = 0
strobe_of (byte ∷ bytes) = (if byte.strobed then 1 else 0) + 2 * strobe_of bytes

-- the 128 lanes: the bytes from a lane upwards, and 0 on all others
abbrev pub lanes_from : ℕ → List WriteByte → List ℕ
lanes_from low bytes = replicate low 0 ++ (map lane_of bytes ++ replicate (128 - low - length bytes) 0)

-- the bytes that a write sends with beat n: as many as the beat has valid ones, after those of the beats before it
abbrev pub beat_data : ScriptItem → ℕ → List WriteByte
beat_data item n = take (length (beat_bytes item.txn.request n)) (drop (length (bytes_before item.txn.request n)) item.bytes)

-- beat n of a write's data on a bus: its bytes on the valid lanes, with their strobes, and `last` on the last beat
abbrev pub data_beat : ScriptItem → ℕ → ℕ → WBeat
data_beat item bus n = record {
  lanes = lanes_from (first_lane item.txn.request n bus) (beat_data item n);
  strobe = strobe_of (beat_data item n) * 2 ^ first_lane item.txn.request n bus;
  last = n == item.txn.request.len;
  tag = item_tag item;
}

-- all data beats of a write on a bus
abbrev pub data_beats : ScriptItem → ℕ → List WBeat
data_beats item bus = map (data_beat item bus) (range_with_len 0 (beats_of item.txn.request))

-- of the bytes on all lanes, those on the valid lanes of beat n of a read
abbrev pub bytes_on_valid_lanes : ℕ → Addr → ℕ → List ℕ → List ℕ
bytes_on_valid_lanes bus request n lanes = slice_range lanes (first_lane request n bus) (last_lane request n bus + 1)
