-- The data beats of a write carry what its script says of its bytes (Arm IHI 0022, write strobes and byte lanes).
use Rattle.std.specs.Prelude.{◌≡◌, ◌<◌, ◌≤◌, ◌+◌, ◌%◌, ◌^◌, ℕ, length, map}
use Rattle.std.specs.Int.{bit_at}
use Rattle.axi_beats.specs.Bus.{IsBusWidth}
use Rattle.burst_address.specs.Bytes.{burst_bytes, bytes_with, written_bytes}
use Rattle.burst_address.specs.Formulas.{beats_of}
use Rattle.burst_address.specs.Legal.{IsLegal}
use Rattle.burst_address.specs.Lanes.{last_lane, first_lane}
use Rattle.manager_node.specs.Beats.{data_beat, data_beats, strobed_value}
use Rattle.manager_node.specs.Script.{ScriptItem}

-- a transaction of a legal burst on a bus that sends a byte for each valid byte of the burst
pub record SendsItsBytes (bus : ℕ) (item : ScriptItem) : Type 0 where
  pub width : IsBusWidth bus
  pub legal : IsLegal item.txn.request bus
  pub sent : length item.bytes ≡ length (burst_bytes item.txn.request)

-- its data beats write the bytes that the script strobes, each at its address and in burst order
abbrev pub DataWritesItsBytes : Type 0
DataWritesItsBytes =
    (item : ScriptItem) (bus : ℕ) → SendsItsBytes bus item →
    written_bytes bus item.txn.request (data_beats item bus) ≡ bytes_with (burst_bytes item.txn.request) (map strobed_value item.bytes)

-- the strobes of each beat stand between its lowest and its highest valid lane
abbrev pub DataStrobesAreWithin : Type 0
DataStrobesAreWithin =
    (item : ScriptItem) (bus n : ℕ) → SendsItsBytes bus item → n < beats_of item.txn.request →
    ((data_beat item bus n).strobe % 2 ^ first_lane item.txn.request n bus ≡ 0)
    × ((data_beat item bus n).strobe < 2 ^ (last_lane item.txn.request n bus + 1))

-- so a strobe that is set is that of a valid lane
abbrev pub DataStrobesValidLanes : Type 0
DataStrobesValidLanes =
    (item : ScriptItem) (bus n lane : ℕ) → SendsItsBytes bus item → n < beats_of item.txn.request →
    bit_at (data_beat item bus n).strobe lane ≡ 1 →
    (first_lane item.txn.request n bus ≤ lane) × (lane ≤ last_lane item.txn.request n bus)
