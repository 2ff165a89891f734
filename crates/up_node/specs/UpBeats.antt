-- A beat on the narrow and on the wide bus: its bytes stand on other lanes (Arm IHI 0022, narrow transfers, write strobes).
use Rattle.std.specs.Prelude.{◌+◌, ◌-◌, ◌*◌, ◌%◌, ◌^◌, ◌&&◌, ℕ, List, map, nat_le, nat_lt, slice_index, if◌then◌else◌}
use Rattle.std.specs.List.{range_with_len}
use Rattle.axi_beats.specs.Lanes.{Span}
use Rattle.axi_beats.specs.declared.beat.Addr.{Addr}
use Rattle.axi_beats.specs.declared.beat.RBeat.{RBeat}
use Rattle.axi_beats.specs.declared.beat.WBeat.{WBeat}
use Rattle.burst_address.specs.Formulas.{beat_at}
use Rattle.burst_address.specs.Lanes.{lane_shift}
use Rattle.up_node.specs.declared.shape.UpShape.{UpShape}

-- the wide lane on which narrow lane 0 of a beat stands
abbrev pub beat_shift : UpShape → Addr → ℕ → ℕ
beat_shift shape request beat = lane_shift shape.narrow shape.wide (beat_at request beat)

-- so many lanes from one lane on, moved to stand from another one on; all other lanes are 0
abbrev pub moved_lanes : ℕ → ℕ → ℕ → List ℕ → List ℕ
moved_lanes count from to lanes =
    map (λ lane. if nat_le to lane && nat_lt lane (to + count) then slice_index lanes (from + (lane - to)) else 0) (range_with_len 0 128)

-- a beat of write data on the wide bus; strobes beyond the narrow bus are dropped
abbrev pub beat_widened : UpShape → ℕ → WBeat → WBeat
beat_widened shape shift w = record {
  strobe = w.strobe % 2 ^ shape.narrow * 2 ^ shift;
  last = w.last;
  tag = w.tag;
  lanes = moved_lanes shape.narrow 0 shift w.lanes;
}

-- a beat of read data on the narrow bus
abbrev pub beat_narrowed : UpShape → ℕ → RBeat → RBeat
beat_narrowed shape shift r = record {
  id = r.id;
  resp = r.resp;
  last = r.last;
  tag = r.tag;
  lanes = moved_lanes shape.narrow shift 0 r.lanes;
}

-- lanes of the narrow bus, as they stand on the wide one
abbrev pub span_widened : ℕ → Span → Span
span_widened shift span = record { low = span.low + shift; high = span.high + shift }
