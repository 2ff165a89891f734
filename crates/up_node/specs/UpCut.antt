-- What an up converter makes of transactions (Arm IHI 0022, narrow transfers): the requests go on as they are, and the data of
-- each beat is moved to its lanes on the wide bus.
use Rattle.std.specs.Prelude.{ℕ, List, flat_map, map, zip}
use Rattle.std.specs.List.{range_with_len}
use Rattle.axi_beats.specs.declared.beat.Addr.{Addr}
use Rattle.axi_beats.specs.declared.beat.WBeat.{WBeat}
use Rattle.axi_trail.specs.Schedule.{Share}
use Rattle.burst_address.specs.Formulas.{beats_of}
use Rattle.up_node.specs.UpBeats.{beat_shift, beat_widened, span_widened}
use Rattle.up_node.specs.declared.shape.UpShape.{UpShape}

-- the shifts of all beats of a request, and of requests
abbrev pub beat_shifts : UpShape → Addr → List ℕ
beat_shifts shape request = map (beat_shift shape request) (range_with_len 0 (beats_of request))

abbrev pub all_shifts : UpShape → List Addr → List ℕ
all_shifts shape parts = flat_map (beat_shifts shape) parts

-- each moved by its shift
abbrev pub moved_each : {X : Type 0} → (ℕ → X → X) → List ℕ → List X → List X
moved_each moved shifts xs = map (λ p. moved p.0 p.1) (zip shifts xs)

-- the data of each part on the wide bus
abbrev pub data_widened : UpShape → List Addr → List (List WBeat) → List (List WBeat)
data_widened shape parts data_of = map (λ (p : Addr × List WBeat). moved_each (beat_widened shape) (beat_shifts shape p.0) p.1) (zip parts data_of)

abbrev pub share_widened : UpShape → Share → Share
share_widened shape share = record {
  parts = share.parts;
  write_data = data_widened shape share.parts share.write_data;
  lanes = moved_each span_widened (all_shifts shape share.parts) share.lanes;
  responses = share.responses;
  chain = share.chain;
}
