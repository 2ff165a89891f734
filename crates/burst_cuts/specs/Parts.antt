-- A burst that is cut into single beats: each beat becomes a burst of its own (Arm IHI 0022, burst length and burst address
-- structure).
use Rattle.std.specs.Prelude.{◌∷◌, ◌+◌, [], ℕ, suc, true, List, drop, length, map, nat_lt, take, if◌then◌else◌}
use Rattle.std.specs.List.{range_with_len}
use Rattle.axi_beats.specs.declared.beat.Addr.{Addr}
use Rattle.axi_beats.specs.declared.beat.Burst.TheVariants.{Incr}
use Rattle.axi_beats.specs.declared.beat.WBeat.{WBeat}
use Rattle.axi_beats.specs.declared.response.Resp.{Resp}
use Rattle.burst_address.specs.Formulas.{beat_at}
use Rattle.burst_address.specs.Status.{worst_among}

-- beat n of a request, as a burst of its own at the beat's address; of one beat, so that INCR says nothing more
abbrev pub part_of : Addr → ℕ → Addr
part_of a n = record { id = a.id; addr = beat_at a n; len = 0; size = a.size; burst = Incr; tag = a.tag }

-- a part for each beat
abbrev pub parts_of : Addr → List Addr
parts_of a = map (part_of a) (range_with_len 0 (suc a.len))

-- a beat of write data as the last one of its burst
abbrev pub as_last : WBeat → WBeat
as_last w = record { lanes = w.lanes; strobe = w.strobe; last = true; tag = w.tag }

-- as the only one
abbrev pub data_of_part : WBeat → List WBeat
data_of_part w = as_last w ∷ []

abbrev pub len_of_burst : Addr → ℕ
len_of_burst a = a.len

-- The worst response of each group of responses, one group after the other; `lens` tells of each group how many come after
-- its first one. A group that isn't whole has none.
abbrev pub worst_of_groups : List ℕ → List Resp → List Resp
worst_of_groups [] rs = []
worst_of_groups (len ∷ lens) rs =
    if nat_lt len (length rs) then worst_among (take (suc len) rs) ∷ worst_of_groups lens (drop (suc len) rs) else []

-- how many responses all groups have
abbrev pub responses_due : List ℕ → ℕ
responses_due [] = 0
responses_due (len ∷ lens) = suc len + responses_due lens
