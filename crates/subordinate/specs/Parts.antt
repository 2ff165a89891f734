-- The beats of the requests that a transaction is cut into.
use Rattle.std.specs.Prelude.{ℕ, List, map, flat_map, zip}
use Rattle.std.specs.List.{range_with_len}
use Rattle.axi_beats.specs.declared.beat.Addr.{Addr}
use Rattle.axi_beats.specs.declared.beat.WBeat.{WBeat}
use Rattle.axi_trail.specs.Schedule.{Share}
use Rattle.burst_address.specs.Formulas.{beats_of}

-- a beat of a burst, by its number from 0
pub record BeatOf : Type 0 where
  pub request : Addr
  pub beat : ℕ

-- all beats of the parts of a transaction, in order
abbrev pub beats_of_parts : List Addr → List BeatOf
beats_of_parts parts = flat_map (λ part. map (λ n. record { request = part; beat = n }) (range_with_len 0 (beats_of part))) parts

-- the beats of a write's parts with their data
abbrev pub beats_with_data : Share → List (BeatOf × WBeat)
beats_with_data share = zip (beats_of_parts share.parts) (flat_map (λ beats. beats) share.write_data)
