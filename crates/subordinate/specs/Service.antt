-- What tells one subordinate from another: what it does with the single beats of its requests (Arm IHI 0022, data read and
-- write structure, read and write response structure). A beat is told by its request and its number from 0.
use Rattle.std.specs.Prelude.{ℕ, suc, [], ◌∷◌, List}
use Rattle.axi_beats.specs.Response.{worst_of}
use Rattle.axi_beats.specs.declared.beat.Addr.{Addr}
use Rattle.axi_beats.specs.declared.beat.WBeat.{WBeat}
use Rattle.axi_beats.specs.declared.response.Resp.{Resp}
use Rattle.axi_beats.specs.declared.response.Resp.TheVariants.{Okay}

-- `D` is what it keeps of the bytes that are written
pub record Service (D : Type 0) : Type 0 where
  -- the status of a beat of write data, and what is kept after it
  pub data_status : Addr → ℕ → WBeat → Resp
  pub data_kept : Addr → ℕ → WBeat → D → D
  -- the status of a beat of read data, and its 128 lanes
  pub beat_status : Addr → ℕ → Resp
  pub beat_lanes : D → Addr → ℕ → List ℕ

-- the worst status of the data beats of a write, of which the first one is beat n
abbrev pub worst_of_beats : {D : Type 0} → Service D → Addr → ℕ → List WBeat → Resp
worst_of_beats service request n [] = Okay
worst_of_beats service request n (w ∷ beats) = worst_of (service.data_status request n w) (worst_of_beats service request (suc n) beats)
