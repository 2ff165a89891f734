-- The response that several bytes make together, where each byte has a status of its own (Arm IHI 0022, read and write
-- response structure).
use Rattle.std.specs.Prelude.{ℕ, suc, ◌∷◌, [], List, map}
use Rattle.axi_beats.specs.Response.{worst_of}
use Rattle.axi_beats.specs.declared.beat.Addr.{Addr}
use Rattle.axi_beats.specs.declared.beat.WBeat.{WBeat}
use Rattle.axi_beats.specs.declared.response.Resp.{Resp}
use Rattle.axi_beats.specs.declared.response.Resp.TheVariants.{Okay}
use Rattle.burst_address.specs.Lanes.{lane_address, strobed_lanes, valid_lanes}

-- the worst of several responses, OKAY where there is none
abbrev pub worst_among : List Resp → Resp
worst_among [] = Okay
worst_among (r ∷ rs) = worst_of r (worst_among rs)

-- where a byte's status is that of its address
module _ (status_at : ℕ → Resp) where
  -- the worst status of the valid bytes of a beat on a bus
  abbrev pub worst_of_valid : Addr → ℕ → ℕ → Resp
  worst_of_valid request beat bus = worst_among (map (λ lane. status_at (lane_address request beat bus lane)) (valid_lanes request beat bus))

  -- the worst status of the bytes that a W beat strobes
  abbrev pub worst_of_strobed : Addr → ℕ → ℕ → WBeat → Resp
  worst_of_strobed request beat bus w = worst_among (map (λ lane. status_at (lane_address request beat bus lane)) (strobed_lanes bus w))

  -- the worst status of the bytes that W beats strobe, of which the first one is beat n
  abbrev pub worst_of_data : Addr → ℕ → ℕ → List WBeat → Resp
  worst_of_data request n bus [] = Okay
  worst_of_data request n bus (w ∷ more) = worst_of (worst_of_strobed request n bus w) (worst_of_data request (suc n) bus more)
