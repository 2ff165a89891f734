-- What a link has to carry is legal on its bus (Arm IHI 0022, transaction structure and write strobes). It follows
-- from the network and the traffic alone.
use Rattle.std.specs.Prelude.{◌≡◌, ◌<◌, ◌+◌, ◌==◌, ℕ, List, IsTrue, All, length, slice_index_or}
use Rattle.std.specs.List.{AllZip}
use Rattle.axi_beats.specs.declared.beat.Addr.{Addr}
use Rattle.axi_beats.specs.declared.beat.WBeat.{WBeat}
use Rattle.axi_history.specs.PortRules.{strobes_within}
use Rattle.axi_trail.specs.Schedule.{Schedule}
use Rattle.burst_address.specs.Lanes.{first_lane, last_lane}
use Rattle.burst_address.specs.Legal.{IsLegal}

-- the write data of a burst: AxLEN + 1 beats, each of which has its strobes on its valid lanes alone; WLAST is on the last one
pub record IsDataOf (bus : ℕ) (burst : Addr) (beats : List WBeat) : Type 0 where
  pub whole : length beats ≡ burst.len + 1
  pub strobes : (n : ℕ) (past : WBeat) → n < length beats →
      IsTrue (strobes_within (first_lane burst n bus) (last_lane burst n bus) (slice_index_or beats n past).strobe)
  pub lasts : (n : ℕ) (past : WBeat) → n < length beats → (slice_index_or beats n past).last ≡ (n == burst.len)

-- each part of each transaction is a legal burst, and each part of a write has its data
pub record IsLegalSchedule (bus : ℕ) (schedule : Schedule) : Type 0 where
  pub writes : (t : ℕ) → All (λ part. IsLegal part bus) (schedule.writes t).parts
  pub reads : (t : ℕ) → All (λ part. IsLegal part bus) (schedule.reads t).parts
  pub write_data : (t : ℕ) → AllZip (IsDataOf bus) (schedule.writes t).parts (schedule.writes t).write_data
