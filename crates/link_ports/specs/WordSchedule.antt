-- What an AXI4-Lite link has to carry is words alone (Arm IHI 0022, AXI4-Lite: no IDs, one beat for each access, all
-- accesses as wide as the bus). It follows from the network and the traffic alone.
use Rattle.std.specs.Prelude.{◌≡◌, ℕ, All}
use Rattle.axi_beats.specs.declared.beat.Addr.{Addr}
use Rattle.axi_trail.specs.Schedule.{Schedule}
use Rattle.burst_address.specs.Formulas.{size_of}
use Rattle.node_shape.specs.LinkForm.{IsSingle}

-- an access of one beat that is as wide as the bus
pub record IsOneWord (bus : ℕ) (request : Addr) : Type 0 where
  pub single : IsSingle request
  pub whole : size_of request ≡ bus

-- the link has no IDs, and each part of each transaction is for one word
pub record IsWordSchedule (bus : ℕ) (schedule : Schedule) : Type 0 where
  pub no_ids : schedule.id_width ≡ 0
  pub writes : (t : ℕ) → All (IsOneWord bus) (schedule.writes t).parts
  pub reads : (t : ℕ) → All (IsOneWord bus) (schedule.reads t).parts
