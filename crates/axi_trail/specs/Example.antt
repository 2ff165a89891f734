-- A read and a write through one link, between a manager above and a memory below, on a bus of 4 bytes.
use Rattle.std.specs.Prelude.{◌==◌, ◌++◌, ◌∷◌, [], true, false, replicate, if◌then◌else◌}
use Rattle.axi_beats.specs.declared.beat.Addr.{Addr}
use Rattle.axi_beats.specs.declared.beat.Burst.TheVariants.{Incr}
use Rattle.axi_beats.specs.declared.beat.WBeat.{WBeat}
use Rattle.axi_beats.specs.declared.beat.BBeat.{BBeat}
use Rattle.axi_beats.specs.declared.beat.RBeat.{RBeat}
use Rattle.axi_beats.specs.declared.response.Resp.TheVariants.{Okay}
use Rattle.axi_trail.specs.LinkContracts.{Asks, Answers}
use Rattle.axi_trail.specs.Schedule.{Share, Schedule, Progress, no_share}
use Rattle.axi_trail.specs.Trail.{Beats, IsBehind}

-- transaction 7 reads 8 bytes at 0x1000 with ID 3, in two beats
abbrev pub read_address : Addr
read_address = record { id = 3; addr = 4096; len = 1; size = 2; burst = Incr; tag = record { txn = 7; low = 0; high = 0 } }

abbrev pub first_read_data : RBeat
first_read_data = record { id = 3; lanes = 10 ∷ 11 ∷ 12 ∷ 13 ∷ [] ++ replicate 124 0; resp = Okay; last = false; tag = record { txn = 7; low = 0; high = 0 } }

abbrev pub last_read_data : RBeat
last_read_data = record { id = 3; lanes = 20 ∷ 21 ∷ 22 ∷ 23 ∷ [] ++ replicate 124 0; resp = Okay; last = true; tag = record { txn = 7; low = 0; high = 0 } }

-- transaction 8 writes 4 bytes at 0x2000 with ID 2, in one beat
abbrev pub write_address : Addr
write_address = record { id = 2; addr = 8192; len = 0; size = 2; burst = Incr; tag = record { txn = 8; low = 0; high = 0 } }

abbrev pub write_data_beat : WBeat
write_data_beat = record { lanes = 30 ∷ 31 ∷ 32 ∷ 33 ∷ [] ++ replicate 124 0; strobe = 15; last = true; tag = record { txn = 8; low = 0; high = 0 } }

abbrev pub write_response : BBeat
write_response = record { id = 2; resp = Okay; tag = record { txn = 8; low = 0; high = 0 } }

-- what the link has to carry: chains begin with the manager's number, the ID, and 0 for a write or 1 for a read
abbrev pub read_share : Share
read_share = record {
  parts = record read_address { id = 0 } ∷ [];
  write_data = [];
  lanes = record { low = 0; high = 3 } ∷ record { low = 0; high = 3 } ∷ [];
  responses = Okay ∷ Okay ∷ [];
  chain = 0 ∷ 3 ∷ 1 ∷ 1 ∷ [];
}

abbrev pub write_share : Share
write_share = record {
  parts = record write_address { id = 0 } ∷ [];
  write_data = (write_data_beat ∷ []) ∷ [];
  lanes = [];
  responses = Okay ∷ [];
  chain = 0 ∷ 2 ∷ 0 ∷ 1 ∷ [];
}

abbrev pub example_schedule : Schedule
example_schedule = record {
  id_width = 4;
  writes = λ t. if t == 8 then write_share else no_share;
  reads = λ t. if t == 7 then read_share else no_share;
}

-- both have left the manager, and the memory has done all of both
abbrev pub example_progress : Progress
example_progress = record {
  issued = λ t. if t == 7 then true else t == 8;
  written = λ t. t == 8;
  filled = λ t. if t == 7 then 10 ∷ 11 ∷ 12 ∷ 13 ∷ 20 ∷ 21 ∷ 22 ∷ 23 ∷ [] else [];
}

-- the memory has answered both, and the manager has taken the first beat of read data alone
abbrev pub example_upper : Beats
example_upper = record { aw = write_address ∷ []; w = write_data_beat ∷ []; b = []; ar = read_address ∷ []; r = first_read_data ∷ [] }

abbrev pub example_lower : Beats
example_lower = record { aw = write_address ∷ []; w = write_data_beat ∷ []; b = write_response ∷ []; ar = read_address ∷ []; r = first_read_data ∷ last_read_data ∷ [] }

-- the link keeps both contracts
abbrev pub ExampleKeepsContracts : Type 0
ExampleKeepsContracts = Asks example_schedule example_progress example_upper × Answers example_schedule example_progress example_lower × IsBehind example_lower example_upper
