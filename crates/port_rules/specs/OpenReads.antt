-- Reads that are not answered in full, and how a beat that is transferred changes them.
use Rattle.std.specs.Prelude.{ℕ, ◌+◌, ◌-◌, ◌==◌, ◌++◌, ◌∷◌, [], List, Option, Some, None, is_some, nat_le, if◌then◌else◌}
use Rattle.std.specs.Bool.{beq}
use Rattle.std.specs.Option.{unwrap_or}
use Rattle.axi_history.specs.declared.port.RawAddr.{RawAddr}
use Rattle.axi_history.specs.declared.port.RawR.{RawR}
use Rattle.axi_history.specs.PortRules.{least_broken, is_not_exokay}
use Rattle.port_rules.specs.declared.reads.Read.{Read}

-- how many beats the oldest read of an ID lacks
abbrev pub beats_lacking : ℕ → List Read → Option ℕ
beats_lacking id [] = None
beats_lacking id (read ∷ more) = if read.id == id then Some read.left else beats_lacking id more

-- the least of rules 8, 11 and 12 that a read beat breaks
abbrev pub read_fault : List Read → RawR → Option ℕ
read_fault reads r =
    least_broken (
    (8, is_not_exokay r.resp)
    ∷ (11, is_some (beats_lacking r.id reads))
    ∷ (12, beq r.last (unwrap_or (beats_lacking r.id reads) 0 == 1))
    ∷ [])

-- a new read
abbrev pub new_read : RawAddr → Read
new_read a = record { id = a.id; left = a.len + 1 }

-- the reads after one more beat of the oldest one of an ID
abbrev pub with_beat_of : ℕ → List Read → List Read
with_beat_of id [] = []
with_beat_of id (read ∷ more) =
    if read.id == id
    then (if nat_le read.left 1 then more else record { id = id; left = read.left - 1 } ∷ more)
    else read ∷ with_beat_of id more

-- what a channel transfers in a round, if anything, added to what is kept
abbrev pub add_ar : Option RawAddr → List Read → List Read
add_ar None reads = reads
add_ar (Some a) reads = reads ++ new_read a ∷ []

abbrev pub add_r : Option RawR → List Read → List Read
add_r None reads = reads
add_r (Some r) reads = with_beat_of r.id reads
