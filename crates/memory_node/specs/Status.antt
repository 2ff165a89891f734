-- The status of a byte (Arm IHI 0022, read and write response structure). A byte has a status when it is written and one
-- when it is read: the first goes into the one response to a write, the second into that of each beat of a read.
use Rattle.std.specs.Prelude.{ℕ, Bool, true, false, if◌then◌else◌}
use Rattle.axi_beats.specs.declared.response.Resp.{Resp}
use Rattle.axi_beats.specs.declared.response.Resp.TheVariants.{Okay, SlvErr, DecErr}
use Rattle.memory_node.specs.MemoryArea.{MemoryArea, is_in_some, is_inside}

-- DECERR outside the memory, where there is no byte, and SLVERR where the byte is of some of these ranges
abbrev pub status_but_in : Bool → Bool → Resp
status_but_in inside refused = if inside then (if refused then SlvErr else Okay) else DecErr

-- the status of a byte that is written
abbrev pub write_status : MemoryArea → ℕ → Resp
write_status area address = status_but_in (is_inside area address) (is_in_some area.read_only address)

-- the status of a byte that is read
abbrev pub read_status : MemoryArea → ℕ → Resp
read_status area address = status_but_in (is_inside area address) (is_in_some area.hole address)

abbrev pub is_okay : Resp → Bool
is_okay Okay = true
is_okay SlvErr = false
is_okay DecErr = false

-- the byte may be written, or read
abbrev pub may_write : MemoryArea → ℕ → Bool
may_write area address = is_okay (write_status area address)

abbrev pub may_read : MemoryArea → ℕ → Bool
may_read area address = is_okay (read_status area address)
