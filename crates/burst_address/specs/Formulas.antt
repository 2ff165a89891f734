-- Where the beats of a burst lie (Arm IHI 0022, burst address structure). All sizes are in bytes,
-- and the beats of a burst are numbered from 0.
use Rattle.std.specs.Prelude.{ℕ, ◌+◌, ◌-◌, ◌*◌, ◌/◌, ◌%◌, ◌^◌, if◌then◌else◌, nat_lt}
use Rattle.std.proofs.Common.{zero, suc}
use Rattle.axi_beats.specs.declared.beat.Addr.{Addr}
use Rattle.axi_beats.specs.declared.beat.Burst.{Burst}
use Rattle.axi_beats.specs.declared.beat.Burst.TheVariants.{Fixed, Incr, Wrap}

-- an address rounded down to a multiple of the size
abbrev pub aligned : ℕ → ℕ → ℕ
aligned size address = address / size * size

-- beat 0 of an INCR burst is at the start, and each beat n after it is n sizes above the aligned start
abbrev pub incr_address : ℕ → ℕ → ℕ → ℕ
incr_address size start zero = start
incr_address size start (suc n) = aligned size start + suc n * size

-- the lowest address of a WRAP burst: the start rounded down to a multiple of all that the burst
-- transfers
abbrev pub wrap_boundary : ℕ → ℕ → ℕ → ℕ
wrap_boundary size beats start = aligned (size * beats) start

-- a WRAP burst runs upwards as INCR does, and goes back to its wrap boundary at its upper end
abbrev pub wrap_address : ℕ → ℕ → ℕ → ℕ → ℕ
wrap_address size beats start n =
    if nat_lt (incr_address size start n) (wrap_boundary size beats start + size * beats)
    then incr_address size start n
    else incr_address size start n - size * beats

-- the address of beat n, by the kind of the burst; every beat of a FIXED burst is at the start
abbrev pub address_by_kind : Burst → ℕ → ℕ → ℕ → ℕ → ℕ
address_by_kind Fixed size beats start n = start
address_by_kind Incr size beats start n = incr_address size start n
address_by_kind Wrap size beats start n = wrap_address size beats start n

-- the number of bytes in a beat, of which one at an unaligned address has fewer valid
abbrev pub size_of : Addr → ℕ
size_of a = 2 ^ a.size

-- the number of beats
abbrev pub beats_of : Addr → ℕ
beats_of a = a.len + 1

-- the address of beat n
abbrev pub beat_at : Addr → ℕ → ℕ
beat_at a n = address_by_kind a.burst (size_of a) (beats_of a) a.addr n

-- the lanes that hold valid bytes of a beat run from the lane of its address to the lane of the
-- last byte of the aligned block that its address lies in
abbrev pub lower_lane : ℕ → ℕ → ℕ
lower_lane bus address = address % bus

abbrev pub upper_lane : ℕ → ℕ → ℕ → ℕ
upper_lane size bus address = (aligned size address + size - 1) % bus
