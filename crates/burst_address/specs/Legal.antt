-- Which bursts are legal (Arm IHI 0022, burst length, burst size, burst type and address structure):
-- four rules, of which the first that is broken counts.
use Rattle.std.specs.Prelude.{◌≡◌, ℕ, ◌+◌, ◌-◌, ◌*◌, ◌/◌, ◌%◌, ◌==◌, ◌||◌, Bool, true, not, if◌then◌else◌, nat_lt, Option, Some, None}
use Rattle.axi_beats.specs.declared.beat.Addr.{Addr}
use Rattle.axi_beats.specs.declared.beat.Burst.{Burst}
use Rattle.axi_beats.specs.declared.beat.Burst.TheVariants.{Fixed, Incr, Wrap}
use Rattle.burst_address.specs.declared.rule.BurstRule.{BurstRule}
use Rattle.burst_address.specs.declared.rule.BurstRule.TheVariants.{Size, Length, WrapAlign, Page}
use Rattle.burst_address.specs.Formulas.{aligned, size_of, beats_of}

-- a beat has more bytes than the bus
abbrev pub is_too_wide : Addr → ℕ → Bool
is_too_wide a bus = nat_lt bus (size_of a)

-- the numbers of beats: INCR 1 to 256, FIXED 1 to 16, WRAP 2, 4, 8 or 16; a request has at least one beat, so that
-- the 1 isn't asked
abbrev pub is_length_of : Burst → ℕ → Bool
is_length_of Fixed beats = nat_lt beats 17
is_length_of Incr beats = nat_lt beats 257
is_length_of Wrap beats = beats == 2 || beats == 4 || beats == 8 || beats == 16

-- a WRAP burst starts at a multiple of its beats' size
abbrev pub is_start_of : Burst → ℕ → ℕ → Bool
is_start_of Fixed size start = true
is_start_of Incr size start = true
is_start_of Wrap size start = start % size == 0

-- the page of 4096 bytes that an address lies in
abbrev pub page : ℕ → ℕ
page address = address / 4096

-- an INCR burst has its first and its last byte in one page; the other kinds, where they keep the rules before this
-- one, stay in one aligned block of at most 2048 bytes
abbrev pub is_in_page : Burst → ℕ → ℕ → ℕ → Bool
is_in_page Fixed size beats start = true
is_in_page Incr size beats start = page start == page (aligned size start + beats * size - 1)
is_in_page Wrap size beats start = true

-- the first rule that a burst breaks on a bus
abbrev pub broken_rule : Addr → ℕ → Option BurstRule
broken_rule a bus =
    if is_too_wide a bus then Some Size
    else if not (is_length_of a.burst (beats_of a)) then Some Length
    else if not (is_start_of a.burst (size_of a) a.addr) then Some WrapAlign
    else if not (is_in_page a.burst (size_of a) (beats_of a) a.addr) then Some Page
    else None

-- a burst that breaks no rule on a bus
abbrev pub IsLegal : Addr → ℕ → Type 0
IsLegal a bus = broken_rule a bus ≡ None
