-- The widths that a data bus may have here (Arm IHI 0022, channel definition).
use Rattle.std.specs.Prelude.{◌==◌, ◌||◌, ℕ, Bool, IsTrue}

-- whether so many bytes are one of these widths; the standard also has buses of 1 and 2 bytes, and no node here has one
abbrev pub is_bus_width : ℕ → Bool
is_bus_width bus = bus == 4 || bus == 8 || bus == 16 || bus == 32 || bus == 64 || bus == 128

-- a bus of one of these widths, in bytes
abbrev pub IsBusWidth : ℕ → Type 0
IsBusWidth bus = IsTrue (is_bus_width bus)
