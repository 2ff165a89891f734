-- The bytes that a memory has, and those of them that can't be written or can't be read.
use Rattle.std.specs.Prelude.{◌≡◌, ◌≤◌, ◌%◌, ◌+◌, ◌^◌, ◌&&◌, ℕ, List, Bool, All, nat_le, nat_lt}
use Rattle.std.specs.List.{list_any}
use Rattle.axi_beats.specs.Bus.{IsBusWidth}
use Rattle.memory_node.specs.declared.config.MemoryConfig.{MemoryConfig}
use Rattle.memory_node.specs.declared.config.Range.{Range}

-- its range of addresses, the width of its bus in bytes, the value of bytes that nothing has written, the ranges whose bytes
-- can't be written, and the holes, whose bytes can't be read
pub record MemoryArea : Type 0 where
  pub base : ℕ
  pub size : ℕ
  pub bus : ℕ
  pub fill : ℕ
  pub read_only : List Range
  pub hole : List Range

abbrev pub area_of : MemoryConfig → List Range → List Range → MemoryArea
area_of config read_only hole = record {
  base = config.base;
  size = config.size;
  bus = config.bus;
  fill = config.fill;
  read_only = read_only;
  hole = hole;
}

-- the address is one of the memory
abbrev pub is_inside : MemoryArea → ℕ → Bool
is_inside area address = nat_le area.base address && nat_lt address (area.base + area.size)

-- the address is one of a range, or of some range
abbrev pub is_in_range : Range → ℕ → Bool
is_in_range range address = nat_le range.base address && nat_lt address (range.base + range.size)

abbrev pub is_in_some : List Range → ℕ → Bool
is_in_some ranges address = list_any (λ range. is_in_range range address) ranges

-- a range of whole lines of 128 bytes in the memory
pub record IsRangeOf (area : MemoryArea) (range : Range) : Type 0 where
  pub base : range.base % 128 ≡ 0
  pub size : range.size % 128 ≡ 0
  pub from : area.base ≤ range.base
  pub to : range.base + range.size ≤ area.base + area.size

-- a bus of a width that there is, and whole pages of 4096 bytes that end at 2 ^ 63 or below
pub record IsMemoryArea (area : MemoryArea) : Type 0 where
  pub bus : IsBusWidth area.bus
  pub base : area.base % 4096 ≡ 0
  pub size : area.size % 4096 ≡ 0
  pub end : area.base + area.size ≤ 2 ^ 63
  pub read_only : All (IsRangeOf area) area.read_only
  pub hole : All (IsRangeOf area) area.hole
