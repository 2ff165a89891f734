-- How the bytes that a memory has are kept.
use Rattle.memory_node.specs.MemoryArea.{MemoryArea, area_of}
use Rattle.memory_node.specs.declared.area.Area.TheInside.{Inside}

abbrev pub area_view : Inside → MemoryArea
area_view a = area_of a.config a.read_only.items a.hole.items
