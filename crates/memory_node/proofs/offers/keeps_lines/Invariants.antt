use Rattle.std.proofs.Common.{◌<◌, ℕ}
use Rattle.std.specs.Prelude.{Contains, IsTrue}
use Rattle.burst_address.specs.Lanes.{word_address}
use Rattle.memory_node.specs.MemoryArea.{is_inside}
use Rattle.memory_node.specs.Store.{line_number}
use Rattle.memory_node.proofs.offers.keeps_lines.Given as goal

-- the lines of the beats so far are kept, where they lie in the memory
abbrev pub invariant-loop-beat : goal.invariant-loop-beat
invariant-loop-beat l =
    (beat : ℕ) → beat < l.beat → IsTrue (is_inside l.area (word_address l.request beat l.area.bus)) →
    Contains l.store.lines (line_number (word_address l.request beat l.area.bus))
