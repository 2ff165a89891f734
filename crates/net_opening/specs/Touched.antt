-- The lines of 128 bytes that the writes which come to a memory touch. The memory keeps room for them, so that no write
-- takes memory.
use Rattle.std.specs.Prelude.{◌==◌, ◌&&◌, [], ◌∷◌, ℕ, List, Bool, filter, flat_map, fold, map, nat_lt, if◌then◌else◌}
use Rattle.axi_beats.specs.declared.beat.Addr.{Addr}
use Rattle.burst_address.specs.Formulas.{beat_at, beats_of}
use Rattle.elaborate.specs.Path.{target_of}
use Rattle.memory_node.specs.Store.{line_number}
use Rattle.node_graph.specs.Graph.{numbers}
use Rattle.topology.specs.Document.{DocumentNode}
use Rattle.plan_traffic.specs.Traffic.{TrafficItem}

-- the lines of the beats of a burst, none of which lies on two
abbrev pub lines_of_burst : Addr → List ℕ
lines_of_burst request = map (λ beat. line_number (beat_at request beat)) (numbers (beats_of request))

-- one more number among some that rise, of which none stands there twice
abbrev pub among : List ℕ → ℕ → List ℕ
among [] number = number ∷ []
among (least ∷ more) number = if number == least then least ∷ more else if nat_lt number least then number ∷ least ∷ more else least ∷ among more number

-- the numbers of a list, upwards and each once
abbrev pub upwards : List ℕ → List ℕ
upwards list = fold among [] list

module _ (nodes : List DocumentNode) (items : List TrafficItem) (number : ℕ) where
  -- a write whose bytes come to the plan node of this number
  abbrev pub is_write_to : TrafficItem → Bool
  is_write_to item = item.txn.write && target_of nodes item.manager item.txn.request.addr == number

  -- the lines that all of these touch
  abbrev pub lines_touched : List ℕ
  lines_touched = upwards (flat_map (λ (item : TrafficItem). lines_of_burst item.txn.request) (filter is_write_to items))
