-- By how many rounds a run is finished at the latest.
use Rattle.std.specs.Prelude.{◌+◌, ◌*◌, ◌/◌, ◌^◌, ℕ, List, length, map, max, sum_by}
use Rattle.axi_beats.specs.declared.beat.Addr.{Addr}
use Rattle.burst_address.specs.Formulas.{beats_of}
use Rattle.elaborate.specs.Path.{path_of}
use Rattle.node_core.specs.Paces.{longest}
use Rattle.plan_traffic.specs.Traffic.{TrafficItem}
use Rattle.topology.specs.Document.{DocumentNode}

-- the longest delay of a node, in rounds, and of all nodes
abbrev pub delay_of_node : DocumentNode → ℕ
delay_of_node node = max (longest node.accept) (longest node.give)

abbrev pub delay_of_nodes : List DocumentNode → ℕ
delay_of_nodes nodes = longest (map delay_of_node nodes)

-- the words of 4 bytes of a beat of 2 ^ size bytes, at least one
abbrev pub words_of_beat : ℕ → ℕ
words_of_beat size = max (2 ^ size / 4) 1

-- and those of a burst: so many pieces it can be cut into
abbrev pub pieces_of : Addr → ℕ
pieces_of request = beats_of request * words_of_beat request.size

-- Each piece makes at most six moves at each plan node of its path.
abbrev pub most_moves : List DocumentNode → TrafficItem → ℕ
most_moves nodes item = 6 * pieces_of item.txn.request * length (path_of nodes item.manager item.txn.request.addr)

-- Some move is made at least once in a row of as many rounds as the longest delay and one more.
abbrev pub round_bound : List DocumentNode → List TrafficItem → ℕ
round_bound nodes items = (1 + delay_of_nodes nodes) * sum_by (most_moves nodes) items
