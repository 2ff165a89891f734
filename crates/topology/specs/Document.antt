-- The nodes that a document's nodes name, and what the links below each of them are.
use Rattle.std.specs.Prelude.{◌==◌, ◌+◌, ◌-◌, ◌*◌, ◌/◌, ℕ, zero, suc, List, [], ◌∷◌, Bool, true, false, Option, length, filter_map, map, max, bytes_eq, position, slice_index_or, if◌then◌else◌}
use Rattle.node_graph.specs.Graph.{Graph, each_once, handed_down, nodes_above}
pub use Rattle.topology.specs.declared.link.LinkKind.{LinkKind}
pub use Rattle.topology_text.specs.Document.{DocumentNode, NamedRegion, node_at, node_of_kind}
use Rattle.topology_text.specs.declared.kind.Kind.{Kind}
use Rattle.topology_text.specs.declared.kind.Kind.TheVariants.{Manager, Memory, LiteMemory, Mux, Demux, Crossbar, Remap, Up, Down, Lite}

-- ---- kinds

abbrev pub is_manager : Kind → Bool
is_manager Manager = true
is_manager other = false

-- the kinds that answer transactions
abbrev pub is_memory : Kind → Bool
is_memory Memory = true
is_memory LiteMemory = true
is_memory other = false

-- the kinds that name the nodes below by regions
abbrev pub has_regions : Kind → Bool
has_regions Demux = true
has_regions Crossbar = true
has_regions other = false

-- the kinds that join several links from above
abbrev pub joins_links : Kind → Bool
joins_links Mux = true
joins_links Crossbar = true
joins_links other = false

-- ---- who is below whom

-- the names that a node names, in their order
abbrev pub names_of : DocumentNode → List (List ℕ)
names_of node = if has_regions node.kind then map (λ (region : NamedRegion). region.to) node.region else if is_memory node.kind then [] else node.to ∷ []

-- the number of the first node with this name
abbrev pub named : List DocumentNode → List ℕ → Option ℕ
named nodes name = position (λ (node : DocumentNode). bytes_eq node.name name) nodes

-- the targets of a node: the nodes that it names, each once, in the order in which they are first named
abbrev pub targets_of : List DocumentNode → DocumentNode → List ℕ
targets_of nodes node = each_once (filter_map (named nodes) (names_of node))

-- the graph whose links lead from each node to its targets
abbrev pub graph_of : List DocumentNode → Graph
graph_of nodes = map (targets_of nodes) nodes

-- the uppers of a node: the nodes that name it, in order of number
abbrev pub uppers_of : List DocumentNode → ℕ → List ℕ
uppers_of nodes place = nodes_above (graph_of nodes) place

-- ---- what links are

abbrev pub no_link : LinkKind
no_link = record { lite = false; bus = 0; id_width = 0 }

abbrev pub first_link : List LinkKind → LinkKind
first_link links = slice_index_or links 0 no_link

-- the widest IDs of some links
abbrev pub widest : List LinkKind → ℕ
widest [] = 0
widest (link ∷ links) = max link.id_width (widest links)

-- the number of binary digits of a number, where it has at most so many
abbrev pub digits_up_to : ℕ → ℕ → ℕ
digits_up_to zero number = 0
digits_up_to (suc most) number = if number == 0 then 0 else suc (digits_up_to most (number / 2))

-- The bits that tell so many inputs apart: the digits of the last input's number, counted from 0. A document has fewer
-- than 2 to the 32 nodes.
abbrev pub input_digits : ℕ → ℕ
input_digits inputs = digits_up_to 32 (inputs - 1)

-- several links made one: the protocol and the bus of the first, and IDs that are widened by the number of the input
abbrev pub merged_link : List LinkKind → LinkKind
merged_link links = record (first_link links) { id_width = widest links + input_digits (length links) }

-- what the links below a node are, from what the links above it are
abbrev pub link_below : Kind → DocumentNode → List LinkKind → LinkKind
link_below Manager node links = record { lite = false; bus = node.bus; id_width = node.id_width }
link_below Mux node links = merged_link links
link_below Crossbar node links = merged_link links
link_below Remap node links = record (first_link links) { id_width = node.id_width }
link_below Up node links = record (first_link links) { bus = node.bus }
link_below Down node links = record (first_link links) { bus = node.bus }
link_below Lite node links = record { lite = true; bus = (first_link links).bus; id_width = 0 }
link_below other node links = first_link links

-- what the links below the node of this number are, from the managers downwards
abbrev pub link_kind_of : List DocumentNode → ℕ → LinkKind
link_kind_of nodes = handed_down (λ place links. link_below (node_at nodes place).kind (node_at nodes place) links) no_link (graph_of nodes)

-- what its inputs are: the links above it, in the order of its uppers
abbrev pub inputs_of : List DocumentNode → ℕ → List LinkKind
inputs_of nodes place = map (link_kind_of nodes) (uppers_of nodes place)

-- ---- what a node becomes in the plan

-- how many plan nodes a node of this kind with so many inputs and targets becomes
abbrev pub plan_nodes_of : Kind → ℕ → ℕ → ℕ
plan_nodes_of Demux inputs targets = 2
plan_nodes_of Down inputs targets = 2
plan_nodes_of Lite inputs targets = 2
plan_nodes_of Crossbar inputs targets = 2 * inputs + targets
plan_nodes_of other inputs targets = 1

-- and how many links these have below them
abbrev pub plan_links_of : Kind → ℕ → ℕ → ℕ
plan_links_of Memory inputs targets = 0
plan_links_of LiteMemory inputs targets = 0
plan_links_of Demux inputs targets = targets + 1
plan_links_of Down inputs targets = 2
plan_links_of Lite inputs targets = 2
plan_links_of Crossbar inputs targets = inputs * (targets + 1) + targets
plan_links_of other inputs targets = 1

abbrev pub plan_nodes_at : List DocumentNode → ℕ → ℕ
plan_nodes_at nodes place = plan_nodes_of (node_at nodes place).kind (length (uppers_of nodes place)) (length (targets_of nodes (node_at nodes place)))

abbrev pub plan_links_at : List DocumentNode → ℕ → ℕ
plan_links_at nodes place = plan_links_of (node_at nodes place).kind (length (uppers_of nodes place)) (length (targets_of nodes (node_at nodes place)))
