-- The managers that lines can name, by their numbers among the nodes of a document.
use Rattle.std.specs.Prelude.{◌≤◌, ℕ, List, Option, option_map}
use Rattle.axi_beats.specs.Bus.{IsBusWidth}
use Rattle.topology.specs.Document.{node_at}
use Rattle.topology.specs.Wiring.{manager_named}
use Rattle.topology_text.specs.Document.{DocumentNode}

-- the manager of a name
abbrev pub named_manager : List DocumentNode → List ℕ → Option DocumentNode
named_manager nodes name = option_map (node_at nodes) (manager_named nodes name)

-- a bus of a width that a bus can have, and IDs of at most 32 bits
pub record IsPort (node : DocumentNode) : Type 0 where
  pub bus : IsBusWidth node.bus
  pub id : node.id_width ≤ 32
