-- What a program keeps of links: an ID width is told up to 255.
use Rattle.std.specs.Prelude.{◌≡◌, ◌<◌, ℕ, List, true, length, min, slice_index_or}
use Rattle.node_graph.specs.Graph.{is_in}
use Rattle.topology.specs.Document.{DocumentNode, LinkKind, link_kind_of, no_link}

abbrev pub capped : LinkKind → LinkKind
capped link = record link { id_width = min link.id_width 255 }

-- the link of this number
abbrev pub known_link : List LinkKind → ℕ → LinkKind
known_link links place = slice_index_or links place no_link

-- these are what the links below each node are
pub record AreLinks (nodes : List DocumentNode) (links : List LinkKind) : Type 0 where
  pub long : length links ≡ length nodes
  pub each : (place : ℕ) → place < length nodes → known_link links place ≡ capped (link_kind_of nodes place)

-- and so are they of those of these numbers
pub record HasLinks (nodes : List DocumentNode) (links : List LinkKind) (passed : List ℕ) : Type 0 where
  pub long : length links ≡ length nodes
  pub each : (place : ℕ) → is_in passed place ≡ true → known_link links place ≡ capped (link_kind_of nodes place)
