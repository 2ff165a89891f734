-- What is found of the names of nodes.
use Rattle.std.specs.Prelude.{ℕ, List, Option, bytes_eq, map, position, unwrap_or}
use Rattle.std.specs.Borrow.{Bor}
use Rattle.address_map.specs.declared.region.Region.{Region}
use Rattle.topology.specs.Document.{DocumentNode, NamedRegion}

-- the texts that some keys are
abbrev pub texts : List (Bor (List ℕ)) → List (List ℕ)
texts keys = map (λ (key : Bor (List ℕ)). key.now) keys

abbrev pub node_names : List DocumentNode → List (List ℕ)
node_names nodes = map (λ (node : DocumentNode). node.name) nodes

-- the place of a text among these keys
abbrev pub name_place : List (Bor (List ℕ)) → List ℕ → Option ℕ
name_place keys name = position (λ (key : Bor (List ℕ)). bytes_eq name key.now) keys

-- a region whose port is the place of the node that it names
abbrev pub placed_region : (List ℕ → Option ℕ) → NamedRegion → Region
placed_region place region = record { base = region.base; size = region.size; port = unwrap_or (place region.to) 0 }
