-- Documents that are accepted: no predicate of a refusal holds of any of their nodes.
use Rattle.std.specs.Prelude.{◌≡◌, ◌<◌, ◌≤◌, ℕ, List, false, length}
use Rattle.node_graph.specs.Laws.{IsAcyclic}
use Rattle.topology.specs.Document.{DocumentNode, graph_of, inputs_of, link_below, link_kind_of, node_at}
use Rattle.topology.specs.Refused.{IsAccepted, has_bad_region, has_fan_in, has_id_overflow, has_lite_mismatch, has_width_mismatch, is_cyclic, is_duplicate, is_loose, is_too_large, names_unknown, regions_overlap}
use Rattle.topology_text.specs.Formed.{AreFormed}

pub record IsClean (nodes : List DocumentNode) (place : ℕ) : Type 0 where
  pub name_is_own : is_duplicate nodes place ≡ false
  pub names_are_known : names_unknown nodes place ≡ false
  pub uppers_are_few : has_fan_in nodes place ≡ false
  pub upper_is_there : is_loose nodes place ≡ false
  pub no_cycle : is_cyclic nodes place ≡ false
  pub regions_are_good : has_bad_region nodes place ≡ false
  pub regions_are_apart : regions_overlap nodes place ≡ false
  pub widths_fit : has_width_mismatch nodes place ≡ false
  pub ids_fit : has_id_overflow nodes place ≡ false
  pub protocols_fit : has_lite_mismatch nodes place ≡ false
  pub small : is_too_large nodes place ≡ false

abbrev pub AcceptedIsClean : Type 0
AcceptedIsClean = (nodes : List DocumentNode) → IsAccepted nodes → (place : ℕ) → place < length nodes → IsClean nodes place

-- so that its graph has no cycle
abbrev pub AcceptedIsAcyclic : Type 0
AcceptedIsAcyclic = (nodes : List DocumentNode) → IsAccepted nodes → IsAcyclic (graph_of nodes)

-- and what the links below a node are is made of what the links above it are
abbrev pub LinksAreHandedDown : Type 0
LinksAreHandedDown =
    (nodes : List DocumentNode) → IsAccepted nodes → (place : ℕ) → place < length nodes →
    link_kind_of nodes place ≡ link_below (node_at nodes place).kind (node_at nodes place) (inputs_of nodes place)

-- Where its nodes are formed, no link has IDs of more than 16 bits.
abbrev pub LinksAreNarrow : Type 0
LinksAreNarrow =
    (nodes : List DocumentNode) → IsAccepted nodes → AreFormed nodes → (place : ℕ) → place < length nodes →
    (link_kind_of nodes place).id_width ≤ 16
