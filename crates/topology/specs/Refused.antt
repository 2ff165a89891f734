-- Which documents are refused. Each predicate is of the nodes and of one of them, by its number from 0.
use Rattle.std.specs.Prelude.{◌≡◌, ◌==◌, ◌+◌, ◌%◌, ◌&&◌, ◌||◌, ℕ, suc, List, [], ◌∷◌, Bool, Option, Some, None, length, find, map, nat_lt, not, bytes_eq, is_none, sum, take, if◌then◌else◌}
use Rattle.std.specs.List.{list_any}
use Rattle.address_map.specs.Regions.{has_overlap, is_bad_span}
use Rattle.address_map.specs.declared.region.Region.{Region}
use Rattle.node_graph.specs.Graph.{is_on_cycle, numbers}
use Rattle.refusals.specs.declared.cause.Cause.{Cause}
use Rattle.refusals.specs.declared.cause.Cause.TheVariants.{DuplicateName, UnknownName, FanIn, Loose, Cycle, BadRegion, Overlap, WidthMismatch, IdOverflow, LiteMismatch, TooLarge}
use Rattle.topology.specs.Document.{DocumentNode, LinkKind, NamedRegion, graph_of, inputs_of, is_manager, is_memory, joins_links, link_kind_of, named, names_of, node_at, plan_links_at, plan_nodes_at, targets_of, uppers_of}
use Rattle.topology.specs.Fits.{bus_differs_at, protocol_differs_at}
use Rattle.topology_text.specs.declared.kind.Span.{Span}

-- A range of a memory is bad where it has no address, isn't made of whole lines of 128 bytes, or isn't inside the memory,
-- whose addresses are `size` from `base` on.
abbrev pub is_bad_range : ℕ → ℕ → Span → Bool
is_bad_range base size range =
    range.size == 0 || not (range.base % 128 == 0) || not (range.size % 128 == 0) || nat_lt range.base base
    || nat_lt (base + size) (range.base + range.size)

-- the addresses of a region alone
abbrev pub span_of : NamedRegion → Region
span_of region = record { base = region.base; size = region.size; port = 0 }

module _ (nodes : List DocumentNode) (place : ℕ) where
  abbrev node : DocumentNode
  node = node_at nodes place

  abbrev uppers : List ℕ
  uppers = uppers_of nodes place

  abbrev inputs : List LinkKind
  inputs = inputs_of nodes place

  -- an earlier node has the same name
  abbrev pub is_duplicate : Bool
  is_duplicate = list_any (λ (earlier : DocumentNode). bytes_eq earlier.name node.name) (take place nodes)

  -- no node has a name that it names
  abbrev pub names_unknown : Bool
  names_unknown = list_any (λ name. is_none (named nodes name)) (names_of node)

  -- it is a manager that has an upper, or one that can't join links and has two or more
  abbrev pub has_fan_in : Bool
  has_fan_in = not (joins_links node.kind) && nat_lt (if is_manager node.kind then 0 else 1) (length uppers)

  -- it is no manager and has no upper
  abbrev pub is_loose : Bool
  is_loose = not (is_manager node.kind) && length uppers == 0

  -- it stands on a cycle of uppers and targets
  abbrev pub is_cyclic : Bool
  is_cyclic = is_on_cycle (graph_of nodes) place

  -- a region, its own span of addresses, or a range in it is bad
  abbrev pub has_bad_region : Bool
  has_bad_region =
      list_any (λ (region : NamedRegion). is_bad_span region.base region.size) node.region
      || is_memory node.kind && is_bad_span node.base node.size
      || list_any (is_bad_range node.base node.size) node.read_only
      || list_any (is_bad_range node.base node.size) node.hole

  -- two of its regions share an address
  abbrev pub regions_overlap : Bool
  regions_overlap = has_overlap (map span_of node.region)

  -- its bus doesn't fit the links above it
  abbrev pub has_width_mismatch : Bool
  has_width_mismatch = bus_differs_at node inputs node.kind

  -- it joins links, and the IDs below it have over 16 bits
  abbrev pub has_id_overflow : Bool
  has_id_overflow = joins_links node.kind && nat_lt 16 (link_kind_of nodes place).id_width

  -- its protocol doesn't fit the links above it
  abbrev pub has_lite_mismatch : Bool
  has_lite_mismatch = protocol_differs_at inputs node.kind

  -- It is the 257th node, or has too many uppers, targets, regions or ranges,
  abbrev pub has_too_many : Bool
  has_too_many =
      place == 256 || nat_lt 16 (length uppers) || nat_lt 16 (length (targets_of nodes node)) || nat_lt 64 (length node.region)
      || nat_lt 64 (length node.read_only) || nat_lt 64 (length node.hole)

  -- or with it the plan has too many nodes or links.
  abbrev pub is_too_large : Bool
  is_too_large =
      has_too_many || nat_lt 1024 (sum (map (plan_nodes_at nodes) (numbers (suc place))))
      || nat_lt 4096 (sum (map (plan_links_at nodes) (numbers (suc place))))

-- the causes in order of code, each with its predicate
abbrev pub checks : List (Cause × (List DocumentNode → ℕ → Bool))
checks =
    (DuplicateName, is_duplicate) ∷ (UnknownName, names_unknown) ∷ (FanIn, has_fan_in) ∷ (Loose, is_loose) ∷ (Cycle, is_cyclic) ∷ (BadRegion, has_bad_region)
    ∷ (Overlap, regions_overlap) ∷ (WidthMismatch, has_width_mismatch) ∷ (IdOverflow, has_id_overflow)
    ∷ (LiteMismatch, has_lite_mismatch) ∷ (TooLarge, is_too_large) ∷ []

-- The first cause that holds of a node, with the first node that it holds of. A cause is asked for only where none of the
-- earlier ones holds of any node.
abbrev pub or_cause : Cause → Option ℕ → Option (Cause × ℕ) → Option (Cause × ℕ)
or_cause cause None later = later
or_cause cause (Some place) later = Some (cause, place)

abbrev pub first_cause : List DocumentNode → List (Cause × (List DocumentNode → ℕ → Bool)) → Option (Cause × ℕ)
first_cause nodes [] = None
first_cause nodes (check ∷ more) = or_cause check.0 (find (check.1 nodes) (numbers (length nodes))) (first_cause nodes more)

-- why a list of nodes is refused, and at which node, counted from 0
abbrev pub fault_of : List DocumentNode → Option (Cause × ℕ)
fault_of nodes = first_cause nodes checks

abbrev pub IsAccepted : List DocumentNode → Type 0
IsAccepted nodes = fault_of nodes ≡ None
