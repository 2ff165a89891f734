-- The plan of a document: the plan nodes that each of its nodes becomes, and the links between them.
use Rattle.std.specs.Prelude.{◌+◌, ◌*◌, ◌++◌, ℕ, suc, List, [], ◌∷◌, Bool, true, false, codes, decimal, flat_map, length, map, slice_index_or, sum, if◌then◌else◌}
use Rattle.node_graph.specs.Graph.{Graph, numbers}
use Rattle.node_graph.specs.Order.{place_in}
use Rattle.topology.specs.Document.{DocumentNode, first_link, inputs_of, link_kind_of, no_link, node_at, plan_nodes_at, targets_of, uppers_of}
use Rattle.topology_text.specs.declared.kind.Kind.{Kind}
use Rattle.topology.specs.declared.link.LinkKind.{LinkKind}
use Rattle.topology_text.specs.declared.kind.Kind.TheVariants as kind
pub use Rattle.elaborate.specs.declared.link.PlanLink.{PlanLink}
use Rattle.elaborate.specs.declared.part.Part.{Part}
use Rattle.elaborate.specs.declared.part.Part.TheVariants as part

-- A plan node: what it is, the document node that it comes from, its name, the plan nodes below it in order of port, and
-- what the links to these are.
pub record PlanNode : Type 0 where
  pub part : Part
  pub document : ℕ
  pub name : List ℕ
  pub lower : List ℕ
  pub link : LinkKind

abbrev pub is_crossbar : Kind → Bool
is_crossbar kind.Crossbar = true
is_crossbar other = false

-- ---- the plan nodes of one document node

module _ (nodes : List DocumentNode) where
  -- the number of a document node's first plan node: those of the earlier nodes stand before it
  abbrev pub first_part : ℕ → ℕ
  first_part place = sum (map (plan_nodes_at nodes) (numbers place))

  -- The plan node at which a document node is entered from one of its uppers. A crossbar has a demux for each input, each
  -- with an error subordinate behind it. The others are entered at their first plan node.
  abbrev pub entrance : ℕ → ℕ → ℕ
  entrance upper place = if is_crossbar (node_at nodes place).kind then first_part place + 2 * place_in (uppers_of nodes place) upper else first_part place

  module _ (place : ℕ) where
    abbrev named_part : Part → List ℕ → List ℕ → LinkKind → PlanNode
    named_part part suffix lower link = record { part = part; document = place; name = (node_at nodes place).name ++ suffix; lower = lower; link = link }

    -- the targets of the document node, in order of port
    abbrev pub targets : List ℕ
    targets = targets_of nodes (node_at nodes place)

    -- where they are entered
    abbrev pub entrances : List ℕ
    entrances = map (entrance place) targets

    -- the node itself
    abbrev pub itself : Part → PlanNode
    itself part = named_part part [] entrances (link_kind_of nodes place)

    -- an error subordinate, which has no link below it
    abbrev pub error_part : List ℕ → PlanNode
    error_part suffix = named_part part.Error suffix [] no_link

    -- a splitter before the node itself
    abbrev pub split_part : PlanNode
    split_part = named_part part.Split (codes ".split") ((first_part place + 1) ∷ []) (first_link (inputs_of nodes place))

    -- a demux, whose last port leads to its error subordinate
    abbrev pub demux_itself : PlanNode
    demux_itself = named_part part.Demux [] (entrances ++ (first_part place + 1) ∷ []) (link_kind_of nodes place)

    -- a crossbar's input: a demux, whose ports lead to the muxes of all targets and then to its error subordinate
    abbrev pub input_demux : ℕ → PlanNode
    input_demux i =
        named_part part.Demux (codes ".d" ++ decimal i)
        (map (λ j. first_part place + 2 * length (uppers_of nodes place) + j) (numbers (length targets)) ++ (first_part place + 2 * i + 1) ∷ [])
        (slice_index_or (inputs_of nodes place) i no_link)

    abbrev pub input_parts : ℕ → List PlanNode
    input_parts i = input_demux i ∷ error_part (codes ".e" ++ decimal i) ∷ []

    -- a crossbar's target: a mux that leads to it
    abbrev pub target_mux : ℕ → PlanNode
    target_mux j = named_part part.Mux (codes ".m" ++ decimal j) (entrance place (slice_index_or targets j 0) ∷ []) (link_kind_of nodes place)

    abbrev pub crossbar_parts : List PlanNode
    crossbar_parts = flat_map input_parts (numbers (length (uppers_of nodes place))) ++ map target_mux (numbers (length targets))

    abbrev pub parts_by_kind : Kind → List PlanNode
    parts_by_kind kind.Manager = itself part.Manager ∷ []
    parts_by_kind kind.Memory = itself part.Memory ∷ []
    parts_by_kind kind.LiteMemory = itself part.LiteMemory ∷ []
    parts_by_kind kind.Slice = itself part.Slice ∷ []
    parts_by_kind kind.Mux = itself part.Mux ∷ []
    parts_by_kind kind.Remap = itself part.Remap ∷ []
    parts_by_kind kind.Up = itself part.Up ∷ []
    parts_by_kind kind.Down = split_part ∷ itself part.Down ∷ []
    parts_by_kind kind.Lite = split_part ∷ itself part.Lite ∷ []
    parts_by_kind kind.Demux = demux_itself ∷ error_part (codes ".err") ∷ []
    parts_by_kind kind.Crossbar = crossbar_parts

  -- what a document node becomes, and what all of them become: the plan's nodes, numbered from 0
  abbrev pub node_parts : ℕ → List PlanNode
  node_parts place = parts_by_kind place (node_at nodes place).kind

  abbrev pub plan_nodes : List PlanNode
  plan_nodes = flat_map node_parts (numbers (length nodes))

  -- the nodes below each plan node
  abbrev pub plan_graph : Graph
  plan_graph = map (λ (node : PlanNode). node.lower) plan_nodes

-- ---- links

module _ (nodes : List DocumentNode) where
  -- the links below a plan node of this number, in order of port
  abbrev pub links_below : ℕ → PlanNode → List PlanLink
  links_below number node = map (λ lower. record { upper = number; lower = lower; link = node.link; depth = (node_at nodes node.document).depth }) node.lower

  -- those below plan nodes that are numbered from here on
  abbrev pub links_from : ℕ → List PlanNode → List PlanLink
  links_from number [] = []
  links_from number (node ∷ more) = links_below number node ++ links_from (suc number) more

  -- the plan's links, numbered from 0 by upper node and then by port
  abbrev pub plan_links : List PlanLink
  plan_links = links_from 0 (plan_nodes nodes)

  -- the plan node of this number, and the link of this number
  abbrev pub plan_node_at : ℕ → PlanNode
  plan_node_at number = slice_index_or (plan_nodes nodes) number (record { part = part.Slice; document = 0; name = []; lower = []; link = no_link })

  abbrev pub plan_link_at : ℕ → PlanLink
  plan_link_at number = slice_index_or plan_links number (record { upper = 0; lower = 0; link = no_link; depth = 0 })
