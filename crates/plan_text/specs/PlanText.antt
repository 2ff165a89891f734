-- The text of a plan: a line for each plan node, a line for each link, and the bound on the rounds of its run.
use Rattle.std.specs.Prelude.{ℕ, Bool, true, false, List, ◌++◌, Option, Some, None, length, codes}
use Rattle.std.specs.Fmt.{decimal}
use Rattle.elaborate.specs.Plan.{PlanNode, plan_link_at, plan_links, plan_node_at, plan_nodes}
use Rattle.elaborate.specs.declared.link.PlanLink.{PlanLink}
use Rattle.elaborate.specs.declared.part.Part.{Part}
use Rattle.elaborate.specs.declared.part.Part.TheVariants.{Manager, Memory, LiteMemory, Slice, Mux, Demux, Error, Remap, Split, Up, Down, Lite}
use Rattle.plain_lists.specs.Rounds.{over}
use Rattle.topology_text.specs.Document.{DocumentNode}

-- the word for what a plan node is
abbrev pub part_name : Part → List ℕ
part_name Manager = codes "manager"
part_name Memory = codes "memory"
part_name LiteMemory = codes "lite_memory"
part_name Slice = codes "slice"
part_name Mux = codes "mux"
part_name Demux = codes "demux"
part_name Error = codes "error"
part_name Remap = codes "remap"
part_name Split = codes "split"
part_name Up = codes "up"
part_name Down = codes "down"
part_name Lite = codes "lite"

-- the word for a protocol
abbrev pub protocol_name : Bool → List ℕ
protocol_name false = codes "axi"
protocol_name true = codes "lite"

-- `node <number> <part> <name>`
unfoldable pub plan_node_line : ℕ → PlanNode → List ℕ
plan_node_line number node = codes "node " ++ decimal number ++ codes " " ++ part_name node.part ++ codes " " ++ node.name ++ codes "\n"

-- `link <number> <upper> <lower> <protocol> <bus> <ID width> <depth>`
unfoldable pub plan_link_line : ℕ → PlanLink → List ℕ
plan_link_line number link =
    codes "link " ++ decimal number ++ codes " " ++ decimal link.upper ++ codes " " ++ decimal link.lower ++ codes " " ++ protocol_name link.link.lite ++ codes " "
    ++ decimal link.link.bus ++ codes " " ++ decimal link.link.id_width ++ codes " " ++ decimal link.depth ++ codes "\n"

-- `bound <rounds>`, or `bound -` where there is none
unfoldable pub bound_line : Option ℕ → List ℕ
bound_line (Some rounds) = codes "bound " ++ decimal rounds ++ codes "\n"
bound_line None = codes "bound -\n"

module _ (nodes : List DocumentNode) where
  -- the lines of all plan nodes, and those of all links, in order of number
  abbrev pub plan_node_lines : List ℕ
  plan_node_lines = over (λ number. plan_node_line number (plan_node_at nodes number)) (length (plan_nodes nodes))

  abbrev pub plan_link_lines : List ℕ
  plan_link_lines = over (λ number. plan_link_line number (plan_link_at nodes number)) (length (plan_links nodes))

  -- the whole text
  unfoldable pub plan_text : Option ℕ → List ℕ
  plan_text bound = plan_node_lines ++ (plan_link_lines ++ bound_line bound)
