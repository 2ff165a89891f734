-- What holds of the links of a plan: protocol, data bus and width of IDs, from the managers downwards.
use Rattle.std.specs.Prelude.{◌≡◌, ◌+◌, ◌<◌, ◌≤◌, ◌==◌, ◌||◌, ⊤, ℕ, List, Some, false, true, length, slice_get}
use Rattle.node_graph.specs.Graph.{is_in, nodes_below}
use Rattle.node_graph.specs.Order.{repeats}
use Rattle.topology.specs.Document.{DocumentNode, input_digits, node_at, uppers_of}
use Rattle.topology.specs.declared.link.LinkKind.{LinkKind}
use Rattle.topology.specs.Refused.{IsAccepted}
use Rattle.elaborate.specs.Laws.{is_mux}
use Rattle.elaborate.specs.Plan.{PlanNode, plan_graph, plan_nodes}
use Rattle.elaborate.specs.declared.part.Part.{Part}
use Rattle.elaborate.specs.declared.part.Part.TheVariants as part

-- A link can lead to a part of this document node: only slices and AXI4-Lite memories have AXI4-Lite above them, a memory
-- has a bus of its own, and a converter a bus that it widens or narrows, or from which AXI4-Lite can go on.
abbrev pub CanLeadTo : Part → DocumentNode → LinkKind → Type 0
CanLeadTo part.Slice node above = ⊤
CanLeadTo part.LiteMemory node above = above.lite ≡ true
CanLeadTo part.Memory node above = (above.lite ≡ false) × (above.bus ≡ node.bus)
CanLeadTo part.Up node above = (above.lite ≡ false) × (above.bus < node.bus)
CanLeadTo part.Down node above = (above.lite ≡ false) × (node.bus < above.bus)
CanLeadTo part.Lite node above = (above.lite ≡ false) × ((above.bus == 4 || above.bus == 8) ≡ true)
CanLeadTo other node above = above.lite ≡ false

-- One of so many inputs of a mux, and the link below it: there is room for the input's number in front of its IDs.
pub record IsMerged (inputs : ℕ) (above below : LinkKind) : Type 0 where
  pub lite : below.lite ≡ above.lite
  pub bus : below.bus ≡ above.bus
  pub ids : above.id_width + input_digits inputs ≤ below.id_width

-- what the links below a part are, from the link above it or from one of so many
abbrev pub GoesOn : Part → DocumentNode → ℕ → LinkKind → LinkKind → Type 0
GoesOn part.Mux node inputs above below = IsMerged inputs above below
GoesOn part.Remap node inputs above below = below ≡ record above { id_width = node.id_width }
GoesOn part.Up node inputs above below = below ≡ record above { bus = node.bus }
GoesOn part.Down node inputs above below = below ≡ record above { bus = node.bus }
GoesOn part.Lite node inputs above below = below ≡ record { lite = true; bus = above.bus; id_width = 0 }
GoesOn part.Error node inputs above below = ⊤
GoesOn other node inputs above below = below ≡ above

-- so it is of each link of a plan, between its upper plan node and its lower one
pub record IsCarriedOn (nodes : List DocumentNode) (above below : PlanNode) : Type 0 where
  pub fits : CanLeadTo below.part (node_at nodes below.document) above.link
  pub goes_on : GoesOn below.part (node_at nodes below.document) (length (uppers_of nodes below.document)) above.link below.link

abbrev pub LinksAreCarriedOn : Type 0
LinksAreCarriedOn =
    (nodes : List DocumentNode) → IsAccepted nodes → (upper lower : ℕ) (above below : PlanNode) → slice_get (plan_nodes nodes) upper ≡ Some above →
    slice_get (plan_nodes nodes) lower ≡ Some below → is_in above.lower lower ≡ true → IsCarriedOn nodes above below

-- what the link below a manager is
abbrev pub ManagersBeginLinks : Type 0
ManagersBeginLinks =
    (nodes : List DocumentNode) → IsAccepted nodes → (number : ℕ) (node : PlanNode) → slice_get (plan_nodes nodes) number ≡ Some node → node.part ≡ part.Manager →
    node.link ≡ record { lite = false; bus = (node_at nodes node.document).bus; id_width = (node_at nodes node.document).id_width }

-- No more plan nodes stand above a mux than nodes of the document above its document node: some of them, of which none
-- stands twice in a list, are at most so many.
abbrev pub MuxesHaveFewInputs : Type 0
MuxesHaveFewInputs =
    (nodes : List DocumentNode) (number : ℕ) (node : PlanNode) → slice_get (plan_nodes nodes) number ≡ Some node → is_mux node.part ≡ true → (above : List ℕ) →
    repeats above ≡ false → ((upper : ℕ) → is_in above upper ≡ true → is_in (nodes_below (plan_graph nodes) upper) number ≡ true) →
    length above ≤ length (uppers_of nodes node.document)
