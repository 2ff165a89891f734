-- Which nodes a round calls. A node that only passes beats on does nothing where no link offers it one, so it is passed over
-- then; and so is a link on which neither of its nodes moves.
use Rattle.std.specs.Prelude.{◌≡◌, ◌<◌, ◌||◌, ℕ, Bool, List, Some, false, if◌then◌else◌, is_some, not, slice_get, slice_index_or, slice_set, true}
use Rattle.axi_link.specs.LinkView.{LinkView}
use Rattle.axi_link.specs.LinkWords.{head_of}
use Rattle.axi_link.specs.declared.out.Out.{Out}
use Rattle.net_kinds.specs.NodeTable.{node_out, node_table}
use Rattle.net_kinds.specs.declared.node.Node.{Node}
use Rattle.net_kinds.specs.declared.node.Node.TheVariants.{Demux, Mux, Slice}
use Rattle.net_model.specs.Network.{lower_node, upper_node}
use Rattle.net_model.specs.declared.net_link.NetLink.{NetLink}
use Rattle.net_steps.specs.declared.calls.Offers.{Offers}

-- a link offers its lower node a beat, and its upper one
abbrev pub offers_request : LinkView → Bool
offers_request link = is_some (head_of link.aw) || is_some (head_of link.w) || is_some (head_of link.ar)

abbrev pub offers_answer : LinkView → Bool
offers_answer link = is_some (head_of link.b) || is_some (head_of link.r)

abbrev pub offers_of : LinkView → Offers
offers_of link = record { request = offers_request link; answer = offers_answer link }

-- what is kept of a link's offers, by its number
abbrev pub offers_at : List Offers → ℕ → Offers
offers_at offers link = slice_index_or offers link (record { request = false; answer = false })

-- a take or a put is among the moves
abbrev pub makes_moves : Out → Bool
makes_moves out =
    is_some out.aw_take || is_some out.aw_put || is_some out.w_take || is_some out.w_put || is_some out.b_take || is_some out.b_put
    || is_some out.ar_take || is_some out.ar_put || is_some out.r_take || is_some out.r_put

-- a node chose some move when it decided last
abbrev pub acts : Node → Bool
acts node = makes_moves (node_out node)

-- a node that does nothing of itself, only with the beats that its links offer
abbrev pub only_passes : Node → Bool
only_passes (Slice n) = true
only_passes (Mux n) = true
only_passes (Demux n) = true
only_passes _ = false

-- what is noted of a node, by its number
abbrev pub is_noted : List Bool → ℕ → Bool
is_noted flags node = slice_index_or flags node true

-- a node is noted where a link offers it a beat
abbrev pub noted_too : Bool → ℕ → List Bool → List Bool
noted_too offered node flags = if offered then slice_set flags node true else flags

-- and so are the two nodes of a link
abbrev pub seen_too : NetLink → Offers → List Bool → List Bool
seen_too link offers seen = noted_too offers.answer link.upper (noted_too offers.request link.lower seen)

-- the two nodes of each link are among so many
pub record HaveEnds (links : List NetLink) (nodes : ℕ) (link : ℕ) : Type 0 where
  pub upper : upper_node links link < nodes
  pub lower : lower_node links link < nodes

-- each node to which one of the first so many links offers a beat is noted
pub record AreSeen (links : List NetLink) (offers : List Offers) (count : ℕ) (seen : List Bool) : Type 0 where
  pub requests : (link : ℕ) → link < count → (offers_at offers link).request ≡ true → is_noted seen (lower_node links link) ≡ true
  pub answers : (link : ℕ) → link < count → (offers_at offers link).answer ≡ true → is_noted seen (upper_node links link) ≡ true

-- A round calls a node which some link offers a beat, which chose moves in the round before, or which may do something of
-- itself.
abbrev pub is_called : List Bool → ℕ → Node → Bool
is_called seen number node = is_noted seen number || acts node || not (only_passes node)

-- the table changes nothing of a node that isn't called
abbrev pub UncalledStay : ℕ → List LinkView → List Bool → List Node → Type 0
UncalledStay round queues seen nodes =
    (number : ℕ) (node : Node) → slice_get nodes number ≡ Some node → is_called seen number node ≡ false → node_table round queues node ≡ node
