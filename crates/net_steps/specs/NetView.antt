-- A network that runs, as contracts see it.
use Rattle.std.specs.Prelude.{◌≡◌, ◌<◌, ◌≤◌, ◌+◌, ◌-◌, ◌^◌, ℕ, All, Bool, List, false, length, map, true}
use Rattle.axi_link.specs.LinkView.{LinkView, empty_link}
use Rattle.net_kinds.specs.NodeKind.{NodeState, node_kind, node_view}
use Rattle.net_kinds.specs.NodeTable.{node_table}
use Rattle.net_kinds.specs.declared.node.Node.{Node}
use Rattle.net_model.specs.Network.{CanMoveQueue, Network, after_rounds, lower_node, upper_node}
use Rattle.net_model.specs.Wired.{lowers_at, uppers_at}
use Rattle.net_model.specs.declared.net_link.NetLink.{NetLink}
use Rattle.net_steps.specs.Calls.{HaveEnds}
use Rattle.net_ways.specs.Sound.{IsSound}
use Rattle.node_core.specs.Acted.{Acted}
use Rattle.node_shape.specs.LinkForm.{LinkForm}
use Rattle.plain_lists.specs.Numbered.{AllNumbered}

-- its nodes, its links and what waits on each as they stand, the rounds that led there, and whether the nodes have decided in
-- the next one
pub record NetView : Type 0 where
  pub nodes : List Node
  pub links : List NetLink
  pub queues : List LinkView
  pub rounds : ℕ
  pub decided : Bool

-- the network that it is
abbrev pub network_of : NetView → Network NodeState
network_of net = record { nodes = map node_view net.nodes; links = net.links; queues = net.queues }

-- a link has 1 to 16 places a channel
pub record HasDepth (link : NetLink) : Type 0 where
  pub some : 0 < link.depth
  pub few : link.depth ≤ 16

-- nodes and links before the first round: nothing waits on a link
abbrev pub opened_net : List Node → List NetLink → NetView
opened_net nodes links = record {
  nodes = nodes;
  links = links;
  queues = map (λ (link : NetLink). empty_link link.depth) links;
  rounds = 0;
  decided = false;
}

-- phase one: the nodes decide in the next round
abbrev pub decided_in : NetView → NetView
decided_in net = record {
  nodes = map (node_table (net.rounds + 1) net.queues) net.nodes;
  links = net.links;
  queues = net.queues;
  rounds = net.rounds;
  decided = true;
}

-- nodes and links are joined as they tell of one another
pub record AreJoined (net : NetView) : Type 0 where
  pub long : length net.queues ≡ length net.links
  pub ends : (link : ℕ) → link < length net.queues → HaveEnds net.links (length net.nodes) link
  pub uppers : (node : ℕ) → All (λ link. (link < length net.links) × (lower_node net.links link ≡ node)) (uppers_at node_kind (map node_view net.nodes) node)
  pub lowers : (node : ℕ) → All (λ link. (link < length net.links) × (upper_node net.links link ≡ node)) (lowers_at node_kind (map node_view net.nodes) node)

-- the nodes haven't decided, there is a number for the next round, and each node may decide in it
pub record CanDecide (net : NetView) : Type 0 where
  pub undecided : net.decided ≡ false
  pub room : net.rounds < 2 ^ 63 - 1
  pub nodes : All (λ (a : Acted NodeState). node_kind.can (net.rounds + 1) net.queues a.state) (map node_view net.nodes)
  pub joined : AreJoined net

-- the nodes have decided, and each link can make the moves of its two nodes
pub record CanCommit (net : NetView) : Type 0 where
  pub decided : net.decided ≡ true
  pub queues : AllNumbered (CanMoveQueue net.links (map node_view net.nodes)) 0 net.queues

-- in each round of a network that can be run its nodes may decide
abbrev pub SoundNetsDecide : Type 0
SoundNetsDecide =
    (opening : Network NodeState) (forms : ℕ → LinkForm) → IsSound node_kind opening forms → (net : NetView) → net.decided ≡ false →
    net.rounds < 2 ^ 63 - 1 → network_of net ≡ after_rounds node_kind net.rounds opening → CanDecide net

-- and then its links can move
abbrev pub SoundNetsCommit : Type 0
SoundNetsCommit =
    (opening : Network NodeState) (forms : ℕ → LinkForm) → IsSound node_kind opening forms → (net : NetView) →
    network_of net ≡ after_rounds node_kind net.rounds opening → CanCommit (decided_in net)
