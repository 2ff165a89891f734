-- A network of nodes of one kind, as plain data, and its rounds: what every node decides and what every link then moves. A
-- kind may be any of several, by cases.
use Rattle.std.specs.Prelude.{◌<◌, ℕ, zero, suc, Bool, List, map, false, length, slice_get, slice_index_or}
use Rattle.std.specs.List.{list_all}
use Rattle.std.specs.Option.{option_map_or}
use Rattle.axi_link.specs.LinkView.{LinkView}
use Rattle.axi_link.specs.Moves.{CanMove, link_after}
use Rattle.axi_link.specs.declared.out.Out.{Out}
use Rattle.net_model.specs.declared.net_link.NetLink.{NetLink}
use Rattle.node_core.specs.Acted.{Acted, no_moves}
use Rattle.node_shape.specs.Kind.{Kind}
use Rattle.plain_lists.specs.Numbered.{numbered}

-- its nodes, its links, and what waits on each link
pub record Network (S : Type 0) : Type 0 where
  pub nodes : List (Acted S)
  pub links : List NetLink
  pub queues : List LinkView

-- a link by its number
abbrev pub net_link : List NetLink → ℕ → NetLink
net_link links number = slice_index_or links number (record { upper = 0; lower = 0; lite = false; bus = 0; id_width = 0; depth = 0 })

abbrev pub upper_node : List NetLink → ℕ → ℕ
upper_node links number = (net_link links number).upper

abbrev pub lower_node : List NetLink → ℕ → ℕ
lower_node links number = (net_link links number).lower

module _ {S : Type 0} where
  -- the moves that the node of this number chose
  abbrev pub moves_at : List (Acted S) → ℕ → Out
  moves_at nodes node = option_map_or (λ (n : Acted S). n.out) (slice_get nodes node) no_moves

  -- what waits on a link after the moves of its two nodes
  unfoldable pub queue_moved : List NetLink → List (Acted S) → ℕ → LinkView → LinkView
  queue_moved links nodes number queue = link_after number queue (moves_at nodes (upper_node links number)) (moves_at nodes (lower_node links number))

  -- a link has its two nodes, and their moves on it can be made
  pub record CanMoveQueue (links : List NetLink) (nodes : List (Acted S)) (number : ℕ) (queue : LinkView) : Type 0 where
    pub known : number < length links
    pub upper : upper_node links number < length nodes
    pub lower : lower_node links number < length nodes
    pub moves : CanMove number queue (moves_at nodes (upper_node links number)) (moves_at nodes (lower_node links number))

  -- phase two of a round: every link makes the moves of its two nodes
  unfoldable pub after_commit : Network S → Network S
  after_commit net = record { nodes = net.nodes; links = net.links; queues = numbered (queue_moved net.links net.nodes) 0 net.queues }

module _ {S E : Type 0} (kind : Kind S E) where
  -- a node after it decided in a round
  abbrev pub node_next : ℕ → List LinkView → Acted S → Acted S
  node_next round queues node = kind.table round queues node.state

  -- phase one of a round: every node decides on the links as they stand
  unfoldable pub after_decide : ℕ → Network S → Network S
  after_decide round net = record { nodes = map (node_next round net.queues) net.nodes; links = net.links; queues = net.queues }

  -- the network after so many rounds, which are numbered from 1
  abbrev pub after_rounds : ℕ → Network S → Network S
  after_rounds zero net = net
  after_rounds (suc n) net = after_commit (after_decide (suc n) (after_rounds n net))

  -- no node waits for an answer
  abbrev pub is_finished : Network S → Bool
  is_finished net = list_all (λ (node : Acted S). kind.is_done node.state) net.nodes
