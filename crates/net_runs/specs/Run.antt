-- A run of a network: what its nodes do, round by round, and what they have passed.
use Rattle.std.specs.Prelude.{◌<◌, ◌++◌, [], ℕ, zero, suc, List, IfSome, map, slice_get}
use Rattle.std.specs.Option.{option_map_or}
use Rattle.axi_link.specs.LinkView.{LinkView}
use Rattle.axi_link.specs.declared.out.Out.{Out}
use Rattle.axi_trail.specs.Trail.{Beats, IsLinkRun, trail_above, trail_below}
use Rattle.net_model.specs.Network.{Network, after_rounds, lower_node, moves_at, node_next, upper_node}
use Rattle.net_model.specs.Wired.{IsWired}
use Rattle.node_core.specs.Acted.{Acted}
use Rattle.node_shape.specs.Kind.{Kind, Passed}
use Rattle.std.specs.Prelude.{length}

module _ {S E : Type 0} (kind : Kind S E) (net : Network S) where
  abbrev pub nodes_after : ℕ → List (Acted S)
  nodes_after n = (after_rounds kind n net).nodes

  abbrev pub queues_after : ℕ → List LinkView
  queues_after n = (after_rounds kind n net).queues

  -- what a node does in the round after so many
  abbrev pub chosen : ℕ → ℕ → Out
  chosen node n = moves_at (map (node_next kind (suc n) (queues_after n)) (nodes_after n)) node

  -- what it notes in that round, and what it has noted by then
  abbrev pub noted_in : ℕ → ℕ → List E
  noted_in node n = option_map_or (λ (a : Acted S). kind.notes (queues_after n) a.state) (slice_get (nodes_after n) node) []

  abbrev pub noted_by : ℕ → ℕ → List E
  noted_by node zero = []
  noted_by node (suc n) = noted_by node n ++ noted_in node n

  -- and what it has passed
  abbrev pub passed_by : ℕ → ℕ → Passed E
  passed_by node n = record {
    uppers = trail_below (chosen node) queues_after n;
    lowers = trail_above (chosen node) queues_after n;
    noted = noted_by node n;
  }

  -- the trails of a link's two ends
  abbrev pub upper_end : ℕ → ℕ → Beats
  upper_end link n = trail_above (chosen (upper_node net.links link)) queues_after n link

  abbrev pub lower_end : ℕ → ℕ → Beats
  lower_end link n = trail_below (chosen (lower_node net.links link)) queues_after n link

  -- something holds of the state of the node of this number, if there is one
  abbrev pub HoldsAt : (S → Type 0) → ℕ → ℕ → Type 0
  HoldsAt P node n = IfSome (slice_get (nodes_after n) node) (λ (a : Acted S). P a.state)

-- each link of a network that is wired is moved by its two nodes
abbrev pub LinksRun : {S E : Type 0} → Kind S E → Type 0
LinksRun {S} kind =
    (net : Network S) → IsWired kind net → (link : ℕ) → link < length net.links →
    IsLinkRun link (queues_after kind net) (chosen kind net (upper_node net.links link)) (chosen kind net (lower_node net.links link))
