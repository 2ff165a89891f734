-- How the nodes and the links of a network are joined.
use Rattle.std.specs.Prelude.{◌≡◌, ◌<◌, ◌≤◌, [], ℕ, List, All, Contains, length, slice_get}
use Rattle.std.specs.Option.{option_map_or}
use Rattle.axi_link.specs.LinkView.{empty_link}
use Rattle.axi_link.specs.LinkWords.{link_of}
use Rattle.net_model.specs.Network.{Network, lower_node, net_link, upper_node}
use Rattle.node_core.specs.Acted.{Acted}
use Rattle.node_shape.specs.Kind.{Kind}
use Rattle.node_shape.specs.WaysAround.{AreApart}

module _ {S E : Type 0} (kind : Kind S E) where
  -- the links above a node, and those below it; none where there is no such node
  abbrev pub uppers_at : List (Acted S) → ℕ → List ℕ
  uppers_at nodes node = option_map_or (λ (n : Acted S). kind.uppers n.state) (slice_get nodes node) []

  abbrev pub lowers_at : List (Acted S) → ℕ → List ℕ
  lowers_at nodes node = option_map_or (λ (n : Acted S). kind.lowers n.state) (slice_get nodes node) []

  -- Each link stands once among the lower links of its upper node and once among the upper links of its lower node, and
  -- nodes name no other links. Each link falls: its lower node has the greater rank, so that there is no cycle. Nothing
  -- waits on a link at the start, and each has room for a beat.
  pub record IsWired (net : Network S) : Type 0 where
    pub rank : ℕ → ℕ
    pub ranked : (node : ℕ) → rank node ≤ length net.nodes
    pub long : length net.queues ≡ length net.links
    pub uppers : (node : ℕ) → All (λ link. (link < length net.links) × (lower_node net.links link ≡ node)) (uppers_at net.nodes node)
    pub lowers : (node : ℕ) → All (λ link. (link < length net.links) × (upper_node net.links link ≡ node)) (lowers_at net.nodes node)
    pub above : (link : ℕ) → link < length net.links → Contains (lowers_at net.nodes (upper_node net.links link)) link
    pub below : (link : ℕ) → link < length net.links → Contains (uppers_at net.nodes (lower_node net.links link)) link
    pub uppers_apart : (node : ℕ) → AreApart (uppers_at net.nodes node)
    pub lowers_apart : (node : ℕ) → AreApart (lowers_at net.nodes node)
    pub falls : (link : ℕ) → link < length net.links → rank (upper_node net.links link) < rank (lower_node net.links link)
    pub empty : (link : ℕ) → link < length net.links → link_of net.queues link ≡ empty_link (net_link net.links link).depth
    pub deep : (link : ℕ) → link < length net.links → 0 < (net_link net.links link).depth
