-- The port of a link of a network whose nodes have decided.
use Rattle.std.proofs.Common.{◌≡◌, ◌<◌, ◌+◌, ℕ, List, false, length, map, get_or, sym, ◌∙◌, ap, subst, arith}
use Rattle.std.proofs.lemmas.List.{get_or_default, length-map}
use Rattle.axi_link.specs.LinkView.{LinkView, empty_link}
use Rattle.axi_link.specs.LinkWords.{link_of}
use Rattle.axi_link.specs.declared.out.Out.{Out}
use Rattle.link_ports.specs.PortView.{port_of}
use Rattle.net_kinds.specs.NodeKind.{node_view}
use Rattle.net_kinds.specs.NodeTable.{node_out}
use Rattle.net_kinds.specs.declared.node.Node.{Node}
use Rattle.net_model.specs.Network.{CanMoveQueue, lower_node, moves_at, net_link, upper_node}
use Rattle.net_model.specs.declared.net_link.NetLink.{NetLink}
use Rattle.net_runs.specs.Ports.{port_at, port_kind}
use Rattle.net_steps.proofs.PhaseLemmas.{moves-at}
use Rattle.net_steps.specs.NetView.{CanCommit, NetView, network_of}
use Rattle.plain_lists.proofs.NumberedLemmas.{all_numbered-at}

-- a link of a network that can move has its two nodes
pub record HasEnds (net : NetView) (number : ℕ) (link : NetLink) : Type 0 where
  pub same : net_link net.links number ≡ link
  pub upper : link.upper < length net.nodes
  pub lower : link.lower < length net.nodes

pub has-ends : (net : NetView) (number : ℕ) (link : NetLink) → CanCommit net → number < length net.queues → link ≡ get_or net.links number link → HasEnds net number link
has-ends net number link can within is =
    let zero_first : 0 + number ≡ number = omega arith in
    let moves = subst (λ (n : ℕ). CanMoveQueue net.links (map node_view net.nodes) n (get_or net.queues number (empty_link 0))) zero_first
    (all_numbered-at (CanMoveQueue net.links (map node_view net.nodes)) 0 net.queues number (empty_link 0) within can.queues) in
    let same : net_link net.links number ≡ link =
    get_or_default net.links number (record { upper = 0; lower = 0; lite = false; bus = 0; id_width = 0; depth = 0 }) link moves.known ∙ sym is in
    record {
      same = same;
      upper = subst (λ (l : NetLink). l.upper < length net.nodes) same (subst (λ (n : ℕ). upper_node net.links number < n) (length-map net.nodes node_view) moves.upper);
      lower = subst (λ (l : NetLink). l.lower < length net.nodes) same (subst (λ (n : ℕ). lower_node net.links number < n) (length-map net.nodes node_view) moves.lower);
    }

pub queue-at : (queues : List LinkView) (number : ℕ) (queue : LinkView) → number < length queues → queue ≡ get_or queues number queue → link_of queues number ≡ queue
queue-at queues number queue known is = get_or_default queues number (empty_link 0) queue known ∙ sym is

-- its port, of what was looked up
module _ (net : NetView) (number : ℕ) (link : NetLink) (ends : HasEnds net number link) where
  abbrev moves_of : ℕ → Out
  moves_of node = moves_at (map node_view net.nodes) node

  own-moves : (node : ℕ) (at : Node) → node < length net.nodes → at ≡ get_or net.nodes node at → moves_of node ≡ node_out at
  own-moves node at within is = moves-at net.nodes node at at (subst (λ (n : ℕ). node < n) (sym (length-map net.nodes node_view)) within) is

  pub port-is : (queue : LinkView) (above below : Node) (up down : Out) → link_of net.queues number ≡ queue → above ≡ get_or net.nodes link.upper above → below ≡ get_or net.nodes link.lower below →
      up ≡ node_out above → down ≡ node_out below →
      port_of (net.rounds + 1) number (record { lite = link.lite; bus = link.bus }) queue up down ≡ port_at (net.rounds + 1) (network_of net) number
  port-is queue above below up down queue_is above_is below_is up_is down_is =
      let round = net.rounds + 1 in
      let upper : moves_of (upper_node net.links number) ≡ up = ap (λ (l : NetLink). moves_of l.upper) ends.same ∙ own-moves link.upper above ends.upper above_is ∙ sym up_is in
      let lower : moves_of (lower_node net.links number) ≡ down = ap (λ (l : NetLink). moves_of l.lower) ends.same ∙ own-moves link.lower below ends.lower below_is ∙ sym down_is in
      ap (λ (l : NetLink). port_of round number (port_kind l) queue up down) (sym ends.same)
      ∙ ap (λ (q : LinkView). port_of round number (port_kind (net_link net.links number)) q up down) (sym queue_is)
      ∙ ap (λ (o : Out). port_of round number (port_kind (net_link net.links number)) (link_of net.queues number) o down) (sym upper)
      ∙ ap (λ (o : Out). port_of round number (port_kind (net_link net.links number)) (link_of net.queues number) (moves_of (upper_node net.links number)) o) (sym lower)
