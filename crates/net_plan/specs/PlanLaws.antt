-- What holds of the network of every plan before its first round.
use Rattle.std.specs.Prelude.{◌≡◌, ◌<◌, ℕ, List, None, length}
use Rattle.elaborate.specs.Unbuilt.{unbuilt_at}
use Rattle.net_kinds.specs.NodeKind.{node_kind}
use Rattle.net_model.specs.Network.{net_link}
use Rattle.net_model.specs.Wired.{IsWired}
use Rattle.net_opening.specs.Opening.{opening}
use Rattle.net_opening.specs.PlanLinks.{form_of_link}
use Rattle.net_ways.specs.Sound.{IsFormOf, IsSound}
use Rattle.plan_traffic.specs.Accepted.{IsTraffic}
use Rattle.topology.specs.Document.{DocumentNode}
use Rattle.topology.specs.Refused.{IsAccepted}
use Rattle.topology_text.specs.Formed.{AreFormed}
use Rattle.plan_traffic.specs.Traffic.{TrafficItem}

-- a document whose network can run: each key is as its kind has it, no node is refused, and no kind is one that can't run yet
pub record CanRun (nodes : List DocumentNode) : Type 0 where
  pub formed : AreFormed nodes
  pub accepted : IsAccepted nodes
  pub built : unbuilt_at nodes ≡ None

-- each link stands once below its upper node and once above its lower one, and leads to a deeper node
abbrev pub OpeningsAreWired : Type 0
OpeningsAreWired = (nodes : List DocumentNode) (items : List TrafficItem) → CanRun nodes → IsWired node_kind (opening nodes items)

-- the form of a link tells what its record does
abbrev pub FormsAreOfLinks : Type 0
FormsAreOfLinks =
    (nodes : List DocumentNode) (items : List TrafficItem) (link : ℕ) → link < length (opening nodes items).links →
    IsFormOf (net_link (opening nodes items).links link) (form_of_link nodes link)

-- with traffic that suits it, the network can be run
abbrev pub OpeningsAreSound : Type 0
OpeningsAreSound =
    (nodes : List DocumentNode) (items : List TrafficItem) → CanRun nodes → IsTraffic nodes items →
    IsSound node_kind (opening nodes items) (form_of_link nodes)
