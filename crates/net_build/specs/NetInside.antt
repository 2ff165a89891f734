-- What a network that is run keeps.
use Rattle.std.specs.Prelude.{◌≡◌, ◌<◌, ◌^◌, length, map}
use Rattle.net_build.specs.NetRun.{NetRun}
use Rattle.net_build.specs.Notes.{note_of}
use Rattle.net_build.specs.Stands.{StandsAt}
use Rattle.net_build.specs.declared.net.Net.TheInside.{Inside}
use Rattle.net_kinds.specs.NodeKind.{node_kind}
use Rattle.net_opening.specs.Opening.{opening}
use Rattle.net_opening.specs.PlanLinks.{form_of_link}
use Rattle.net_ways.specs.Sound.{IsSound}
use Rattle.node_graph.specs.Graph.{numbers}
use Rattle.plan_traffic.specs.Accepted.{IsTraffic}
use Rattle.plan_traffic.specs.Bound.{round_bound}
use Rattle.topology.specs.Refused.{IsAccepted}
use Rattle.topology_text.specs.Formed.{AreFormed}

abbrev pub net_run : Inside → NetRun
net_run n = record { nodes = n.plan; items = n.traffic; rounds = n.net.rounds; decided = n.net.decided }

-- The document is accepted and its keys are within their limits; the network that it and the traffic become can be run, and
-- stands where its rounds lead; it is known where each transaction is noted, and by how many rounds the run is finished.
pub record IsRun (n : Inside) : Type 0 where
  pub accepted : IsAccepted n.plan
  pub formed : AreFormed n.plan
  pub traffic : IsTraffic n.plan n.traffic
  pub sound : IsSound node_kind (opening n.plan n.traffic) (form_of_link n.plan)
  pub stands_at : StandsAt n.plan n.traffic n.net
  pub notes : n.notes.items ≡ map (note_of n.plan n.traffic) (numbers (length n.traffic))
  pub bound : n.bound ≡ round_bound n.plan n.traffic
  pub small : n.bound < 2 ^ 62
