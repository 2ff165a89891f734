use Rattle.link_ports.proofs.ViewFacts.{transferred_are_trails, offered_are_trails, waiting_are_offered_again}
use Rattle.link_ports.proofs.view_laws.laws_of_views.Goals as goal

pub returns : goal.returns
returns c = record {
  transferred = transferred_are_trails;
  offered = offered_are_trails;
  waiting = waiting_are_offered_again;
}
