use Rattle.axi_trail.proofs.DataFacts.{answered_have_their_data}
use Rattle.axi_trail.proofs.OrderFacts.{own_requests_in_order, held_have_one_id}
use Rattle.axi_trail.proofs.PlaceFacts.{oldest_held_is_next_of_its_own}
use Rattle.axi_trail.proofs.SlackFacts.{asking_goes_down, answering_goes_up, asked_through_link, answered_through_link}
use Rattle.axi_trail.proofs.contract_laws.laws_of_contracts.Goals as goal

pub returns : goal.returns
returns c = record {
  down = asking_goes_down;
  up = answering_goes_up;
  asked = asked_through_link;
  answered = answered_through_link;
  own = own_requests_in_order;
  chain = held_have_one_id;
  next = oldest_held_is_next_of_its_own;
  written = answered_have_their_data;
}
