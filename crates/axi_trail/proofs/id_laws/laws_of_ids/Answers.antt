use Rattle.axi_trail.proofs.IdFacts.{answered_of_other_ids, answers_have_requests, held_of_one_id, held_of_other_ids, none_held_by_count, order_is_order_of_id, order_of_other_ids}
use Rattle.axi_trail.proofs.id_laws.laws_of_ids.Goals as goal

pub returns : goal.returns
returns c = record {
  requests = answers_have_requests;
  count = none_held_by_count;
  one = held_of_one_id;
  each = order_is_order_of_id;
  order = order_of_other_ids;
  answered = answered_of_other_ids;
  held = held_of_other_ids;
}
