use Rattle.axi_trail.specs.Words.{len_of_asked, id_of_asked}
use Rattle.axi_trail.proofs.HeldFacts.{held-answer, held-request, held-of_key, held-singles, unanswered_is_held, none_held_is_answered}
use Rattle.axi_trail.proofs.StepFacts.{next_answer, answer_keeps_order, later_requests_are_held, held_of_selected, held-shown}
use Rattle.axi_trail.proofs.word_laws.laws_of_held.Goals as goal

pub returns : goal.returns
returns c = record {
  answer = held-answer;
  request = held-request;
  later = later_requests_are_held;
  id = held-of_key;
  singles = held-singles;
  shown = λ shown xs ids. held-shown shown len_of_asked id_of_asked xs ids;
  selection = held_of_selected;
  unanswered = unanswered_is_held;
  none = none_held_is_answered;
  next = next_answer;
  keeps = answer_keeps_order;
}
