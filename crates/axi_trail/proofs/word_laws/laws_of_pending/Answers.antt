use Rattle.axi_trail.specs.Words.{len_of_asked}
use Rattle.axi_trail.proofs.MarkFacts.{pending_owe_the_rest, pending_of_selected, completed_are_complete}
use Rattle.axi_trail.proofs.SelectionFacts.{first_pending_is_next_of_its_own}
use Rattle.axi_trail.proofs.StepFacts.{next_beat, next_beat_of_selected, beat_keeps_order, pending-shown}
use Rattle.axi_trail.proofs.WaitingFacts.{pending-beat, pending-request, complete-pending, pending-none, none-pending}
use Rattle.axi_trail.proofs.word_laws.laws_of_pending.Goals as goal

pub returns : goal.returns
returns c = record {
  beat = pending-beat;
  request = pending-request;
  parts = complete-pending;
  none = λ len_of count xs. (pending-none len_of count xs, none-pending len_of count xs);
  rest = pending_owe_the_rest;
  selection = pending_of_selected;
  shown = λ shown count xs. pending-shown shown len_of_asked count xs;
  completed = completed_are_complete;
  next = next_beat;
  next_of_selected = next_beat_of_selected;
  next_of_its_own = first_pending_is_next_of_its_own;
  keeps = beat_keeps_order;
}
