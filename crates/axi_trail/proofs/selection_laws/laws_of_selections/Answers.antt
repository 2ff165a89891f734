use Rattle.plain_lists.proofs.SelectedLemmas.{of_number-selected}
use Rattle.axi_trail.specs.Words.{number_of_asked}
use Rattle.axi_trail.proofs.SelectionFacts.{all_lack_data, answered_of_selected, completed_of_selected, first_lacks_data, none_held_any_way, order_of_selected}
use Rattle.axi_trail.proofs.selection_laws.laws_of_selections.Goals as goal

pub returns : goal.returns
returns c = record {
  number = of_number-selected number_of_asked;
  order = order_of_selected;
  answered = answered_of_selected;
  none = none_held_any_way;
  completed = completed_of_selected;
  all_lack = all_lack_data;
  first_lacks = first_lacks_data;
}
