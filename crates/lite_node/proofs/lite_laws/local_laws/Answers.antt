use Rattle.lite_node.proofs.LocalLemmas.{lite-awaits_data, lite-entries_stay, lite-takes_addresses, lite-takes_answers}
use Rattle.lite_node.proofs.lite_laws.local_laws.Goals as goal

pub returns : goal.returns
returns c = record {
  answers_taken = lite-takes_answers (Unit {0});
  addresses_taken = lite-takes_addresses (Unit {0});
  data_awaited = lite-awaits_data (Unit {0});
  entries_stay = lite-entries_stay (Unit {0});
}
