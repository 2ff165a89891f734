use Rattle.slice_node.proofs.LocalLemmas.{slice-awaits_data, slice-entries_stay, slice-takes_addresses, slice-takes_answers}
use Rattle.slice_node.proofs.slice_laws.local_laws.Goals as goal

pub returns : goal.returns
returns c = record {
  answers_taken = slice-takes_answers (Unit {0});
  addresses_taken = slice-takes_addresses (Unit {0});
  data_awaited = slice-awaits_data (Unit {0});
  entries_stay = slice-entries_stay (Unit {0});
}
