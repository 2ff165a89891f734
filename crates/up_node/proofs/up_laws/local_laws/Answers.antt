use Rattle.up_node.proofs.LocalLemmas.{up-awaits_data, up-entries_stay, up-takes_addresses, up-takes_answers}
use Rattle.up_node.proofs.up_laws.local_laws.Goals as goal

pub returns : goal.returns
returns c = record {
  answers_taken = up-takes_answers (Unit {0});
  addresses_taken = up-takes_addresses (Unit {0});
  data_awaited = up-awaits_data (Unit {0});
  entries_stay = up-entries_stay (Unit {0});
}
