use Rattle.split_node.proofs.LocalLemmas.{split-awaits_data, split-entries_stay, split-next_part, split-takes_addresses, split-takes_answers}
use Rattle.split_node.proofs.split_laws.local_laws.Goals as goal

pub returns : goal.returns
returns c = record {
  answers_taken = split-takes_answers (Unit {0});
  addresses_taken = split-takes_addresses (Unit {0});
  data_awaited = split-awaits_data (Unit {0});
  entries_stay = split-entries_stay (Unit {0});
  next_part = split-next_part;
}
